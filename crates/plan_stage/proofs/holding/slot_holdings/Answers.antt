use Rattle.std.proofs.Common.{◌≡◌, ℕ, ◌<◌, ◌≤◌, length, drop, arith, subst, sym, ap, ◌∙◌}
use Rattle.plan_stage.specs.Looking.Switches.{IsBehind}
use Rattle.plan_stage.specs.declared.held.Held.{Held}
use Rattle.plan_stage.specs.Looking.Held.{IsHeld, held_of}
use Rattle.plan_stage.proofs.Spans.{goes_back, is_held}
use Rattle.plan_stage.proofs.holding.slot_holdings.Goals as goal

pub loop-k-preserved : goal.loop-k-preserved
loop-k-preserved c =
    let numbers = c.slot_steps-numbers.result.now in
    let some : 0 < c.loop-k.k = omega arith in
    let within : c.loop-k.k ≤ length numbers = omega arith in
    goes_back c.args.plan.now c.args.slot numbers c.loop-k.k c.loop-k.behind c.add.new.self c.step.result.now c.slot_steps-numbers.ensures.value some within c.step.ensures.value c.in_ok-add.ensures.ok c.loop-k.invariant

pub returns-clause-ok : goal.returns-clause-ok
returns-clause-ok c =
    let plan = c.args.plan.now in
    let first : c.loop-k.k ≡ 0 = omega arith in
    let all = ap (λ (k : ℕ). drop k c.slot_steps-numbers.result.now) first ∙ c.slot_steps-numbers.ensures.value in
    let behind = subst (IsBehind plan c.args.slot c.loop-k.behind) all c.loop-k.invariant in
    subst (λ (a : Held). IsHeld c.args.ring.now plan c.args.slot (held_of a)) (sym c.into_held.ensures) (is_held c.args.ring.now plan c.args.slot c.owner.result c.loop-k.behind c.begin.new.self.held c.owner.ensures c.requires.staged behind c.in_ok-begin.ensures.held)
