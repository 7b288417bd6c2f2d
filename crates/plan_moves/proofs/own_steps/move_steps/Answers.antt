use Rattle.std.proofs.Common.{◌∙◌, ℕ, ◌<◌, nat_lt, List, length, sym, ap}
use Rattle.std.specs.Prelude.{not}
use Rattle.std.specs.List.{filter}
use Rattle.std.proofs.lemmas.List.Elements.{All-same}
use Rattle.texts.specs.Numbers.{ascending}
use Rattle.plan_text.specs.Steps.{steps_of}
use Rattle.plan_moves.specs.MoveLines.{sets_mirror, move_steps}
use Rattle.plan_moves.proofs.Moved.{later-within, front-more}
use Rattle.plan_stage.proofs.Rising.{steps-ascend}
use Rattle.plan_moves.proofs.own_steps.move_steps.Goals as goal

pub later-step-items-requires : goal.later-step-items-requires
later-step-items-requires c = ap ascending c.slot_steps.ensures.value ∙ steps-ascend c.args.plan.now c.args.movement.now.slot

pub sets_mirror-requires : goal.sets_mirror-requires
sets_mirror-requires c =
    let plan = c.args.plan.now in
    let m = c.args.movement.now in
    let greater : List ℕ → List ℕ = filter (λ s. nat_lt m.mirror s) in
    All-same (λ s. s < length plan) c.later-step-items.result.now (greater (steps_of plan m.slot)) (c.later-step-items.ensures ∙ ap greater c.slot_steps.ensures.value) (later-within plan m.slot m.mirror) c.loop-step.step-index 0 c.loop-step-test.true

pub loop-step-preserved : goal.loop-step-preserved
loop-step-preserved c =
    let plan = c.args.plan.now in
    front-more (λ s. not (sets_mirror plan s)) c.later-step-items.result.now c.loop-step.steps.items c.push-in-loop-step.new.self.items (move_steps plan c.args.movement.now) c.loop-step.step-index 0 c.loop-step-test.true
    (ap not (sym c.sets_mirror.ensures ∙ c.if-sets_mirror.false)) c.loop-step.invariant c.in_ok-push-2.ensures.items
