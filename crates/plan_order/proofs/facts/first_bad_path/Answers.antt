use Rattle.std.proofs.Common.{rules, ◌≡◌, ℕ, sym, ap, ◌∙◌}
use Rattle.std.specs.Prelude.{Some, min}
use Rattle.ring_names.specs.declared.refusal.Refusal.TheVariants.{BadPath}
use Rattle.plan_order.proofs.Left.{passed, stopped}
use Rattle.plan_order.proofs.facts.first_bad_path.Goals as goal

pub loop-number-preserved : goal.loop-number-preserved
loop-number-preserved c = sym (passed c.args.paths.now c.loop-number.number c.row.result.now c.row.ensures c.args.plan.now (sym c.verify_fact.ensures ∙ c.if-not-verify_fact.false)) ∙ c.loop-number.invariant

pub returns-then-not-verify_fact : goal.returns-then-not-verify_fact
returns-then-not-verify_fact c =
    let named : min c.loop-number.number 4294967295 ≡ c.min.result = search rules in
    sym c.loop-number.invariant ∙ stopped c.args.paths.now c.loop-number.number c.row.result.now c.row.ensures c.args.plan.now (sym c.verify_fact.ensures ∙ c.if-not-verify_fact.true) ∙ ap (λ (n : ℕ). Some (BadPath n)) named
