use Rattle.std.proofs.Common.{◌∙◌, refl}
use Rattle.plan_order.specs.Order.{order}
use Rattle.plan_cover.proofs.Guarded.{node-tested, kept-within, fails, passes, gives-as}
use Rattle.std.proofs.lemmas.Result.{err_from_is_err_and}
use Rattle.plan_cover.specs.Clauses.{each_side, node_clauses}
use Rattle.plan_cover.specs.Looking.Guards.{count_guards}
use Rattle.plan_cover.specs.Looking.Places.{is_marked}
use Rattle.plan_cover.proofs.check.check_with.Goals as goal

pub mark_copies-requires : goal.mark_copies-requires
mark_copies-requires c =
    kept-within c.args.context.now.ring.now c.args.context.now.plan.now c.args.cover.now.copies c.args.marks.now c.requires.cover.copies c.requires.places c.args.node

pub returns-in_err-check_retirement-clause-first : goal.returns-in_err-check_retirement-clause-first
returns-in_err-check_retirement-clause-first c =
    let t = node-tested c.args.context.now.ring.now c.args.context.now.plan.now c.args.cert.now (order c.args.context.now) c.args.node c.items-numbers.result.now c.args.cover.now.copies (is_marked c.mark_copies.new.marks) (c.items-numbers.ensures ∙ c.requires.cover.chains c.args.node c.requires.node) c.requires.cover.copies c.mark_copies.ensures.marked c.args.context.now.suits.retirements in
    let p = err_from_is_err_and c.from_residual.result c.from_residual.ensures.1 in
    rw (p.1, p.2) (λ ne. t ∙ fails _ _ c.in_err-check_retirement.field-0.0 (c.in_err-check_retirement.ensures ne))

pub returns-in_err-check_chains-clause-first : goal.returns-in_err-check_chains-clause-first
returns-in_err-check_chains-clause-first c =
    let t = node-tested c.args.context.now.ring.now c.args.context.now.plan.now c.args.cert.now (order c.args.context.now) c.args.node c.items-numbers.result.now c.args.cover.now.copies (is_marked c.mark_copies.new.marks) (c.items-numbers.ensures ∙ c.requires.cover.chains c.args.node c.requires.node) c.requires.cover.copies c.mark_copies.ensures.marked c.args.context.now.suits.retirements in
    let p = err_from_is_err_and c.from_residual-in_err-check_chains.result c.from_residual-in_err-check_chains.ensures.1 in
    rw (p.1, p.2) (λ ne. t ∙ passes _ _ _ c.in_ok-check_retirement.ensures (fails _ _ c.in_err-check_chains.field-0.0 (c.in_err-check_chains.ensures ne)))

pub returns-in_err-check_covers-clause-first : goal.returns-in_err-check_covers-clause-first
returns-in_err-check_covers-clause-first c =
    let t = node-tested c.args.context.now.ring.now c.args.context.now.plan.now c.args.cert.now (order c.args.context.now) c.args.node c.items-numbers.result.now c.args.cover.now.copies (is_marked c.mark_copies.new.marks) (c.items-numbers.ensures ∙ c.requires.cover.chains c.args.node c.requires.node) c.requires.cover.copies c.mark_copies.ensures.marked c.args.context.now.suits.retirements in
    let p = err_from_is_err_and c.from_residual-in_err-check_covers.result c.from_residual-in_err-check_covers.ensures.1 in
    rw (p.1, p.2) (λ ne. t ∙ passes _ _ _ c.in_ok-check_retirement.ensures (passes _ _ _ c.in_ok-check_chains.ensures (fails _ _ c.in_err-check_covers.field-0.0 (c.in_err-check_covers.ensures.first ne))))

pub returns-clause-first : goal.returns-clause-first
returns-clause-first c =
    let t = node-tested c.args.context.now.ring.now c.args.context.now.plan.now c.args.cert.now (order c.args.context.now) c.args.node c.items-numbers.result.now c.args.cover.now.copies (is_marked c.mark_copies.new.marks) (c.items-numbers.ensures ∙ c.requires.cover.chains c.args.node c.requires.node) c.requires.cover.copies c.mark_copies.ensures.marked c.args.context.now.suits.retirements in
    gives-as c.check_counts.result (each_side (count_guards c.args.context.now.ring.now c.args.cert.now.chains c.items-numbers.result.now c.args.node)) (node_clauses c.args.context.now.ring.now c.args.context.now.plan.now c.args.cert.now (order c.args.context.now) c.args.node) (t ∙ passes _ _ _ c.in_ok-check_retirement.ensures (passes _ _ _ c.in_ok-check_chains.ensures (passes _ _ _ c.in_ok-check_covers.ensures.first refl))) c.check_counts.ensures
