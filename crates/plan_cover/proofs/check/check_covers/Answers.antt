use Rattle.std.proofs.Common.{◌∙◌, refl}
use Rattle.std.proofs.lemmas.Result.{err_from_is_err_and}
use Rattle.ring_table.specs.declared.allowance.Side.TheVariants.{Give}
use Rattle.plan_cover.specs.Clauses.{each_side}
use Rattle.plan_cover.specs.Looking.Guards.{side_guards}
use Rattle.plan_cover.proofs.Guarded.{each-first, fails, passes, gives-as}
use Rattle.plan_cover.proofs.check.check_covers.Goals as goal

pub returns-in_err-check_copies-clause-first : goal.returns-in_err-check_copies-clause-first
returns-in_err-check_copies-clause-first c =
    let clauses = side_guards c.args.copies.now c.args.chains.now c.args.numbers.now c.args.node in
    let p = err_from_is_err_and c.from_residual.result c.from_residual.ensures.1 in
    rw (p.1, p.2) (λ ne. each-first clauses ∙ fails _ _ c.in_err-check_copies.field-0.0 (c.in_err-check_copies.ensures.first ne))

pub returns-in_err-check_copies-2-clause-first : goal.returns-in_err-check_copies-2-clause-first
returns-in_err-check_copies-2-clause-first c =
    let clauses = side_guards c.args.copies.now c.args.chains.now c.args.numbers.now c.args.node in
    let p = err_from_is_err_and c.from_residual-in_err-check_copies-2.result c.from_residual-in_err-check_copies-2.ensures.1 in
    rw (p.1, p.2) (λ ne. each-first clauses ∙ passes _ _ _ c.in_ok-check_copies.ensures.first (fails _ _ c.in_err-check_copies-2.field-0.0 (c.in_err-check_copies-2.ensures.first ne)))

pub returns-clause-first : goal.returns-clause-first
returns-clause-first c =
    let clauses = side_guards c.args.copies.now c.args.chains.now c.args.numbers.now c.args.node in
    gives-as c.check_copies-3.result (clauses Give) (each_side clauses) (each-first clauses ∙ passes _ _ _ c.in_ok-check_copies.ensures.first (passes _ _ _ c.in_ok-check_copies-2.ensures.first refl)) c.check_copies-3.ensures.first
