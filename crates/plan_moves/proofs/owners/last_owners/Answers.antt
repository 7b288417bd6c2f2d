use Rattle.std.proofs.Common.{◌≡◌, ◌∙◌, List, ◌++◌, ◌∷◌, [], length, sym, ap, arith}
use Rattle.ring_names.specs.declared.ids.NodeId.{NodeId}
use Rattle.plan_cover.specs.Looking.Serving.{serving_at}
use Rattle.plan_moves.specs.Moves.{served_before}
use Rattle.plan_moves.specs.Owners.{rows_by}
use Rattle.plan_moves.proofs.Owning.{rows-none, rows-then, rows-alike}
use Rattle.plan_moves.proofs.owners.last_owners.Goals as goal

pub loop-partition-init : goal.loop-partition-init
loop-partition-init c = c.new-rows.ensures.items ∙ sym (rows-none (serving_at c.args.ring.now c.in_ok-present.present) c.args.ring.now.n)

pub loop-partition-preserved : goal.loop-partition-preserved
loop-partition-preserved c =
    let serve = serving_at c.args.ring.now c.in_ok-present.present in
    let n = c.args.ring.now.n in
    c.in_ok-push.ensures.items ∙ ap (λ (xs : List (List NodeId)). xs ++ c.in_ok-row_of.field-0 ∷ []) c.loop-partition.invariant
    ∙ ap (λ (row : List NodeId). rows_by serve n c.loop-partition.partition ++ row ∷ []) c.in_ok-row_of.ensures.ok ∙ sym (rows-then serve n c.loop-partition.partition)

pub returns-clause-ok : goal.returns-clause-ok
returns-clause-ok c =
    let ring = c.args.ring.now in
    let plan = c.args.plan.now in
    let end : c.loop-partition.partition ≡ ring.q = omega arith in
    c.loop-partition.invariant ∙ ap (rows_by (serving_at ring c.in_ok-present.present) ring.n) end
    ∙ rows-alike (serving_at ring c.in_ok-present.present) (served_before ring plan (length plan)) ring.n ring.q c.in_ok-present.ensures.ok
