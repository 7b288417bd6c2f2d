use Rattle.std.proofs.Common.{◌∙◌, List, ◌++◌, ◌∷◌, [], sym, ap}
use Rattle.ring_names.specs.declared.ids.NodeId.{NodeId}
use Rattle.plan_cover.specs.declared.present.Serving.{Serving}
use Rattle.plan_cover.specs.Looking.Serving.{serving_at}
use Rattle.plan_moves.specs.Owners.{row_by}
use Rattle.plan_moves.proofs.Owning.{row-none, row-then}
use Rattle.plan_moves.proofs.owners.row_of.Goals as goal

pub loop-index-init : goal.loop-index-init
loop-index-init c = c.new-row.ensures.items ∙ sym (row-none (serving_at c.args.ring.now c.args.present.now) c.args.partition)

pub loop-index-preserved : goal.loop-index-preserved
loop-index-preserved c =
    let serve = serving_at c.args.ring.now c.args.present.now in
    let front = row_by serve c.args.partition c.loop-index.index in
    c.in_ok-push.ensures.items ∙ ap (λ (xs : List NodeId). xs ++ c.at.result.owner ∷ []) c.loop-index.invariant
    ∙ ap (λ (v : Serving). front ++ v.owner ∷ []) c.at.ensures ∙ sym (row-then serve c.args.partition c.loop-index.index)
