use Rattle.std.proofs.Common.{◌∙◌, ap, inl, inr, sym}
use Rattle.plan_cover.specs.declared.present.Serving.{Serving}
use Rattle.plan_around.specs.Ends.{owner}
use Rattle.plan_around.proofs.ending.mark_owners.Goals as goal

pub loop-index-preserved : goal.loop-index-preserved
loop-index-preserved c = λ x f w m. elim (c.mark.ensures x f) [
  | inl h ↦ owner c.args.partition c.loop-index.index (sym (ap (λ (s : Serving). s.owner.0) (c.at.ensures ∙ c.requires.ended.new _)) ∙ sym h)
  | inr h ↦ c.loop-index.invariant x h w m
]
