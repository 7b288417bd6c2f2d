use Rattle.std.proofs.Common.{◌∙◌, ap, inl, inr, sym}
use Rattle.std.specs.Prelude.{◌==◌}
use Rattle.std.proofs.lemmas.Bool.{eq-eqb, ltb-true}
use Rattle.std.proofs.lemmas.List.Folds.{list_any_at}
use Rattle.ring_names.specs.declared.ids.Slot.{Slot}
use Rattle.plan_around.proofs.ending.mark_at.Goals as goal

pub returns-in-Some : goal.returns-in-Some
returns-in-Some c = λ p f. elim (c.mark.ensures p f) [
  | inl h ↦
      let x = c.in-Some.slot.now in
      let at = c.in-Some.ensures.lookup in
      list_any_at (λ (s : Slot). s.partition == p) c.args.left.now c.args.place x (ltb-true _ _ (sym at.0)) (eq-eqb _ p (ap (λ (s : Slot). s.partition) (sym at.1) ∙ sym h))
  | inr h ↦ c.requires p h
]
