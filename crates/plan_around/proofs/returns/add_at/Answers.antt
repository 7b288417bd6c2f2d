use Rattle.std.proofs.Common.{◌≡◌, ◌∙◌, inl, inr, sym, subst, true}
use Rattle.std.proofs.lemmas.Bool.{ltb-true, or_cases}
use Rattle.std.proofs.lemmas.List.Folds.{list_any_at}
use Rattle.plan_text.specs.Steps.{is_slot}
use Rattle.plan_stage.proofs.Truth.{slot-is}
use Rattle.ring_names.specs.declared.ids.Slot.{Slot}
use Rattle.plan_around.proofs.returns.add_at.Goals as goal

pub returns-in_ok-add-in-Some : goal.returns-in_ok-add-in-Some
returns-in_ok-add-in-Some c = λ s h.
    let x = c.in-Some.slot.now in
    let at = c.in-Some.ensures.lookup in
    elim (or_cases _ _ (sym (c.in_ok-add-in-Some.ensures s) ∙ h)) [
      | inl e ↦
          let same = slot-is s x e in
          let own = subst (λ (t : Slot). is_slot s t ≡ true) (sym same) e in
          list_any_at (λ (t : Slot). is_slot t s) c.args.left.now c.args.place x (ltb-true _ _ (sym at.0)) (subst (λ (t : Slot). is_slot t s ≡ true) (same ∙ at.1) own)
      | inr e ↦ c.requires s e
    ]
