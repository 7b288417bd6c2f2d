-- What one step more asks of nodes.
use Rattle.std.proofs.Common.{◌≡◌, ◌∙◌, ◌⊎◌, inl, inr, ℕ, zero, suc, ◌+◌, ◌<◌, true, List, [], ◌∷◌, map, length, Some, refl, sym, ap, subst, arith}
use Rattle.std.specs.Prelude.{◌||◌, slice_get, option_map}
use Rattle.ring_names.specs.declared.ids.NodeId.{NodeId}
use Rattle.ring_names.specs.declared.ids.Slot.{Slot}
use Rattle.ring_table.specs.Value.{RingValue}
use Rattle.plan_text.specs.declared.step.Step.{Step}
use Rattle.plan_text.specs.declared.step.Step.TheVariants.{Join, Mirror, Copy, Switch, Drop, Retire}
use Rattle.plan_text.specs.declared.step.Planned.{Planned}
use Rattle.plan_stage.specs.Each.{step_at}
use Rattle.plan_stage.specs.Parties.{stage_before, source_slots}
use Rattle.plan_stage.proofs.Places.{step_at-is}
use Rattle.plan_runs.specs.World.{World}
use Rattle.plan_cover.specs.declared.present.Serving.{Serving}
use Rattle.plan_cover.specs.Looking.Serving.{serving_of}
use Rattle.plan_moves.specs.Moves.{served_before}
use Rattle.plan_goal.specs.Reached.{are_spared}
use Rattle.plan_around.specs.Apart.{mirrors, asked, is_whole, is_apart}

owners-alike : (f g : Slot → Serving) (slots : List Slot) → ((slot : Slot) → f slot ≡ g slot) → map (λ (t : Slot). (f t).owner) slots ≡ map (λ (t : Slot). (g t).owner) slots
owners-alike f g [] same = refl
owners-alike f g (s ∷ ss) same = (let one : (f s).owner ≡ (g s).owner = ap (λ (v : Serving). v.owner) (same s) in rw (one, owners-alike f g ss same) refl)

-- what a step asks depends only on who serves the slots
asked-alike : (f g : Slot → Serving) (t : Step) → ((slot : Slot) → f slot ≡ g slot) → asked f t ≡ asked g t
asked-alike f g (Join x) same = refl
asked-alike f g (Mirror s x) same = refl
asked-alike f g (Copy s from) same = (let one : mirrors (f s).mirror ≡ mirrors (g s).mirror = ap (λ (v : Serving). mirrors v.mirror) (same s) in rw (one, owners-alike f g (source_slots s from) same) refl)
asked-alike f g (Switch s) same = refl
asked-alike f g (Drop s x) same = refl
asked-alike f g (Retire x) same = refl

cut : (k n : ℕ) → k < n + 1 → (k < n) ⊎ (n ≡ k)
cut k n l = grind arith

-- a step that is there has a number below the plan's length
within : (plan : List Planned) (n : ℕ) (s : Step) → step_at plan n ≡ Some s → n < length plan
within [] n s e = absurd cc
within (x ∷ xs) zero s e = omega arith
within (x ∷ xs) (suc n) s e = (let r = within xs n s e in omega arith)

-- the steps below number n are apart in each world of some kind
abbrev pub ApartBelow : RingValue → List Planned → List NodeId → (World → Type 0) → ℕ → Type 0
ApartBelow ring plan dead Kind n = (w : World) → Kind w → (k : ℕ) → k < n → (s : Step) → step_at plan k ≡ Some s → is_apart ring plan dead w k s ≡ true

-- so are those below the next number, where step n is
pub apart-more : (ring : RingValue) (plan : List Planned) (dead : List NodeId) (Kind : World → Type 0) (n : ℕ) (t : Step) (serve : Slot → Serving)
    → option_map (λ (x : Planned). x.step) (slice_get plan n) ≡ Some t → ((s : Slot) → serve s ≡ serving_of (stage_before ring plan s n))
    → ((w : World) → Kind w → (w.done n || is_whole w n || are_spared dead (asked serve t)) ≡ true) → ApartBelow ring plan dead Kind n → ApartBelow ring plan dead Kind (n + 1)
apart-more ring plan dead Kind n t serve at same here below w kind k l s is = elim (cut k n l) [
  | inl h ↦ below w kind k h s is
  | inr h ↦ subst (λ j. step_at plan j ≡ Some s → is_apart ring plan dead w j s ≡ true) h (λ now. this now) is
]
  where
    this : step_at plan n ≡ Some s → is_apart ring plan dead w n s ≡ true
    this now =
        let one : t ≡ s = (let e : Some t ≡ Some s = sym (step_at-is plan n t at) ∙ now in cc) in
        subst (λ (x : Step). is_apart ring plan dead w n x ≡ true) one
        (ap (λ (xs : List NodeId). w.done n || is_whole w n || are_spared dead xs) (sym (asked-alike serve (served_before ring plan n) t same)) ∙ here w kind)
