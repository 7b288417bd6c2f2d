-- The holdings of the slots of a partition, one slot after the other.
use Rattle.std.proofs.Common.{◌≡◌, ◌∙◌, ℕ, zero, suc, ◌+◌, ◌<◌, List, [], ◌∷◌, ◌++◌, length, Option, Some, None, refl, ap, subst, arith, below_more, length-append}
use Rattle.std.specs.Prelude.{slice_get, reverse}
use Rattle.ring_names.specs.declared.ids.NodeId.{NodeId}
use Rattle.ring_table.specs.Value.{RingValue}
use Rattle.plan_text.specs.declared.step.Planned.{Planned}
use Rattle.plan_stage.specs.declared.holding.Holding.{Holding}
use Rattle.plan_stage.specs.declared.held.Held.{Held}
use Rattle.plan_stage.specs.Holdings.{holdings}
use Rattle.plan_stage.specs.Looking.Held.{held_of, IsHeld}

-- what is kept of the node in the slot of that index
abbrev pub held_in : List Held → ℕ → NodeId → List Holding
held_in slots i x = elim (slice_get slots i) [ None ↦ [] | Some slot ↦ held_of slot x ]

-- that of each slot of smaller index is all its holdings
pub record HoldsBelow (ring : RingValue) (plan : List Planned) (p n : ℕ) (slots : List Held) : Type 0 where
  pub count : length slots ≡ n
  pub each : (i : ℕ) → i < n → (x : NodeId) → held_in slots i x ≡ reverse (holdings ring plan (record { partition = p; index = i }) x)

before_last : (slots : List Held) (a : Held) (i : ℕ) → i < length slots → slice_get (slots ++ a ∷ []) i ≡ slice_get slots i
before_last [] a i l = absurd (omega arith)
before_last (s ∷ ss) a zero l = refl
before_last (s ∷ ss) a (suc i) l = before_last ss a i (omega arith)

at_last : (slots : List Held) (a : Held) → slice_get (slots ++ a ∷ []) (length slots) ≡ Some a
at_last [] a = refl
at_last (s ∷ ss) a = at_last ss a

held_as : (x : NodeId) (o q : Option Held) → o ≡ q → (elim o as (λ _. List Holding) [ None ↦ [] | Some slot ↦ held_of slot x ]) ≡ (elim q as (λ _. List Holding) [ None ↦ [] | Some slot ↦ held_of slot x ])
held_as x o q e = ap (λ (r : Option Held). elim r as (λ _. List Holding) [ None ↦ [] | Some slot ↦ held_of slot x ]) e

pub holds_more : (ring : RingValue) (plan : List Planned) (p n : ℕ) (slots : List Held) (a : Held) → HoldsBelow ring plan p n slots → IsHeld ring plan (record { partition = p; index = n }) (held_of a) → HoldsBelow ring plan p (n + 1) (slots ++ a ∷ [])
holds_more ring plan p n slots a h held = record {
  count = length-append slots (a ∷ []) ∙ ap (λ (k : ℕ). k + 1) h.count;
  each = below_more (λ (i : ℕ). (x : NodeId) → held_in (slots ++ a ∷ []) i x ≡ reverse (holdings ring plan (record { partition = p; index = i }) x)) n
      (λ i l x. let within : i < length slots = rw h.count l in held_as x _ _ (before_last slots a i within) ∙ h.each i l x)
      (λ x. held_as x _ _ (subst (λ (k : ℕ). slice_get (slots ++ a ∷ []) k ≡ Some a) h.count (at_last slots a)) ∙ held x);
}
