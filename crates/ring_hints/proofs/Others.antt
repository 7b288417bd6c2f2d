-- The other slots of a partition, index after index.
use Rattle.std.proofs.Common.{◌≡◌, ◌≢◌, ◌⊎◌, inl, inr, ◌+◌, ℕ, ◌<◌, ◌≤◌, [], sym, subst, arith, ◌∙◌}
use Rattle.std.specs.Prelude.{◌==◌}
use Rattle.std.proofs.lemmas.Bool.{cases_Bool, cases_lt, false_from_ne_true}
use Rattle.std.proofs.lemmas.Bool.Decides.{nat_tests}
use Rattle.ring_names.specs.declared.ids.Slot.{Slot}
use Rattle.store_maps.specs.declared.key_id.KeyId.{KeyId}
use Rattle.ring_hints.specs.declared.maps.Maps.{Maps}
use Rattle.ring_hints.specs.Maps.{hinted_at}
use Rattle.ring_hints.specs.Pairs.{is_pair}
use Rattle.ring_hints.proofs.PairChanged.{keeps_is, pair_few}

same_or : (i n : ℕ) → i < n + 1 → (i ≡ n) ⊎ (i < n)
same_or i n l = elim (cases_Bool (i == n)) [ inl y ↦ inl (grind (arith, nat_tests)) | inr other ↦ inr (grind (arith, nat_tests)) ]

-- with the next index, which is the slot's own or has what is said
pub next_other : (P : ℕ → Type 0) (own n : ℕ) → ((i : ℕ) → i < n → i ≢ own → P i) → (n ≢ own → P n) → (i : ℕ) → i < n + 1 → i ≢ own → P i
next_other P own n before here i l ne = elim (same_or i n l) [ inl e ↦ subst P (sym e) (here (λ h. ne (e ∙ h))) | inr less ↦ before i less ne ]

-- where nothing is kept for seven indexes, nothing is for any
pub all_others : (a : Maps) (x n : ℕ) (slot s : Slot) → 7 ≤ n → ((i : ℕ) → i < n → i ≢ slot.index → (k : KeyId) → hinted_at a x (record { partition = slot.partition; index = i }) k ≡ [])
    → s.partition ≡ slot.partition → s.index ≢ slot.index → (k : KeyId) → hinted_at a x s k ≡ []
all_others a x n slot s enough before same ne k = elim (cases_lt s.index n) [
  | inl less ↦ subst (λ (p : ℕ). hinted_at a x (record { partition = p; index = s.index }) k ≡ []) (sym same) (before s.index less ne k)
  | inr more ↦ (keeps_is a x s).0 (false_from_ne_true (is_pair a.pairs x s) (λ h. let few = pair_few a x s h in omega arith)) k
]
