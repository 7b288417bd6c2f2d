-- Who keeps something of which keys, once one slot's holders have changed.
use Rattle.std.proofs.Common.{◌≡◌, ◌∙◌, ℕ, Bool, true, false, cond, refl, sym, ap, Option, Some}
use Rattle.std.specs.Prelude.{◌&&◌, ◌==◌}
use Rattle.std.proofs.Math.Bool.{and_comm}
use Rattle.std.proofs.lemmas.Bool.{and_parts, eqb-true}
use Rattle.ring_names.proofs.Logic.{and_true, and_false}
use Rattle.ring_names.specs.declared.ids.Slot.{Slot}
use Rattle.ring_names.specs.contracts.ids.SlotPartialEq.TheImpl as slot_eq
use Rattle.store_maps.specs.declared.holders.Holders.{Holders}
use Rattle.store_maps.specs.declared.key_id.KeyId.{KeyId}
use Rattle.store_maps.specs.Holders.{holds}
use Rattle.store_maps.specs.Ids.{same_key}
use Rattle.ring_hints.specs.declared.kept_for.KeptFor.{KeptFor}
use Rattle.ring_hints.specs.SlotHolders.{has_key}
use Rattle.ring_hints.specs.Views.{is_of}

same_slot : (s t : Slot) → (slot_eq.ghosts).eq s t ≡ true → s ≡ t
same_slot s t h =
    let p = and_parts (s.partition == t.partition) (s.index == t.index) h in
    λ i. record { partition = eqb-true s.partition t.partition p.0 i; index = eqb-true s.index t.index p.1 i }

-- one slot's holders are w now, if f tells of the pair's node at the key; the others' stay
pub slot_changed : (pair : KeptFor) (old new : Slot → Option Holders) (w : Holders) (key : KeyId) (f : Bool → Bool → Bool) → ((b : Bool) → f false b ≡ b)
    → ((s : Slot) → new s ≡ cond ((slot_eq.ghosts).eq pair.slot s) (Some w) (old s))
    → ((k : KeyId) (x : ℕ) → holds w k x ≡ f (same_key key k && (pair.keeper.0 == x)) (has_key (old pair.slot) k x))
    → (s : Slot) (k : KeyId) (x : ℕ) → has_key (new s) k x ≡ f (is_of pair x s && same_key key k) (has_key (old s) k x)
slot_changed pair old new w key f stays is h s k x = ap (λ o. has_key o k x) (is s) ∙ by ((slot_eq.ghosts).eq pair.slot s) refl
  where
    here : (b : Bool) → (slot_eq.ghosts).eq pair.slot s ≡ b → (is_of pair x s && same_key key k) ≡ (((pair.keeper.0 == x) && b) && same_key key k)
    here b e = ap (λ (c : Bool). ((pair.keeper.0 == x) && c) && same_key key k) e

    by : (b : Bool) → (slot_eq.ghosts).eq pair.slot s ≡ b → has_key (cond b (Some w) (old s)) k x ≡ f (is_of pair x s && same_key key k) (has_key (old s) k x)
    by true e =
        h k x ∙ ap (λ (t : Slot). f (same_key key k && (pair.keeper.0 == x)) (has_key (old t) k x)) (same_slot pair.slot s e)
        ∙ ap (λ (b : Bool). f b (has_key (old s) k x)) (and_comm (same_key key k) (pair.keeper.0 == x) ∙ sym (here true e ∙ ap (λ (b : Bool). b && same_key key k) (and_true (pair.keeper.0 == x))))
    by false e = sym (ap (λ (b : Bool). f b (has_key (old s) k x)) (here false e ∙ ap (λ (b : Bool). b && same_key key k) (and_false (pair.keeper.0 == x))) ∙ stays (has_key (old s) k x))
