-- What versions show of puts where some of them are gone.
use Rattle.std.proofs.Common.{◌≡◌, ◌⊎◌, inl, inr, ◌∙◌, ℕ, Bool, true, false, not, cond, List, [], refl, sym, subst, eqb-true, eq-eqb}
use Rattle.std.specs.Prelude.{◌≢◌, ◌&&◌, ◌==◌}
use Rattle.ring_names.specs.declared.ids.NodeId.{NodeId}
use Rattle.ring_names.specs.declared.ids.Slot.{Slot}
use Rattle.ring_clock.specs.declared.entry.Entry.{Entry}
use Rattle.ring_versions.specs.declared.version.Version.{Version}
use Rattle.plan_text.specs.Steps.{is_slot}
use Rattle.plan_stage.proofs.Truth.{slot-is, slot-same}
use Rattle.plan_runs.specs.World.{World, is_of_key}
use Rattle.store_parts.specs.Shows.{Shows, value_of}
use Rattle.store_parts.specs.Stored.{ShowAll}
use Rattle.store_parts.proofs.ShownSets.{none}
use Rattle.store_maps.specs.declared.key_id.KeyId.{KeyId}
use Rattle.store_parts.specs.KeyTable.{KeyTable}
use Rattle.store_parts.specs.Numbers.{by_keys, ArePlaced}
use Rattle.store_parts.proofs.Numbers.{same, other, placed_less}
use Rattle.store_events.specs.Acts.{Forgets}

-- the puts that are left
abbrev pub left : (ℕ → Slot → Bool) → (ℕ → Slot → ℕ → Bool) → ℕ → Slot → ℕ → Bool
left gone test y t v = not (gone y t) && test y t v

pub forgotten : (w : World) (clock : ℕ → List Entry) (gone : ℕ → Slot → Bool) (old new : ℕ → Slot → List ℕ → List Version) (test : ℕ → Slot → ℕ → Bool)
    → Forgets gone old new → ShowAll w clock old test → ShowAll w clock new (left gone test)
forgotten w clock gone old new test forgets shows y t key = subst (λ (held : List Version). Shows clock (value_of w) held (λ v. left gone test y t v && is_of_key w key v)) (sym (forgets y t key)) (by (gone y t))
  where
    by : (b : Bool) → Shows clock (value_of w) (cond b [] (old y t key)) (λ v. (not b && test y t v) && is_of_key w key v)
    by true = none clock (value_of w)
    by false = shows y t key

-- ---- what a node drops of a slot, and what it has of all

pub drops : {K : Type 0} (x : NodeId) (s : Slot) (old new : ℕ → Slot → K → List Version) → ((key : K) → new x.0 s key ≡ [])
    → ((y : ℕ) (t : Slot) (key : K) → (y ≢ x.0) ⊎ (t ≢ s) → new y t key ≡ old y t key) → Forgets (λ y t. (y == x.0) && is_slot s t) old new
drops x s old new gone others y t key = by (y == x.0) (is_slot s t) refl refl
  where
    by : (a b : Bool) → (y == x.0) ≡ a → is_slot s t ≡ b → new y t key ≡ cond (a && b) [] (old y t key)
    by true true e f = subst (λ (z : ℕ). new z t key ≡ []) (sym (eqb-true y x.0 e)) (subst (λ (z : Slot). new x.0 z key ≡ []) (slot-is s t f) (gone key))
    by true false e f = others y t key (inr (λ h. (let g : is_slot s t ≡ true = subst (λ (z : Slot). is_slot s z ≡ true) (sym h) (slot-same s) in absurd cc)))
    by false b e f = others y t key (inl (λ h. (let g : (y == x.0) ≡ true = eq-eqb y x.0 h in absurd cc)))

pub clears : {K : Type 0} (x : NodeId) (old new : ℕ → Slot → K → List Version) → ((s : Slot) (key : K) → new x.0 s key ≡ [])
    → ((y : ℕ) (t : Slot) (key : K) → y ≢ x.0 → new y t key ≡ old y t key) → Forgets (λ y t. y == x.0) old new
clears x old new gone others y t key = by (y == x.0) refl
  where
    by : (a : Bool) → (y == x.0) ≡ a → new y t key ≡ cond a [] (old y t key)
    by true e = subst (λ (z : ℕ). new z t key ≡ []) (sym (eqb-true y x.0 e)) (gone t key)
    by false e = others y t key (λ h. (let g : (y == x.0) ≡ true = eq-eqb y x.0 h in absurd cc))

-- ---- by number

-- what is gone of all ids is gone of all keys
pub forgets_named : (t : KeyTable) (gone : ℕ → Slot → Bool) (old new : ℕ → Slot → KeyId → List Version) → Forgets gone old new → Forgets gone (by_keys t old) (by_keys t new)
forgets_named t gone old new h y s key = same t (new y s) (λ k. cond (gone y s) [] (old y s k)) (h y s) key ∙ other t (gone y s) (old y s) key

pub placed_left : (t : KeyTable) (gone : ℕ → Slot → Bool) (old new : ℕ → Slot → KeyId → List Version) → Forgets gone old new → ((y : ℕ) (s : Slot) → ArePlaced t (old y s)) → (y : ℕ) (s : Slot) → ArePlaced t (new y s)
placed_left t gone old new h had y s = placed_less t (old y s) (new y s) (had y s) (λ k. by (gone y s) (new y s k) (old y s k) (h y s k))
  where
    by : (b : Bool) (x z : List Version) → x ≡ cond b [] z → (x ≡ z) ⊎ (x ≡ [])
    by true x z e = inr e
    by false x z e = inl e
