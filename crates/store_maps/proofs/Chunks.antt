-- The maps of a slot's chunks, one of which changed or was made.
use Rattle.std.proofs.Common.{◌≡◌, ◌≢◌, ◌∙◌, ◌≤◌, ◌<◌, ℕ, Bool, true, false, List, [], refl, sym, ap, subst, Option, Some, None, arith, slice_set, get_or}
use Rattle.std.specs.Ordering.{nat_cmp}
use Rattle.std.specs.Prelude.{◌==◌, ◌&&◌, if◌then◌else◌, unwrap_or}
use Rattle.std.proofs.lemmas.Bool.{eq-eqb, ne_eqb}
use Rattle.ring_versions.specs.Versions.{IsApart, IsMerge}
use Rattle.ring_versions.specs.declared.version.Version.{Version}
use Rattle.store_maps.specs.declared.key_id.KeyId.{KeyId}
use Rattle.store_maps.specs.declared.key_map.KeyMap.{KeyMap}
use Rattle.store_maps.specs.declared.slot_map.SlotMap.{SlotMap}
use Rattle.store_maps.specs.Chunks.{held_of, place_in, AreNarrow}
use Rattle.store_maps.specs.Held.{map_entry, held, has_place}
use Rattle.store_maps.specs.Merges.{MergesAll, at_number, at_key}
use Rattle.store_maps.specs.Places.{value_in}
use Rattle.store_maps.specs.Slots.{held_for, has_place_for, held_by}
use Rattle.store_maps.specs.Sorted.{IsThere, PutsAt}
use Rattle.store_maps.proofs.MergesInTurn.{merge_none}
use Rattle.store_maps.proofs.OneAnswer.{none_from_empty}
use Rattle.store_maps.proofs.Over.{map_apart}
use Rattle.store_maps.proofs.Sorted.{number_order, by_key, read_there, written}

-- ---- what is held

pub apart_of : (o : Option KeyMap) (n : ℕ) → IsApart (held_of o n)
apart_of None n = tt
apart_of (Some m) n = map_apart m n

-- what a slot holds of a key is apart
pub slot_apart : (a : SlotMap) (k : KeyId) → IsApart (held_for a k)
unfolding held_for
slot_apart a k = apart_of (value_in a.chunks.items k.chunk) k.number

pub apart_by : (o : Option SlotMap) (k : KeyId) → IsApart (held_by o k)
apart_by None k = tt
apart_by (Some m) k = slot_apart m k

-- a key without a place has no versions
pub no_place : (m : KeyMap) (n : ℕ) → has_place m n ≡ false → held m n ≡ []
no_place m n e = ap (λ (o : Option (List Version)). unwrap_or o []) (none_from_empty (map_entry m n) e)

bare_of : (o : Option KeyMap) (n : ℕ) → place_in o n ≡ false → held_of o n ≡ []
bare_of None n h = refl
bare_of (Some m) n h = no_place m n h

pub bare_held_for : (a : SlotMap) (k : KeyId) → has_place_for a k ≡ false → held_for a k ≡ []
unfolding held_for has_place_for
bare_held_for a k h = bare_of (value_in a.chunks.items k.chunk) k.number h

-- a slot has sixteen chunks
pub no_chunk : (a : SlotMap) (k : KeyId) → 16 ≤ k.chunk → has_place_for a k ≡ false
unfolding has_place_for
no_chunk a k l = ap (λ o. place_in o k.number) (a.narrow k.chunk l)

pub above : (a : SlotMap) (k : KeyId) → 16 ≤ k.chunk → held_for a k ≡ []
above a k l = bare_held_for a k (no_chunk a k l)

-- nothing comes
pub nothing_key : (a : SlotMap) (key : KeyId) (more : List Version) → more ≡ [] → MergesAll (held_for a) (at_key key more) (held_for a)
nothing_key a key more none k = subst (λ (come : List Version). IsMerge (held_for a k) come (held_for a k)) (sym (ap (λ (vs : List Version). at_key key vs k) none ∙ by ((key.chunk == k.chunk) && (key.number == k.number)) [])) (merge_none (held_for a k) (slot_apart a k))
  where
    by : (b : Bool) (vs : List Version) → (if b then vs else vs) ≡ vs
    by true vs = refl
    by false vs = refl

-- ---- the map of chunk c, if there was one, becomes n

module _ (es fs : List (ℕ × KeyMap)) (c : ℕ) (m : Option KeyMap) (n : KeyMap) (was : value_in es c ≡ m) (put : PutsAt nat_cmp es fs c n) where
  -- what holds of the map and of those that stay
  pub each : (P : ℕ → Option KeyMap → Option KeyMap → Type 0) → P c m (Some n) → ((d : ℕ) → d ≢ c → (o : Option KeyMap) → P d o o) → (d : ℕ) → P d (value_in es d) (value_in fs d)
  each P here stay = by_key number_order c (λ (d : ℕ). P d (value_in es d) (value_in fs d))
      (subst (λ o. P c o (value_in fs c)) (sym was) (subst (P c m) (sym put.here) here))
      (λ d ne. subst (P d (value_in es d)) (sym (put.others d ne)) (stay d ne (value_in es d)))

  pub narrow_put : c < 16 → AreNarrow es → AreNarrow fs
  narrow_put l narrow d high = put.others d (λ e. omega arith) ∙ narrow d high

-- ---- the map of chunk c stands at place i, and becomes n

module _ (c : ℕ) (es : List (ℕ × KeyMap)) (i : ℕ) (e : ℕ × KeyMap) (n : KeyMap) (at : IsThere nat_cmp c es i) (value : e ≡ get_or es i e) where
  pub was_there : value_in es c ≡ Some e.1
  was_there = read_there number_order c es i e at (sym value)

  pub put_there : PutsAt nat_cmp es (slice_set es i (e.0, n)) c n
  put_there = written number_order c es i e n at value

  pub each_there : (P : ℕ → Option KeyMap → Option KeyMap → Type 0) → P c (Some e.1) (Some n) → ((d : ℕ) → d ≢ c → (o : Option KeyMap) → P d o o) → (d : ℕ)
      → P d (value_in es d) (value_in (slice_set es i (e.0, n)) d)
  each_there = each es (slice_set es i (e.0, n)) c (Some e.1) n was_there put_there

-- what came to a key of the map came to the slot
pub merged_key : (es fs : List (ℕ × KeyMap)) (key : KeyId) (m n : KeyMap) (more : List Version) → value_in es key.chunk ≡ Some m → PutsAt nat_cmp es fs key.chunk n → MergesAll (held m) (at_number key.number more) (held n)
    → (k : KeyId) → IsMerge (held_of (value_in es k.chunk) k.number) (at_key key more k) (held_of (value_in fs k.chunk) k.number)
merged_key es fs key m n more was put merged k =
    each es fs key.chunk (Some m) n was put
    (λ (d : ℕ) (o p : Option KeyMap). IsMerge (held_of o k.number) (if (key.chunk == d) && (key.number == k.number) then more else []) (held_of p k.number))
    (rw (eq-eqb key.chunk key.chunk refl) (merged k.number))
    (λ d ne o. rw (ne_eqb key.chunk d (λ e. ne (sym e))) (merge_none (held_of o k.number) (apart_of o k.number)))
    k.chunk
