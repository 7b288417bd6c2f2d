-- The map of one pair changed.
use Rattle.std.proofs.Common.{◌≡◌, ◌≢◌, ◌⊎◌, inl, inr, ◌∙◌, ◌+◌, ℕ, ◌<◌, Bool, true, false, cond, List, [], ◌∷◌, refl, sym, ap, subst, Option, Some, None, arith}
use Rattle.std.specs.Prelude.{◌&&◌, ◌||◌, ◌==◌, ◌↔◌, not, is_some, IfNone}
use Rattle.std.specs.BTreeMap.{BTreeMap, UpdatesBy}
use Rattle.std.proofs.lemmas.Bool.{cases_Bool, ne_eqb, false_from_ne_true}
use Rattle.ring_names.specs.declared.ids.Slot.{Slot}
use Rattle.ring_versions.specs.declared.version.Version.{Version}
use Rattle.ring_versions.specs.Versions.{Covers, IsMerge}
use Rattle.store_maps.specs.Merges.{MergesAll, at_key}
use Rattle.store_maps.specs.Slots.{held_by, held_for, has_place_for}
use Rattle.store_maps.specs.declared.key_id.KeyId.{KeyId}
use Rattle.store_maps.specs.declared.slot_map.SlotMap.{SlotMap}
use Rattle.store_maps.proofs.MergesInTurn.{merge_none}
use Rattle.store_maps.proofs.Chunks.{apart_by, bare_held_for}
use Rattle.store_maps.proofs.HoldersChanged.{same_self}
use Rattle.ring_hints.specs.declared.kept_for.KeptFor.{KeptFor}
use Rattle.ring_hints.specs.declared.maps.Maps.{Maps}
use Rattle.ring_hints.specs.declared.pairs.Pairs.{Pairs}
use Rattle.ring_hints.specs.Kept.{map_of, IsKept, AreKept, ArePaired, PutsMap}
use Rattle.ring_hints.specs.Maps.{hinted_at}
use Rattle.ring_hints.specs.Pairs.{is_pair}
use Rattle.ring_hints.specs.Views.{by_keeper, is_of, pair_of}
use Rattle.ring_hints.proofs.KeeperSets.{pair_is, pair_same, pair_tie, or_cond}

-- ---- what merges keep

-- versions that one of the two has are covered after a merge
pub not_emptied : (a b c : List Version) → IsMerge a b c → (a ≢ []) ⊎ (b ≢ []) → c ≢ []
not_emptied [] [] c m h none = elim h [ inl ne ↦ ne refl | inr ne ↦ ne refl ]
not_emptied (x ∷ xs) b c m h none = subst (λ (vs : List Version). Covers vs x.clock → ⊥) (sym none) (λ t. t.1) ((m.covers x.clock).1 (inl (x, inl refl, λ w. omega arith)))
not_emptied [] (x ∷ xs) c m h none = subst (λ (vs : List Version). Covers vs x.clock → ⊥) (sym none) (λ t. t.1) ((m.covers x.clock).1 (inr (x, inl refl, λ w. omega arith)))

-- a map that was kept, after a merge
pub kept_merged : (pair : KeptFor) (m w : SlotMap) → IsKept pair m → ((k : KeyId) → has_place_for m k ≡ true → has_place_for w k ≡ true)
    → ((k : KeyId) → has_place_for w k ≡ true → (has_place_for m k ≡ true) ⊎ (held_for w k ≢ []))
    → ((k : KeyId) → held_for m k ≢ [] → held_for w k ≢ []) → IsKept pair w
kept_merged pair m w s stays filled keeps = record {
  few = s.few;
  filled = λ k h. elim (filled k h) [ inl was ↦ keeps k (s.filled k was) | inr some ↦ some ];
  used = λ all. s.used (λ k. false_from_ne_true (has_place_for m k) (λ h. let y = stays k h in let n = all k in cc));
}

-- a map that was made, after its first merge
pub kept_first : (pair : KeptFor) (m w : SlotMap) (key : KeyId) (more : List Version) → pair.slot.index < 7 → ((k : KeyId) → has_place_for m k ≡ false)
    → ((k : KeyId) → has_place_for w k ≡ true → (has_place_for m k ≡ true) ⊎ (held_for w k ≢ []))
    → more ≢ [] → MergesAll (held_for m) (at_key key more) (held_for w) → IsKept pair w
kept_first pair m w key more few bare filled some merged = record {
  few = few;
  filled = λ k h. elim (filled k h) [ inl was ↦ absurd (let n = bare k in cc) | inr ne ↦ ne ];
  used = λ all. not_emptied (held_for m key) (at_key key more key) (held_for w key) (merged key) (inr (λ none. some (sym (ap (λ (b : Bool). cond b more []) (same_self key)) ∙ none)))
      (bare_held_for w key (all key));
}

-- ---- whether anything is kept

none_held : (o : Option SlotMap) (k : KeyId) → is_some o ≡ false → held_by o k ≡ []
none_held None k h = refl
none_held (Some m) k h = absurd cc

some_held : (pair : KeptFor) (o : Option SlotMap) → is_some o ≡ true → ((m : SlotMap) → o ≡ Some m → IsKept pair m) → ((k : KeyId) → held_by o k ≡ []) → ⊥
some_held pair None h kept none = cc
some_held pair (Some m) h kept none = let s = kept m refl in s.used (λ k. false_from_ne_true (has_place_for m k) (λ y. s.filled k y (none k)))

-- a pair is there exactly if some key has versions
pub keeps_is : (a : Maps) (x : ℕ) (s : Slot) → (is_pair a.pairs x s ≡ false) ↔ ((k : KeyId) → hinted_at a x s k ≡ [])
keeps_is a x s =
    let p = pair_of x s in
    let paired = sym (a.paired x s) in (
      λ h k. none_held (map_of a.maps p) k (paired ∙ h),
      λ none. false_from_ne_true (is_pair a.pairs x s) (λ h. some_held p (map_of a.maps p) (paired ∙ h) (a.kept p) none),
    )

-- a slot of a pair is one of the first seven
pub pair_few : (a : Maps) (x : ℕ) (s : Slot) → is_pair a.pairs x s ≡ true → s.index < 7
pair_few a x s h = few_of (map_of a.maps (pair_of x s)) refl (sym (a.paired x s) ∙ h)
  where
    few_of : (o : Option SlotMap) → o ≡ map_of a.maps (pair_of x s) → is_some o ≡ true → s.index < 7
    few_of None e h = absurd cc
    few_of (Some m) e h = (a.kept (pair_of x s) m (sym e)).few

-- ---- the pair's map is o now

pub puts_map : (old new : BTreeMap KeptFor SlotMap) (pair : KeptFor) (o : Option SlotMap) → UpdatesBy by_keeper (by_keeper pair) old new o → PutsMap old new pair o
puts_map old new pair o u = record { here = u.1; others = λ other e. u.2 other (pair_tie pair other ∙ e) }

module _ (old new : BTreeMap KeptFor SlotMap) (pair : KeptFor) (o : Option SlotMap) (p : PutsMap old new pair o) where
  by_pair : (P : KeptFor → Type 0) → P pair → ((other : KeptFor) → is_of pair other.keeper.0 other.slot ≡ false → P other) → (other : KeptFor) → P other
  by_pair P here others other = elim (cases_Bool (is_of pair other.keeper.0 other.slot)) [ inl y ↦ subst P (pair_is pair other y) here | inr n ↦ others other n ]

  pub same_by : ((k : KeyId) → held_by o k ≡ held_by (map_of old pair) k) → (x : ℕ) (s : Slot) (k : KeyId) → held_by (map_of new (pair_of x s)) k ≡ held_by (map_of old (pair_of x s)) k
  same_by same x s = by_pair (λ (other : KeptFor). (k : KeyId) → held_by (map_of new other) k ≡ held_by (map_of old other) k) (λ k. ap (λ m. held_by m k) p.here ∙ same k) (λ other e k. ap (λ m. held_by m k) (p.others other e)) (pair_of x s)

  pub merged_by : (more : KeyId → List Version) → MergesAll (held_by (map_of old pair)) more (held_by o)
      → (x : ℕ) (s : Slot) (k : KeyId) → IsMerge (held_by (map_of old (pair_of x s)) k) (cond (is_of pair x s) (more k) []) (held_by (map_of new (pair_of x s)) k)
  merged_by more h x s =
      by_pair (λ (other : KeptFor). (k : KeyId) → IsMerge (held_by (map_of old other) k) (cond (is_of pair other.keeper.0 other.slot) (more k) []) (held_by (map_of new other) k))
      (λ k. rw (pair_same pair, p.here) (h k)) (λ other e k. rw (e, p.others other e) (merge_none (held_by (map_of old other) k) (apart_by (map_of old other) k))) (pair_of x s)

  pub gone_by : o ≡ None → (x : ℕ) (s : Slot) (k : KeyId) → held_by (map_of new (pair_of x s)) k ≡ cond (is_of pair x s) [] (held_by (map_of old (pair_of x s)) k)
  gone_by none x s =
      by_pair (λ (other : KeptFor). (k : KeyId) → held_by (map_of new other) k ≡ cond (is_of pair other.keeper.0 other.slot) [] (held_by (map_of old other) k))
      (λ k. rw (pair_same pair, p.here, none) refl) (λ other e k. rw (e, p.others other e) refl) (pair_of x s)

  pub kept_by : ((m : SlotMap) → o ≡ Some m → IsKept pair m) → AreKept old → AreKept new
  kept_by here kept = by_pair (λ (other : KeptFor). (m : SlotMap) → map_of new other ≡ Some m → IsKept other m) (λ m e. here m (sym p.here ∙ e)) (λ other e m is. kept other m (sym (p.others other e) ∙ is))

  pub paired_by : (pairs more : Pairs) → ((x : ℕ) (s : Slot) → is_pair more x s ≡ cond (is_of pair x s) (is_some o) (is_pair pairs x s)) → ArePaired pairs old → ArePaired more new
  paired_by pairs more now paired x s =
      by_pair (λ (other : KeptFor). is_pair more other.keeper.0 other.slot ≡ is_some (map_of new other))
      (rw (now pair.keeper.0 pair.slot, pair_same pair, p.here) refl) (λ other e. rw (now other.keeper.0 other.slot, e, p.others other e) (paired other.keeper.0 other.slot)) (pair_of x s)

  -- another map stands in the place of one
  pub paired_stays : (pairs : Pairs) → is_some o ≡ is_some (map_of old pair) → ArePaired pairs old → ArePaired pairs new
  paired_stays pairs same paired x s =
      by_pair (λ (other : KeptFor). is_pair pairs other.keeper.0 other.slot ≡ is_some (map_of new other))
      (rw (p.here, same) (paired pair.keeper.0 pair.slot)) (λ other e. rw (p.others other e) (paired other.keeper.0 other.slot)) (pair_of x s)

-- the map w stands there
pub kept_at : (pair : KeptFor) (w : SlotMap) → IsKept pair w → (n : SlotMap) → Some w ≡ Some n → IsKept pair n
kept_at pair w s n at = let same : w ≡ n = cc in subst (IsKept pair) same s

pub merged_at : (m w : SlotMap) (o : Option SlotMap) (more : KeyId → List Version) → ((k : KeyId) → held_for m k ≡ held_by o k) → MergesAll (held_for m) more (held_for w) → MergesAll (held_by o) more (held_by (Some w))
merged_at m w o more reads h k = subst (λ (old : List Version). IsMerge old (more k) (held_for w k)) (reads k) (h k)

-- a map is put where there was none, and taken out again
pub put_back : (old mid new : BTreeMap KeptFor SlotMap) (pair : KeptFor) (o : Option SlotMap) → map_of old pair ≡ None
    → PutsMap old mid pair o → PutsMap mid new pair None → (other : KeptFor) → map_of new other ≡ map_of old other
put_back old mid new pair o absent put out = by_pair mid new pair None out (λ (other : KeptFor). map_of new other ≡ map_of old other) (out.here ∙ sym absent) (λ other e. out.others other e ∙ put.others other e)

pub kept_same : (old new : BTreeMap KeptFor SlotMap) → ((other : KeptFor) → map_of new other ≡ map_of old other) → AreKept old → AreKept new
kept_same old new same kept other m e = kept other m (sym (same other) ∙ e)

pub paired_same : (pairs more : Pairs) (old new : BTreeMap KeptFor SlotMap) → ((x : ℕ) (s : Slot) → is_pair more x s ≡ is_pair pairs x s)
    → ((other : KeptFor) → map_of new other ≡ map_of old other) → ArePaired pairs old → ArePaired more new
paired_same pairs more old new pair_by same paired x s = pair_by x s ∙ paired x s ∙ sym (ap is_some (same (pair_of x s)))

-- the pair is there, or is not, in the words of the pairs
pub with_pair : (b c d : Bool) → d ≡ (b || c) → d ≡ cond b true c
with_pair b c d e = e ∙ sym (or_cond b c)

pub without_pair : (b c d : Bool) → d ≡ (not b && c) → d ≡ cond b false c
without_pair true c d e = e
without_pair false c d e = e

-- ---- all pairs of a node

-- a map was there
pub was_some : (r : Option SlotMap) (Q : Type 0) → IfNone r Q → (Q → ⊥) → is_some r ≡ true
was_some None Q h false_of = absurd (false_of h)
was_some (Some m) Q h false_of = refl

pub others_stay : (pair : KeptFor) (x : ℕ) (s : Slot) (was now : List Version) → x ≢ pair.keeper.0 → now ≡ cond (is_of pair x s) [] was → now ≡ was
others_stay pair x s was now ne e =
    e ∙ ap (λ (b : Bool). cond (b && ((pair.slot.partition == s.partition) && (pair.slot.index == s.index))) [] was) (ne_eqb pair.keeper.0 x (λ h. ne (sym h)))

-- a map less
pub fewer : (r : Option SlotMap) (new old : ℕ) → is_some r ≡ true → new + cond (is_some r) 1 0 ≡ old → new < old
fewer None new old h e = absurd cc
fewer (Some m) new old h e = omega arith
