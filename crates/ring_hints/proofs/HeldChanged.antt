-- Who keeps versions of which keys, once what is kept has changed.
use Rattle.std.proofs.Common.{◌≡◌, ◌≢◌, inl, inr, ◌∙◌, ℕ, Bool, true, false, cond, List, [], ◌∷◌, refl, sym, ap, Result, Ok, Err}
use Rattle.std.specs.Prelude.{◌&&◌, ◌||◌, ◌==◌, not, is_err, OnOk, OnErr}
use Rattle.std.proofs.lemmas.Bool.{and_parts, cases_Bool, eqb-true}
use Rattle.ring_names.proofs.Logic.{or_true}
use Rattle.ring_names.specs.declared.ids.Slot.{Slot}
use Rattle.ring_versions.specs.declared.version.Version.{Version}
use Rattle.ring_versions.specs.Versions.{IsMerge}
use Rattle.store_maps.specs.declared.key_id.KeyId.{KeyId}
use Rattle.store_maps.specs.declared.slot_map.SlotMap.{SlotMap}
use Rattle.store_maps.specs.Ids.{same_key}
use Rattle.store_maps.specs.Merges.{at_key}
use Rattle.store_maps.specs.Slots.{held_for, has_place_for}
use Rattle.store_maps.proofs.Chunks.{bare_held_for}
use Rattle.ring_hints.specs.declared.kept_for.KeptFor.{KeptFor}
use Rattle.ring_hints.specs.declared.maps.Maps.{Maps}
use Rattle.ring_hints.specs.declared.slot_holders.SlotHolders.{SlotHolders}
use Rattle.ring_hints.specs.Held.{has_any, AreHeld}
use Rattle.ring_hints.specs.Maps.{hinted_at, AddsHints, AreSameHints, TakesHints}
use Rattle.ring_hints.specs.SlotHolders.{holds_for}
use Rattle.ring_hints.specs.Views.{is_of}
use Rattle.ring_hints.proofs.KeeperSets.{only_where, with_without}
use Rattle.ring_hints.proofs.PairChanged.{not_emptied}

-- ---- whether there is a version

some_any : (vs : List Version) → vs ≢ [] → has_any vs ≡ true
some_any [] h = absurd (h refl)
some_any (v ∷ vs) h = refl

any_merged : (a b c : List Version) → IsMerge a b c → has_any c ≡ (has_any b || has_any a)
any_merged [] [] [] m = refl
any_merged [] [] (x ∷ xs) m = elim (m.drawn x (inl refl)) [ inl h ↦ absurd h | inr h ↦ absurd h ]
any_merged [] (y ∷ ys) c m = some_any c (not_emptied [] (y ∷ ys) c m (inr (λ e. cc)))
any_merged (x ∷ xs) b c m = some_any c (not_emptied (x ∷ xs) b c m (inl (λ e. cc))) ∙ sym (or_true (has_any b))

part_any : (c d : Bool) (more : List Version) → has_any more ≡ true → has_any (cond c (cond d more []) []) ≡ (c && d)
part_any true true more h = h
part_any true false more h = refl
part_any false d more h = refl

-- ---- one pair's keys

key_is : (a b : KeyId) → same_key a b ≡ true → a ≡ b
key_is a b h = let p = and_parts (a.chunk == b.chunk) (a.number == b.number) h in λ i. record { chunk = eqb-true a.chunk b.chunk p.0 i; number = eqb-true a.number b.number p.1 i }

module _ (old new : Maps) (before behind : SlotHolders) (pair : KeptFor) (held : AreHeld old before) where
  -- versions of a key were added, and the node with them
  pub held_added : (key : KeyId) (more : List Version) → more ≢ []
      → ((s : Slot) (k : KeyId) (x : ℕ) → holds_for behind s k x ≡ ((is_of pair x s && same_key key k) || holds_for before s k x))
      → AddsHints old new pair (at_key key more) → AreHeld new behind
  held_added key more ne h adds x s k =
      let part = part_any (is_of pair x s) (same_key key k) more (some_any more ne) in
      let merged = any_merged (hinted_at old x s k) (cond (is_of pair x s) (at_key key more k) []) (hinted_at new x s k) (adds x s k) in
      h s k x ∙ ap (λ (b : Bool). (is_of pair x s && same_key key k) || b) (held x s k) ∙ sym (merged ∙ ap (λ (b : Bool). b || has_any (hinted_at old x s k)) part)

  -- the node was added to a key of which it keeps nothing, and removed
  pub held_undone : (key : KeyId) (added : SlotHolders) → hinted_at old pair.keeper.0 pair.slot key ≡ []
      → ((s : Slot) (k : KeyId) (x : ℕ) → holds_for added s k x ≡ ((is_of pair x s && same_key key k) || holds_for before s k x))
      → ((s : Slot) (k : KeyId) (x : ℕ) → holds_for behind s k x ≡ (not (is_of pair x s && same_key key k) && holds_for added s k x))
      → AreSameHints old new → AreHeld new behind
  held_undone key added none adds removes same x s k =
      removes s k x ∙ ap (λ (b : Bool). not (is_of pair x s && same_key key k) && b) (adds s k x)
      ∙ with_without (is_of pair x s && same_key key k) (holds_for before s k x) absent ∙ held x s k ∙ ap has_any (sym (same x s k))
    where
      absent : (is_of pair x s && same_key key k) ≡ true → holds_for before s k x ≡ false
      absent y =
          let p = and_parts (is_of pair x s) (same_key key k) y in
          only_where pair (λ z t. holds_for before t k z) (held pair.keeper.0 pair.slot k ∙ ap has_any (ap (hinted_at old pair.keeper.0 pair.slot) (sym (key_is key k p.1)) ∙ none)) x s p.0

  -- nothing is at the pair now, and its node has no key of its slot
  pub held_gone : TakesHints old new pair → ((s : Slot) (k : KeyId) (x : ℕ) → is_of pair x s ≡ false → holds_for behind s k x ≡ holds_for before s k x)
      → ((k : KeyId) → holds_for behind pair.slot k pair.keeper.0 ≡ false) → AreHeld new behind
  held_gone takes others away x s k = by (is_of pair x s) refl ∙ sym (ap has_any (takes x s k))
    where
      by : (b : Bool) → is_of pair x s ≡ b → holds_for behind s k x ≡ has_any (cond b [] (hinted_at old x s k))
      by true e = only_where pair (λ y t. holds_for behind t k y) (away k) x s e
      by false e = others s k x e ∙ held x s k

  -- the map of the pair was taken, and the node forgets its keys
  pub held_taken : (m : SlotMap) → TakesHints old new pair → ((k : KeyId) → held_for m k ≡ hinted_at old pair.keeper.0 pair.slot k)
      → ((s : Slot) (k : KeyId) (x : ℕ) → is_of pair x s ≡ false → holds_for behind s k x ≡ holds_for before s k x)
      → ((k : KeyId) → has_place_for m k ≡ true → holds_for behind pair.slot k pair.keeper.0 ≡ false)
      → ((k : KeyId) → has_place_for m k ≡ false → holds_for behind pair.slot k pair.keeper.0 ≡ holds_for before pair.slot k pair.keeper.0) → AreHeld new behind
  held_taken m takes mine others gone stays = held_gone takes others (λ k. elim (cases_Bool (has_place_for m k)) [
    | inl y ↦ gone k y
    | inr n ↦ stays k n ∙ held pair.keeper.0 pair.slot k ∙ ap has_any (sym (mine k) ∙ bare_held_for m k n)
  ])

-- what holds if there is no error
pub ok_where : {A E : Type 0} (r : Result A E) (P : Type 0) → is_err r ≡ false → OnOk r P → P
ok_where (Ok a) P e h = h
ok_where (Err e) P h k = absurd cc

pub err_where : {A E : Type 0} (r : Result A E) (P : Type 0) → is_err r ≡ true → OnErr r P → P
err_where (Ok a) P e h = absurd cc
err_where (Err e) P h k = k
