-- What a map has for a key, by what the own tree and the shared map have for it.
use Rattle.std.proofs.Common.{◌≡◌, ◌≢◌, ◌⊎◌, inl, inr, ◌∙◌, ℕ, true, false, cond, List, [], refl, sym, ap, subst, Option, Some, None}
use Rattle.std.specs.Arc.{arc_value}
use Rattle.std.specs.Option.{option_or}
use Rattle.std.specs.Prelude.{is_some, unwrap_or, MatchOption}
use Rattle.std.specs.declared.alloc.Global.{Global}
use Rattle.std.specs.declared.sync.Arc.{Arc}
use Rattle.std.proofs.lemmas.Bool.{cases_Bool, false_from_ne_true}
use Rattle.ring_versions.specs.Fresh.{IsFreshFor}
use Rattle.ring_versions.specs.Versions.{IsApart, IsMerge}
use Rattle.ring_versions.specs.declared.version.Version.{Version}
use Rattle.store_maps.specs.Held.{map_entry, below, held, has_place, has_room}
use Rattle.store_maps.specs.Merges.{MergesAll, at_number, fresh_at, AreFreshFor, AreReady}
use Rattle.store_maps.specs.Trees.{tree_entry, kept, has_entry}
use Rattle.store_maps.specs.declared.fresh_keys.FreshKeys.{FreshKeys}
use Rattle.store_maps.specs.declared.key_map.KeyMap.{KeyMap}
use Rattle.store_maps.specs.declared.key_tree.KeyTree.{KeyTree}
use Rattle.store_maps.proofs.Sorted.{number_order, by_key}
use Rattle.store_maps.proofs.MergesInTurn.{merge_none}
use Rattle.store_maps.proofs.OneAnswer.{at_none, none_to, none_where}
use Rattle.store_maps.proofs.Puts.{at_other}

-- what one tree or the other has is apart
pub map_apart : (m : KeyMap) (k : ℕ) → IsApart (held m k)
unfolding map_entry
map_apart m k = either (tree_entry m.own k) (below m.shared k) (m.own.apart k) (lower m.shared)
  where
    lower : (o : Option (Arc KeyTree Global)) → IsApart (unwrap_or (below o k) [])
    lower None = tt
    lower (Some shared) = (arc_value shared).apart k

    either : (p q : Option (List Version)) → IsApart (unwrap_or p []) → IsApart (unwrap_or q []) → IsApart (unwrap_or (option_or p q) [])
    either None q a b = b
    either (Some v) q a b = a

-- ---- one key: p and q stand in the own tree before and after, b below

module _ (p b : Option (List Version)) where
  -- a place in the own tree is read
  pub own_read : is_some p ≡ true → option_or p b ≡ p
  own_read = by p
    where
      by : (p : Option (List Version)) → is_some p ≡ true → option_or p b ≡ p
      by (Some v) h = refl
      by None h = absurd cc

  -- what holds of a value that is written in the own tree, or otherwise stays below
  pub by_place : (R : List Version → List Version → Type 0) (q : Option (List Version)) → is_some q ≡ is_some p → (is_some p ≡ true → R (unwrap_or p []) (unwrap_or q [])) → (is_some p ≡ false → R (unwrap_or (option_or p b) []) (unwrap_or (option_or p b) []))
      → R (unwrap_or (option_or p b) []) (unwrap_or (option_or q b) [])
  by_place R = by p
    where
      by : (p q : Option (List Version)) → is_some q ≡ is_some p → (is_some p ≡ true → R (unwrap_or p []) (unwrap_or q [])) → (is_some p ≡ false → R (unwrap_or (option_or p b) []) (unwrap_or (option_or p b) []))
          → R (unwrap_or (option_or p b) []) (unwrap_or (option_or q b) [])
      by (Some v) (Some w) e own under = own refl
      by None None e own under = under refl
      by (Some v) None e own under = absurd cc
      by None (Some w) e own under = absurd cc

  -- what holds of a value that was brought up, or was nowhere, and is written in the own tree
  pub written : (R : List Version → List Version → Type 0) (q : Option (List Version)) → (is_some p ≡ true → is_some q ≡ true) → (is_some (option_or p b) ≡ true → is_some p ≡ true) → R (unwrap_or p []) (unwrap_or q [])
      → R (unwrap_or (option_or p b) []) (unwrap_or (option_or q b) [])
  written R = by p b
    where
      by : (p b q : Option (List Version)) → (is_some p ≡ true → is_some q ≡ true) → (is_some (option_or p b) ≡ true → is_some p ≡ true) → R (unwrap_or p []) (unwrap_or q [])
          → R (unwrap_or (option_or p b) []) (unwrap_or (option_or q b) [])
      by (Some v) b (Some w) stays up r = r
      by None None None stays up r = r
      by None None (Some w) stays up r = r
      by (Some v) b None stays up r = absurd (let none = stays refl in cc)
      by None (Some v) q stays up r = absurd (let none = up refl in cc)

-- ---- maps

-- what a map reads that shares nothing
pub read_alone : (o : Option (Arc KeyTree Global)) (p : Option (List Version)) (k : ℕ) → o ≡ None → option_or p (below o k) ≡ p
read_alone (Some shared) p k e = absurd cc
read_alone None (Some v) k e = refl
read_alone None None k e = refl

-- what a map reads whose own tree is empty
pub read_under : (p b : Option (List Version)) → is_some p ≡ false → option_or p b ≡ b
read_under None b e = refl
read_under (Some v) b e = absurd cc

-- a merge at one key that was brought up
pub merged_at : (a : KeyMap) (new : KeyTree) (key : ℕ) (more : List Version) → (has_place a key ≡ true → has_room a key ≡ true) → ((k : ℕ) → has_room a k ≡ true → has_entry new k ≡ true)
    → ((k : ℕ) → has_entry new k ≡ true → (has_room a k ≡ true) ⊎ (k ≡ key)) → MergesAll (kept a.own) (at_number key more) (kept new)
    → MergesAll (held a) (at_number key more) (λ k. unwrap_or (option_or (tree_entry new k) (below a.shared k)) [])
unfolding map_entry
merged_at a new key more up stays only merged = by_key number_order key (λ (k : ℕ). IsMerge (held a k) (at_number key more k) (unwrap_or (option_or (tree_entry new k) (below a.shared k)) []))
    (written (tree_entry a.own key) (below a.shared key) (λ v w. IsMerge v (at_number key more key) w) (tree_entry new key) (stays key) up (merged key))
    (λ k apart. by_place (tree_entry a.own k) (below a.shared k) (λ v w. IsMerge v (at_number key more k) w) (tree_entry new k) (alike k apart) (λ _. merged k)
    (λ _. subst (λ (v : List Version). IsMerge (held a k) v (held a k)) (sym (at_other key k more apart)) (merge_none (held a k) (map_apart a k))))
  where
    alike : (k : ℕ) → k ≢ key → has_entry new k ≡ has_room a k
    alike k apart = elim (cases_Bool (has_room a k)) [
      | inl here ↦ stays k here ∙ sym here
      | inr none ↦ false_from_ne_true (has_entry new k) (λ h. elim (only k h) [ inl here ↦ cc | inr is ↦ apart is ]) ∙ sym none
    ]

module _ (a : KeyMap) (new : KeyTree) (f : FreshKeys) (ready : AreReady a f) (places : (k : ℕ) → has_entry new k ≡ has_room a k)
    (merged : (more : ℕ → List Version) → AreFreshFor (kept a.own) more f → MergesAll (kept a.own) more (kept new))
    (more : ℕ → List Version) (fresh : AreFreshFor (held a) more f) where
  -- what comes to the own tree
  abbrev comes : ℕ → List Version
  comes k = cond (has_room a k) (more k) []

  nothing : (k : ℕ) → has_room a k ≡ false → fresh_at f k ≡ None
  nothing k none = none_where (fresh_at f k) _ (λ x r. (let here = r.0 in cc)) (ready k)

  own_fresh : AreFreshFor (kept a.own) comes f
  unfolding map_entry
  own_fresh k = elim (cases_Bool (has_room a k)) [
    | inl here ↦ subst (λ (v : List Version). MatchOption (fresh_at f k) (IsMerge (kept a.own k) v (kept a.own k)) (IsFreshFor (kept a.own k) v)) (sym (ap (λ b. cond b (more k) []) here))
        (subst (λ (o : Option (List Version)). MatchOption (fresh_at f k) (IsMerge (unwrap_or o []) (more k) (unwrap_or o [])) (IsFreshFor (unwrap_or o []) (more k))) (own_read (tree_entry a.own k) (below a.shared k) here) (fresh k))
    | inr none ↦ none_to (fresh_at f k) _ _ (nothing k none) (subst (λ (v : List Version). IsMerge (kept a.own k) v (kept a.own k)) (sym (ap (λ b. cond b (more k) []) none)) (merge_none (kept a.own k) (a.own.apart k)))
  ]

  -- a merge at keys that have places in the own tree
  pub merged_keys : MergesAll (held a) more (λ k. unwrap_or (option_or (tree_entry new k) (below a.shared k)) [])
  unfolding map_entry
  merged_keys k = by_place (tree_entry a.own k) (below a.shared k) (λ v w. IsMerge v (more k) w) (tree_entry new k) (places k)
      (λ here. subst (λ (v : List Version). IsMerge (kept a.own k) v (kept new k)) (ap (λ b. cond b (more k) []) here) (merged comes own_fresh k))
      (λ none. at_none (fresh_at f k) _ _ (nothing k none) (fresh k))

-- a key without a place has no room
pub no_room : (m : KeyMap) (k : ℕ) → has_place m k ≡ false → has_room m k ≡ false
unfolding map_entry
no_room m k h = by (tree_entry m.own k) (below m.shared k) h
  where
    by : (p b : Option (List Version)) → is_some (option_or p b) ≡ false → is_some p ≡ false
    by None b e = refl
    by (Some v) b e = e
