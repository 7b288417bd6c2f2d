-- Merges with whole maps, key after key: what holds with some entries left.
use Rattle.std.proofs.Common.{◌≡◌, ◌≢◌, ◌⊎◌, inl, inr, ◌∙◌, ℕ, true, List, [], ◌∷◌, refl, sym, ap, subst, Option, Some, None}
use Rattle.std.specs.Prelude.{is_some, unwrap_or, MatchOption, IfSome}
use Rattle.std.specs.List.Sorted.{IsStrictlySortedBy}
use Rattle.std.specs.Ordering.{nat_cmp}
use Rattle.ring_versions.specs.Fresh.{IsFreshFor, BringsNothing}
use Rattle.ring_versions.proofs.Merging.{merge_with_none}
use Rattle.ring_versions.specs.declared.fresh.Fresh.{Fresh}
use Rattle.ring_versions.specs.declared.version.Version.{Version}
use Rattle.ring_versions.specs.Versions.{IsMerge}
use Rattle.store_maps.specs.declared.fresh_keys.FreshKeys.{FreshKeys}
use Rattle.store_maps.specs.declared.key_map.KeyMap.{KeyMap}
use Rattle.store_maps.specs.declared.key_tree.KeyTree.{KeyTree}
use Rattle.store_maps.specs.Held.{held, has_place, has_room, IsReady}
use Rattle.store_maps.specs.Trees.{kept, has_entry, IsReadyIn}
use Rattle.store_maps.specs.Places.{held_in, value_in}
use Rattle.store_maps.specs.Sorted.{Ascends, PutsAt}
use Rattle.store_maps.specs.Merges.{MergesAll, at_number, fresh_at, has_fresh, AreFreshFor, AreReady, AreReadyIn}
use Rattle.store_maps.proofs.OneAnswer.{on_option, at_some, at_none, none_to, some_to}
use Rattle.store_maps.proofs.Sorted.{number_order, by_key, none_later}
use Rattle.store_maps.proofs.MergesInTurn.{merge_none}
use Rattle.store_maps.proofs.Over.{map_apart}
use Rattle.store_maps.proofs.Puts.{at_here}
use Rattle.store_maps.specs.Entries.{entries_of}
use Rattle.store_maps.proofs.EntriesLeft.{first_in, later_in}

-- what comes to a key is at its place
more_at : (es : List (ℕ × List Version)) (k : ℕ) (v : List Version) → value_in es k ≡ Some v → held_in es k ≡ v
more_at es k v e = ap (λ (o : Option (List Version)). unwrap_or o []) e

none_at : (es : List (ℕ × List Version)) (k : ℕ) → value_in es k ≡ None → held_in es k ≡ []
none_at es k e = ap (λ (o : Option (List Version)). unwrap_or o []) e

-- ---- the first half

-- what was made ready so far, with some entries left
pub record Preparing (old now : KeyMap) (other : KeyTree) (keys : FreshKeys) (rest : List (ℕ × List Version)) : Type 0 where
  pub same : (k : ℕ) → held now k ≡ held old k
  pub stays : (k : ℕ) → has_place old k ≡ true → has_place now k ≡ true
  pub rooms : (k : ℕ) → has_room old k ≡ true → has_room now k ≡ true
  pub only : (k : ℕ) → has_place now k ≡ true → (has_place old k ≡ true) ⊎ (has_entry other k ≡ true)
  pub drawn : (k : ℕ) → has_fresh keys k ≡ true → has_entry other k ≡ true
  pub made : (k : ℕ) → value_in rest k ≡ None → has_entry other k ≡ true → has_place now k ≡ true
  pub ready : (k : ℕ) → MatchOption (fresh_at keys k) (value_in rest k ≡ None → IsMerge (held old k) (kept other k) (held old k))
      (λ x. (has_room now k ≡ true) × IsFreshFor (held old k) (kept other k) x)

pub preparing_none : (old : KeyMap) (other : KeyTree) (keys : FreshKeys) → ((k : ℕ) → fresh_at keys k ≡ None) → Preparing old old other keys (entries_of other.entries)
preparing_none old other keys none = record {
  same = λ k. refl;
  stays = λ k h. h;
  rooms = λ k h. h;
  only = λ k h. inl h;
  drawn = λ k h. absurd (let e = none k in cc);
  made = λ k e there. absurd (let gone = ap is_some e in cc);
  ready = λ k. none_to (fresh_at keys k) _ _ (none k) (λ e.
      subst (λ (more : List Version). IsMerge (held old k) more (held old k)) (sym (none_at (entries_of other.entries) k e)) (merge_none (held old k) (map_apart old k)));
}

module _ (old now new : KeyMap) (other : KeyTree) (keys : FreshKeys) (rest later : List (ℕ × List Version)) (key : ℕ) (v : List Version) (x : Fresh)
    (is : rest ≡ (key, v) ∷ later) (at : value_in (entries_of other.entries) key ≡ Some v) (same : (k : ℕ) → held new k ≡ held now k)
    (stays : (k : ℕ) → has_place now k ≡ true → has_place new k ≡ true) (rooms : (k : ℕ) → has_room now k ≡ true → has_room new k ≡ true) (only : (k : ℕ) → has_place new k ≡ true → (has_place now k ≡ true) ⊎ (k ≡ key))
    (fresh : IsFreshFor (held now key) v x) (there : has_place new key ≡ true) (s : Preparing old now other keys rest) where
  its_fresh : IsFreshFor (held old key) (kept other key) x
  its_fresh = subst (λ (was : List Version). IsFreshFor was (kept other key) x) (s.same key) (subst (λ (comes : List Version). IsFreshFor (held now key) comes x) (sym (more_at (entries_of other.entries) key v at)) fresh)

  comes : has_entry other key ≡ true
  comes = ap is_some at

  places : (k : ℕ) → has_place new k ≡ true → (has_place old k ≡ true) ⊎ (has_entry other k ≡ true)
  places k h = elim (only k h) [ inl was ↦ s.only k was | inr is ↦ inr (subst (λ (j : ℕ). has_entry other j ≡ true) (sym is) comes) ]

  made_more : (k : ℕ) → value_in later k ≡ None → has_entry other k ≡ true → has_place new k ≡ true
  made_more = by_key number_order key (λ (k : ℕ). value_in later k ≡ None → has_entry other k ≡ true → has_place new k ≡ true) (λ _ _. there) (λ k e none there. stays k (s.made k (later_in key v rest later is k e ∙ none) there))

  on_later : (k : ℕ) → k ≢ key → MatchOption (fresh_at keys k) (value_in later k ≡ None → IsMerge (held old k) (kept other k) (held old k))
      (λ x. (has_room new k ≡ true) × IsFreshFor (held old k) (kept other k) x)
  on_later k e = on_option (fresh_at keys k) _ _ _ _ (λ f none. f (later_in key v rest later is k e ∙ none)) (λ x h. (rooms k h.0, h.1)) (s.ready k)

  -- nothing new comes to the key
  pub preparing_same : BringsNothing x → Preparing old new other keys later
  preparing_same none = record {
    same = λ k. same k ∙ s.same k;
    stays = λ k h. stays k (s.stays k h);
    rooms = λ k h. rooms k (s.rooms k h);
    only = places;
    drawn = s.drawn;
    made = made_more;
    ready = by_key number_order key (λ (k : ℕ). MatchOption (fresh_at keys k) (value_in later k ≡ None → IsMerge (held old k) (kept other k) (held old k))
        (λ x. (has_room new k ≡ true) × IsFreshFor (held old k) (kept other k) x))
        (on_option (fresh_at keys key) _ _ _ _ (λ f none_left. merge_with_none (held old key) (kept other key) x (map_apart old key) none its_fresh) (λ x h. (rooms key h.0, h.1)) (s.ready key))
        on_later;
  }

  -- this comes to the key
  pub preparing_more : (more : FreshKeys) → has_room new key ≡ true → PutsAt nat_cmp keys.map.entries more.map.entries key x → Preparing old new other more later
  preparing_more more room put = record {
    same = λ k. same k ∙ s.same k;
    stays = λ k h. stays k (s.stays k h);
    rooms = λ k h. rooms k (s.rooms k h);
    only = places;
    made = made_more;
    drawn = by_key number_order key (λ (k : ℕ). has_fresh more k ≡ true → has_entry other k ≡ true) (λ h. comes) (λ k e h. s.drawn k (sym (ap is_some (put.others k e)) ∙ h));
    ready = by_key number_order key (λ (k : ℕ). MatchOption (fresh_at more k) (value_in later k ≡ None → IsMerge (held old k) (kept other k) (held old k))
        (λ x. (has_room new k ≡ true) × IsFreshFor (held old k) (kept other k) x))
        (some_to (fresh_at more key) _ _ x put.here (room, its_fresh))
        (λ k e. subst (λ (o : Option Fresh). MatchOption o (value_in later k ≡ None → IsMerge (held old k) (kept other k) (held old k)) (λ x. (has_room new k ≡ true) × IsFreshFor (held old k) (kept other k) x)) (sym (put.others k e)) (on_later k e));
  }

-- a place that a turn made is of a key that comes
pub more_places : (old now new : KeyMap) (other : KeyTree) (key : ℕ) (v : List Version) → value_in (entries_of other.entries) key ≡ Some v → ((k : ℕ) → has_place new k ≡ true → (has_place now k ≡ true) ⊎ (k ≡ key))
    → ((k : ℕ) → has_place now k ≡ true → (has_place old k ≡ true) ⊎ (has_entry other k ≡ true)) → (k : ℕ) → has_place new k ≡ true → (has_place old k ≡ true) ⊎ (has_entry other k ≡ true)
more_places old now new other key v at only before k h = elim (only k h) [
  | inl was ↦ before k was
  | inr is ↦ inr (subst (λ (j : ℕ). has_entry other j ≡ true) (sym is) (ap is_some at))
]

pub prepared_fresh : (old now : KeyMap) (other : KeyTree) (keys : FreshKeys) (rest : List (ℕ × List Version)) → rest ≡ [] → Preparing old now other keys rest → AreFreshFor (held old) (kept other) keys
prepared_fresh old now other keys rest none s k =
    on_option (fresh_at keys k) _ _ _ _ (λ f. f (ap (λ (es : List (ℕ × List Version)). value_in es k) none)) (λ x h. h.1) (s.ready k)

pub prepared_ready : (old now : KeyMap) (other : KeyTree) (keys : FreshKeys) (rest : List (ℕ × List Version)) → Preparing old now other keys rest → AreReady now keys
prepared_ready old now other keys rest s k = elim_ready (fresh_at keys k) (s.ready k)
  where
    elim_ready : (o : Option Fresh) → MatchOption o (value_in rest k ≡ None → IsMerge (held old k) (kept other k) (held old k)) (λ x. (has_room now k ≡ true) × IsFreshFor (held old k) (kept other k) x) → IfSome o (IsReady now k)
    elim_ready None h = tt
    elim_ready (Some x) h = (h.0, (kept other k, subst (λ (was : List Version). IsFreshFor was (kept other k) x) (sym (s.same k)) h.1))

-- ---- the second half

-- whatever came has come
abbrev pub HasCome : KeyTree → KeyTree → FreshKeys → ℕ → Type 0
HasCome old now fresh k = (more : ℕ → List Version) → AreFreshFor (kept old) more fresh → IsMerge (kept old k) (more k) (kept now k)

-- what has come so far, with some keys left
pub record Settling (old now : KeyTree) (fresh : FreshKeys) (rest : List (ℕ × Fresh)) : Type 0 where
  pub order : Ascends nat_cmp rest
  pub places : (k : ℕ) → has_entry now k ≡ has_entry old k
  pub each : (k : ℕ) → MatchOption (value_in rest k) (HasCome old now fresh k) (λ x. (kept now k ≡ kept old k) × (fresh_at fresh k ≡ Some x))

pub settling_none : (old : KeyTree) (fresh : FreshKeys) → Ascends nat_cmp fresh.map.entries → Settling old old fresh fresh.map.entries
settling_none old fresh order = record {
  order = order;
  places = λ k. refl;
  each = λ k. start k (fresh_at fresh k) refl;
}
  where
    start : (k : ℕ) (o : Option Fresh) → o ≡ fresh_at fresh k → MatchOption o (HasCome old old fresh k) (λ x. (kept old k ≡ kept old k) × (fresh_at fresh k ≡ Some x))
    start k None e = λ more are. at_none (fresh_at fresh k) _ _ (sym e) (are k)
    start k (Some x) e = (refl, sym e)

module _ (old now : KeyTree) (fresh : FreshKeys) (rest later : List (ℕ × Fresh)) (key : ℕ) (x : Fresh) (is : rest ≡ (key, x) ∷ later) (s : Settling old now fresh rest) where
  its : (kept now key ≡ kept old key) × (fresh_at fresh key ≡ Some x)
  its = at_some (value_in rest key) _ _ x (first_in key x rest later is) (s.each key)

  pub settling_ready : AreReadyIn old fresh → IsReadyIn now key x
  settling_ready ready =
      let r : IsReadyIn old key x = at_some (fresh_at fresh key) (Unit {0}) (IsReadyIn old key) x its.1 (ready key) in
      (s.places key ∙ r.0, (r.1.0, subst (λ (was : List Version). IsFreshFor was r.1.0 x) (sym its.0) r.1.1))

  pub settling_more : (new : KeyTree) → ((more : List Version) → IsFreshFor (kept now key) more x → MergesAll (kept now) (at_number key more) (kept new))
      → ((k : ℕ) → k ≢ key → kept new k ≡ kept now k) → ((k : ℕ) → has_entry new k ≡ has_entry now k) → Settling old new fresh later
  unfolding IsStrictlySortedBy
  settling_more new merged others places = record {
    order = sorted.1;
    places = λ k. places k ∙ s.places k;
    each = by_key number_order key (λ (k : ℕ). MatchOption (value_in later k) (HasCome old new fresh k) (λ x. (kept new k ≡ kept old k) × (fresh_at fresh k ≡ Some x)))
        (none_to (value_in later key) _ _ (none_later number_order key later sorted.0) here)
        (λ k e. subst (λ (o : Option Fresh). MatchOption o (HasCome old new fresh k) (λ x. (kept new k ≡ kept old k) × (fresh_at fresh k ≡ Some x))) (later_in key x rest later is k e)
        (on_option (value_in rest k) _ _ _ _
        (λ come more are. subst (IsMerge (kept old k) (more k)) (sym (others k e)) (come more are))
        (λ y h. (others k e ∙ h.0, h.1))
        (s.each k)));
  }
    where
      sorted : Ascends nat_cmp ((key, x) ∷ later)
      sorted = subst (Ascends nat_cmp) is s.order

      here : HasCome old new fresh key
      here more are =
          let f : IsFreshFor (kept old key) (more key) x = at_some (fresh_at fresh key) _ _ x its.1 (are key) in
          let m : IsMerge (kept now key) (more key) (kept new key) = subst (λ (come : List Version). IsMerge (kept now key) come (kept new key)) (at_here key (more key))
          (merged (more key) (subst (λ (was : List Version). IsFreshFor was (more key) x) (sym its.0) f) key) in
          subst (λ (was : List Version). IsMerge was (more key) (kept new key)) its.0 m

pub settled : (old now : KeyTree) (fresh : FreshKeys) (rest : List (ℕ × Fresh)) → rest ≡ [] → Settling old now fresh rest
    → (more : ℕ → List Version) → AreFreshFor (kept old) more fresh → MergesAll (kept old) more (kept now)
settled old now fresh rest none s more are k = at_none (value_in rest k) _ _ (ap (λ (es : List (ℕ × Fresh)). value_in es k) none) (s.each k) more are
