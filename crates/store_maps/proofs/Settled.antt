-- What a tree holds once a key has taken in what was made for it.
use Rattle.std.proofs.Common.{◌≡◌, ◌∙◌, ℕ, List, [], get_or, slice_set, sym, ap, subst, Option, Some, None, Result}
use Rattle.std.specs.Prelude.{is_some, unwrap_or, OnOk, OnErr}
use Rattle.ring_versions.specs.Fresh.{IsFreshFor, FitsIn}
use Rattle.ring_versions.specs.Versions.{IsApart, IsMerge}
use Rattle.ring_versions.specs.declared.fresh.Fresh.{Fresh}
use Rattle.ring_versions.specs.declared.version.Version.{Version}
use Rattle.std.specs.Ordering.{nat_cmp}
use Rattle.store_maps.specs.Sorted.{Ascends, IsThere, GoesAt, PutsAt}
use Rattle.store_maps.specs.Merges.{MergesAll, at_number}
use Rattle.store_maps.specs.Places.{held_in, value_in, AreApart}
use Rattle.store_maps.specs.Taken.{MergesIn}
use Rattle.store_maps.proofs.Sorted.{number_order, read_there, read_missing, written}
use Rattle.store_maps.proofs.MergesInTurn.{merge_of}
use Rattle.store_maps.proofs.OneAnswer.{on_ok, on_err, on_either}
use Rattle.store_maps.proofs.Puts.{apart_put, merged_put, same_put, places_put}

-- the same of entries that are a vector's
module _ (key : ℕ) (m es : List (ℕ × List Version)) (is : m ≡ es) (i : ℕ) (e : ℕ × List Version) (there : IsThere nat_cmp key es i) (at : e ≡ get_or es i e) where
  pub few_at : value_in m key ≡ Some e.1
  few_at = subst (λ fs. value_in fs key ≡ Some e.1) (sym is) (read_there number_order key es i e there (sym at))

  pub few_put : (w : List Version) → PutsAt nat_cmp m (slice_set es i (e.0, w)) key w
  few_put w = subst (λ fs. PutsAt nat_cmp fs (slice_set es i (e.0, w)) key w) (sym is) (written number_order key es i e w there at)

pub few_none : (key : ℕ) (m es : List (ℕ × List Version)) (i : ℕ) → m ≡ es → Ascends nat_cmp m → GoesAt nat_cmp key es i → value_in m key ≡ None
few_none key m es i is order goes = read_missing number_order key m i order (subst (λ fs. GoesAt nat_cmp key fs i) (sym is) goes)

pub fits : (key : ℕ) (m : List (ℕ × List Version)) (v : List Version) (f : Fresh) → value_in m key ≡ Some v → FitsIn (held_in m key) f → FitsIn v f
fits key m v f at h = (h.0, subst (λ (was : List Version). IsFreshFor was h.0 f) (ap (λ (o : Option (List Version)). unwrap_or o []) at) h.1)

was_held : (key : ℕ) (m : List (ℕ × List Version)) (v : List Version) → value_in m key ≡ Some v → held_in m key ≡ v
was_held key m v at = ap (λ (o : Option (List Version)). unwrap_or o []) at

-- once others were merged in, or that was refused
module _ {A E : Type 0} (key : ℕ) (m n : List (ℕ × List Version)) (more : List Version) (r : Result A E) (t : MergesIn r m n key more) where
  pub merged_apart : AreApart m → AreApart n
  merged_apart apart = apart_put m n key t.after t.put apart (on_either r _ _ (IsApart t.after) t.became.0 t.became.1 (λ h. h.apart) (λ e. subst IsApart (was_held key m t.before t.at ∙ sym e) (apart key)))

  pub merged_all : AreApart m → OnOk r (MergesAll (held_in m) (at_number key more) (held_in n))
  merged_all apart = on_ok r _ _ (λ h. merged_put m n key t.after t.put more apart (subst (λ (was : List Version). IsMerge was more t.after) (sym (was_held key m t.before t.at)) h)) t.became.0

  pub merged_same : OnErr r ((k : ℕ) → held_in n k ≡ held_in m k)
  merged_same = on_err r _ _ (λ e. same_put m n key t.after t.put (was_held key m t.before t.at ∙ sym e)) t.became.1

  pub merged_places : (k : ℕ) → is_some (value_in n k) ≡ is_some (value_in m k)
  merged_places = places_put m n key t.after t.put (ap is_some t.at)

module _ (key : ℕ) (m n : List (ℕ × List Version)) (v w : List Version) (f : Fresh) (at : value_in m key ≡ Some v) where
  module _ (put : PutsAt nat_cmp m n key w) (comes : (other : List Version) → IsFreshFor v other f → IsMerge v other w) (apart : AreApart m) where
    pub settled_apart : FitsIn (held_in m key) f → AreApart n
    settled_apart h = apart_put m n key w put apart (merge_of (held_in m key) v w f (sym (was_held key m v at)) comes h.0 h.1).apart

    pub settled_merged : (more : List Version) → IsFreshFor (held_in m key) more f → MergesAll (held_in m) (at_number key more) (held_in n)
    settled_merged more h = merged_put m n key w put more apart (merge_of (held_in m key) v w f (sym (was_held key m v at)) comes more h)

  pub settled_places : PutsAt nat_cmp m n key w → (k : ℕ) → is_some (value_in n k) ≡ is_some (value_in m k)
  settled_places put = places_put m n key w put (ap is_some at)
