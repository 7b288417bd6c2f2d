-- What a map holds after a change at one key.
use Rattle.std.proofs.Common.{◌≡◌, ◌≢◌, ◌∙◌, ℕ, true, List, [], refl, sym, ap, subst, Option}
use Rattle.std.specs.Ordering.{nat_cmp}
use Rattle.std.specs.Prelude.{is_some, unwrap_or}
use Rattle.std.proofs.lemmas.Bool.{eq-eqb, ne_eqb}
use Rattle.ring_versions.specs.declared.version.Version.{Version}
use Rattle.ring_versions.specs.Versions.{IsApart, IsMerge}
use Rattle.store_maps.specs.Places.{held_in, value_in, AreApart}
use Rattle.store_maps.specs.Sorted.{PutsAt}
use Rattle.store_maps.specs.Merges.{MergesAll, at_number}
use Rattle.store_maps.proofs.Sorted.{number_order, by_key}
use Rattle.store_maps.proofs.MergesInTurn.{merge_none}

pub at_here : (key : ℕ) (v : List Version) → at_number key v key ≡ v
at_here key v = rw (eq-eqb key key refl) refl

pub at_other : (key k : ℕ) (v : List Version) → k ≢ key → at_number key v k ≡ []
at_other key k v ne = rw (ne_eqb key k (λ e. ne (sym e))) refl

module _ (m n : List (ℕ × List Version)) (key : ℕ) (w : List Version) (p : PutsAt nat_cmp m n key w) where
  held_here : held_in n key ≡ w
  held_here = ap (λ (o : Option (List Version)). unwrap_or o []) p.here

  pub others_put : (k : ℕ) → k ≢ key → held_in n k ≡ held_in m k
  others_put k e = ap (λ (o : Option (List Version)). unwrap_or o []) (p.others k e)

  pub apart_put : AreApart m → IsApart w → AreApart n
  apart_put a b = by_key number_order key (λ (k : ℕ). IsApart (held_in n k)) (subst IsApart (sym held_here) b) (λ k e. subst IsApart (sym (others_put k e)) (a k))

  pub merged_put : (more : List Version) → AreApart m → IsMerge (held_in m key) more w → MergesAll (held_in m) (at_number key more) (held_in n)
  merged_put more a h = by_key number_order key (λ (k : ℕ). IsMerge (held_in m k) (at_number key more k) (held_in n k))
      (rw (at_here key more, held_here) h)
      (λ k ne. rw (at_other key k more ne, others_put k ne) (merge_none (held_in m k) (a k)))

  -- the same versions change no reading
  pub same_put : held_in m key ≡ w → (k : ℕ) → held_in n k ≡ held_in m k
  same_put e = by_key number_order key (λ (k : ℕ). held_in n k ≡ held_in m k) (held_here ∙ sym e) others_put

  pub place_put : is_some (value_in n key) ≡ true
  place_put = ap is_some p.here

  -- where the key had a place
  pub places_put : is_some (value_in m key) ≡ true → (k : ℕ) → is_some (value_in n k) ≡ is_some (value_in m k)
  places_put h = by_key number_order key (λ (k : ℕ). is_some (value_in n k) ≡ is_some (value_in m k)) (place_put ∙ sym h) (λ k e. ap is_some (p.others k e))

-- what is apart stays so where every value stays
pub apart_same : (m n : List (ℕ × List Version)) → ((k : ℕ) → value_in n k ≡ value_in m k) → AreApart m → AreApart n
apart_same m n e a k = subst (λ (o : Option (List Version)). IsApart (unwrap_or o [])) (sym (e k)) (a k)
