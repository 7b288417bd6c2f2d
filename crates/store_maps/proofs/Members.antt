-- What is in a list of keys in order, once a key is put in or taken out.
use Rattle.std.proofs.Common.{◌≡◌, Bool, true, false, cond, List, [], ◌∷◌, refl, sym, ap, ◌∙◌}
use Rattle.std.specs.Prelude.{◌||◌}
use Rattle.std.specs.List.{list_any}
use Rattle.std.specs.declared.cmp.Ordering.{Ordering}
use Rattle.std.specs.declared.cmp.Ordering.TheVariants.{Less, Equal, Greater}
use Rattle.std.specs.Ordering.{match_ordering, is_eq}
use Rattle.std.specs.BTreeMap.{is_at}
use Rattle.std.specs.BTreeSet.{insert_key}
use Rattle.std.specs.Set.{remove_key}
use Rattle.ring_names.proofs.Logic.{or_swapped, or_again}

module _ {V : Type 0} (cmp : V → V → Ordering) (same : (a : V) → is_at (cmp a) a ≡ true) (exact : (a b : V) → is_at (cmp a) b ≡ true → a ≡ b) where
  -- the key is in the list as the test tells
  abbrev pub is_in : V → List V → Bool
  is_in q ks = list_any (is_at (cmp q)) ks

  inserted : (q v x : V) (xs ys : List V) (o : Ordering) → cmp v x ≡ o → is_in q ys ≡ (is_at (cmp q) v || is_in q xs)
      → is_in q (match_ordering o (v ∷ x ∷ xs) (x ∷ xs) (x ∷ ys)) ≡ (is_at (cmp q) v || is_in q (x ∷ xs))
  inserted q v x xs ys Less e h = refl
  inserted q v x xs ys Equal e h =
      let same_key : v ≡ x = exact v x (ap is_eq e) in
      or_again (is_at (cmp q) x) (is_in q xs) ∙ ap (λ (k : V). is_at (cmp q) k || (is_at (cmp q) x || is_in q xs)) (sym same_key)
  inserted q v x xs ys Greater e h = ap (λ (b : Bool). is_at (cmp q) x || b) h ∙ or_swapped (is_at (cmp q) x) (is_at (cmp q) v) (is_in q xs)

  pub any_inserted : (q v : V) (ks : List V) → is_in q (insert_key cmp ks v) ≡ (is_at (cmp q) v || is_in q ks)
  any_inserted q v [] = refl
  any_inserted q v (x ∷ xs) = inserted q v x xs (insert_key cmp xs v) (cmp v x) refl (any_inserted q v xs)

  other : (q v x : V) (xs : List V) (b : Bool) → is_at (cmp v) x ≡ b → is_at (cmp q) v ≡ false → is_in q (remove_key (is_at (cmp v)) xs) ≡ is_in q xs
      → is_in q (cond b xs (x ∷ remove_key (is_at (cmp v)) xs)) ≡ is_in q (x ∷ xs)
  other q v x xs true e h k = ap (λ (b : Bool). b || is_in q xs) (sym (ap (λ (y : V). is_at (cmp q) y) (sym (exact v x e)) ∙ h))
  other q v x xs false e h k = ap (λ (b : Bool). is_at (cmp q) x || b) k

  -- another key is in the list as before
  pub others_stay : (q v : V) (ks : List V) → is_at (cmp q) v ≡ false → is_in q (remove_key (is_at (cmp v)) ks) ≡ is_in q ks
  others_stay q v [] h = refl
  others_stay q v (x ∷ xs) h = other q v x xs (is_at (cmp v) x) refl h (others_stay q v xs h)
