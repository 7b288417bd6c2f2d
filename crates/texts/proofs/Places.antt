-- Tests and lines of a list, one place more.
use Rattle.std.proofs.Common.{◌≡◌, ℕ, ◌+◌, Bool, true, false, List, [], ◌∷◌, ◌++◌, map, take, refl, sym, ap, ◌∙◌}
use Rattle.std.specs.Prelude.{slice_get, Some}
use Rattle.std.specs.List.{list_all}
use Rattle.std.proofs.lemmas.List.{take_more, flat_map_more, map_push}
use Rattle.std.proofs.lemmas.List.Folds.{list_all_more, list_all_at}
use Rattle.std.proofs.lemmas.Option.{slice_get_within, get_or_from_slice_get}
use Rattle.texts.specs.Parts.{line_text, text_of}

module _ {X : Type 0} (xs : List X) (place : ℕ) (x : X) (e : slice_get xs place ≡ Some x) where
  -- the test passes at one place more
  pub all-more : (test : X → Bool) → list_all test (take place xs) ≡ true → test x ≡ true → list_all test (take (place + 1) xs) ≡ true
  all-more test all here = list_all_more test xs place x (slice_get_within xs place x e) ∙ rw (all, get_or_from_slice_get xs place x x e, here) refl

  -- the test fails at a place
  pub all-but : (test : X → Bool) → test x ≡ false → list_all test xs ≡ false
  all-but test fails = list_all_at test xs place x (slice_get_within xs place x e) (ap test (get_or_from_slice_get xs place x x e) ∙ fails)

  -- the line of one place more was written
  pub lines-more : (fields : X → List (List ℕ)) (o a b : List ℕ) → a ≡ o ++ text_of (map fields (take place xs)) → b ≡ a ++ line_text (fields x) → b ≡ o ++ text_of (map fields (take (place + 1) xs))
  lines-more fields o a b is more =
      let front : take (place + 1) xs ≡ take place xs ++ x ∷ [] = take_more xs place x (slice_get_within xs place x e) ∙ ap (λ (y : X). take place xs ++ y ∷ []) (get_or_from_slice_get xs place x x e) in
      more ∙ ap (λ (l : List ℕ). l ++ line_text (fields x)) is ∙ flat_map_more line_text o (map fields (take place xs)) (fields x)
      ∙ ap (λ (l : List (List (List ℕ))). o ++ text_of l) (sym (map_push fields (take place xs) x)) ∙ ap (λ (l : List X). o ++ text_of (map fields l)) (sym front)
