-- The words of options.
use Rattle.std.proofs.Common.{◌≡◌, ◌==◌, Bool, ℕ, List, [], ◌∷◌, ◌++◌, if◌then◌else◌, length, refl, sym, ap, ◌∙◌}
use Rattle.std.specs.Borrow.{Bor}
use Rattle.std.specs.List.{slice_split}
use Rattle.std.specs.Prelude.{map}
use Rattle.std.proofs.lemmas.List.{map-append}
use Rattle.ringplan_c.specs.Line.{but_empty_last, words_in}

-- a last part is left out if it is empty
at_end : (xs : List (List ℕ)) (x : List ℕ) → but_empty_last (xs ++ x ∷ []) ≡ xs ++ (if length x == 0 then [] else x ∷ [])
at_end [] x = refl
at_end (y ∷ []) x = refl
at_end (y ∷ z ∷ ys) x = ap (λ (ws : List (List ℕ)). y ∷ ws) (at_end (z ∷ ys) x)

module _ (options : List ℕ) (all rest : List (Bor (List ℕ))) (last : Bor (List ℕ)) (b : Bool) where
  abbrev texts : List (Bor (List ℕ)) → List (List ℕ)
  texts = map (λ (x : Bor (List ℕ)). x.now)

  -- the words, by the last part
  pub words_to : texts all ≡ slice_split (λ b. b == 0) options → all ≡ rest ++ last ∷ [] → (length last.now == 0) ≡ b → words_in options ≡ texts rest ++ (if b then [] else last.now ∷ [])
  words_to collected e empty =
      ap but_empty_last (sym collected ∙ ap texts e ∙ map-append (λ (x : Bor (List ℕ)). x.now) rest (last ∷ []))
      ∙ at_end (texts rest) last.now ∙ ap (λ (d : Bool). texts rest ++ (if d then [] else last.now ∷ [])) empty
