-- What is kept of the texts of windows.
use Rattle.std.proofs.Common.{◌≡◌, ◌∙◌, ℕ, ◌+◌, ◌-◌, List, [], ◌∷◌, ◌++◌, Option, Some, None, length, ap, sym, subst, arith}
use Rattle.std.specs.Prelude.{slice_get}
use Rattle.std.specs.List.{concat}
use Rattle.std.specs.Global.{Vec}
use Rattle.std.proofs.lemmas.List.{append-nil, length-append}
use Rattle.std.proofs.lemmas.List.Folds.{concat-append}
use Rattle.std.proofs.lemmas.Option.{slice_get_within}
use Rattle.ring_names.proofs.InLists.{get_front, get_last}
use Rattle.plan_goal.specs.Windows.{Keeps}
use Rattle.plan_goal.specs.declared.windows.Asked.TheVariants.{All, After, Found}

-- one text more: all texts, one after the other
pub keeps-all : (only : Option ℕ) (texts : List (List ℕ)) (old new : Vec ℕ) (text : List ℕ) → new.items ≡ old.items ++ text → Keeps only texts (All old) → Keeps only (texts ++ text ∷ []) (All new)
keeps-all None texts old new text e h = e ∙ ap (λ (xs : List ℕ). xs ++ text) h ∙ ap (λ (xs : List ℕ). concat texts ++ xs) (sym (append-nil text)) ∙ sym (concat-append texts (text ∷ []))
keeps-all (Some number) texts old new text e h = absurd h

-- the one that is asked for
pub keeps-this : (only : Option ℕ) (texts : List (List ℕ)) (text : Vec ℕ) (left : ℕ) → left ≡ 0 → Keeps only texts (After left) → Keeps only (texts ++ text.items ∷ []) (Found text)
keeps-this None texts text left e h = absurd h
keeps-this (Some number) texts text left e h =
    let at : length texts ≡ number - 1 = omega (arith, e, h) in
    subst (λ (k : ℕ). slice_get (texts ++ text.items ∷ []) k ≡ Some text.items) at (get_last texts text.items)

-- one before it
pub keeps-fewer : (only : Option ℕ) (texts : List (List ℕ)) (text : List ℕ) (left less : ℕ) → left ≡ less + 1 → Keeps only texts (After left) → Keeps only (texts ++ text ∷ []) (After less)
keeps-fewer None texts text left less e h = absurd h
keeps-fewer (Some number) texts text left less e h = omega (arith, e, h, length-append texts (text ∷ []))

-- one after it
pub keeps-found : (only : Option ℕ) (texts : List (List ℕ)) (text : List ℕ) (found : Vec ℕ) → Keeps only texts (Found found) → Keeps only (texts ++ text ∷ []) (Found found)
keeps-found None texts text found h = absurd h
keeps-found (Some number) texts text found h = get_front texts (text ∷ []) (number - 1) (slice_get_within texts (number - 1) found.items h) ∙ h
