-- A text of which some lines are known begins with these lines.
use Rattle.std.proofs.Common.{◌≡◌, ℕ, Bool, true, false, cond, eqb, List, [], ◌∷◌, ◌++◌, map, refl, sym, ap, ◌∙◌, append_assoc, append-nil}
use Rattle.std.specs.List.{slice_split, onto_first, join_with_byte}
use Rattle.std.proofs.lemmas.Bool.{eqb-true}
use Rattle.std.proofs.lemmas.List.Concat.{flat_map-cons}
use Rattle.std.proofs.lemmas.List.Splits.{join_with_byte-slice_split}
use Rattle.texts.specs.Parts.{fields_of, lines_of, line_text, text_of}
use Rattle.texts.proofs.Cuts.{first_part}

abbrev is_end : ℕ → Bool
is_end b = eqb b 10

abbrev parts : List ℕ → List (List ℕ)
parts text = slice_split is_end text

-- a text that begins with this part, and the text after it
record Behind (text p q : List ℕ) (qs : List (List ℕ)) : Type 0 where
  rest : List ℕ
  whole : text ≡ p ++ 10 ∷ rest
  parts_are : parts rest ≡ q ∷ qs

further : (b : ℕ) (bs x : List ℕ) (xs : List (List ℕ)) (p q : List ℕ) (qs : List (List ℕ)) → parts bs ≡ x ∷ xs → (b ∷ x) ∷ xs ≡ p ∷ q ∷ qs
    → (parts bs ≡ x ∷ q ∷ qs → Behind bs x q qs) → Behind (b ∷ bs) p q qs
further b bs x xs p q qs is f later =
    let first : b ∷ x ≡ p = cc in
    let rest : xs ≡ q ∷ qs = cc in
    let more = later (is ∙ ap (λ (ys : List (List ℕ)). x ∷ ys) rest) in
    record {
      rest = more.rest;
      whole = ap (λ (ys : List ℕ). b ∷ ys) more.whole ∙ ap (λ (ys : List ℕ). ys ++ 10 ∷ more.rest) first;
      parts_are = more.parts_are;
    }

step-by : (b : ℕ) (bs p q : List ℕ) (qs : List (List ℕ)) (t : Bool) → eqb b 10 ≡ t → cond t ([] ∷ parts bs) (onto_first b (parts bs)) ≡ p ∷ q ∷ qs
    → ((x : List ℕ) → parts bs ≡ x ∷ q ∷ qs → Behind bs x q qs) → Behind (b ∷ bs) p q qs
step-by b bs p q qs true is f later =
    let first : [] ≡ p = cc in
    let rest : parts bs ≡ q ∷ qs = cc in
    record { rest = bs; whole = ap (λ (c : ℕ). c ∷ bs) (eqb-true b 10 is) ∙ ap (λ (ys : List ℕ). ys ++ 10 ∷ bs) first; parts_are = rest }
step-by b bs p q qs false is f later =
    let s = first_part is_end bs in
    further b bs s.0 s.1 p q qs s.2 (ap (onto_first b) (sym s.2) ∙ f) (later s.0)

step : (text p q : List ℕ) (qs : List (List ℕ)) → parts text ≡ p ∷ q ∷ qs → Behind text p q qs
step [] p q qs e = absurd cc
step (b ∷ bs) p q qs e = step-by b bs p q qs (eqb b 10) refl e (λ x f. step bs x q qs f)

-- what is after some lines of a text
pub record After (text : List ℕ) (ls : List (List (List ℕ))) (x : List (List ℕ)) (xs : List (List (List ℕ))) : Type 0 where
  pub rest : List ℕ
  pub whole : text ≡ text_of ls ++ rest
  pub lines_are : lines_of rest ≡ x ∷ xs

-- one line
one : (text : List ℕ) (l m : List (List ℕ)) (ms : List (List (List ℕ))) → lines_of text ≡ l ∷ m ∷ ms → (rest : List ℕ) × (text ≡ line_text l ++ rest) × (lines_of rest ≡ m ∷ ms)
one text l m ms e = by (parts text) refl e
  where
    found : (p q : List ℕ) (qs : List (List ℕ)) → parts text ≡ p ∷ q ∷ qs → fields_of p ∷ fields_of q ∷ map fields_of qs ≡ l ∷ m ∷ ms → (rest : List ℕ) × (text ≡ line_text l ++ rest) × (lines_of rest ≡ m ∷ ms)
    found p q qs is f =
        let s = step text p q qs is in
        let first : fields_of p ≡ l = cc in
        let later : fields_of q ∷ map fields_of qs ≡ m ∷ ms = cc in
        let same : p ≡ join_with_byte 32 l = sym (join_with_byte-slice_split 32 p) ∙ ap (join_with_byte 32) first in
        (s.rest, s.whole ∙ ap (λ (t : List ℕ). t ++ 10 ∷ s.rest) same ∙ sym (append_assoc (join_with_byte 32 l) (10 ∷ []) s.rest), ap (map fields_of) s.parts_are ∙ later)

    by : (ps : List (List ℕ)) → parts text ≡ ps → map fields_of ps ≡ l ∷ m ∷ ms → (rest : List ℕ) × (text ≡ line_text l ++ rest) × (lines_of rest ≡ m ∷ ms)
    by [] is f = absurd cc
    by (p ∷ []) is f = absurd cc
    by (p ∷ q ∷ qs) is f = found p q qs is f

-- some lines
pub split : (ls : List (List (List ℕ))) (text : List ℕ) (x : List (List ℕ)) (xs : List (List (List ℕ))) → lines_of text ≡ ls ++ x ∷ xs → After text ls x xs
split [] text x xs e = record { rest = text; whole = refl; lines_are = e }
split (l ∷ []) text x xs e =
    let o = one text l x xs e in
    record { rest = o.0; whole = o.1 ∙ ap (λ (t : List ℕ). t ++ o.0) (sym (flat_map-cons line_text l [] ∙ append-nil (line_text l))); lines_are = o.2 }
split (l ∷ m ∷ ls) text x xs e =
    let o = one text l m (ls ++ x ∷ xs) e in
    let s = split (m ∷ ls) o.0 x xs o.2 in
    record {
      rest = s.rest;
      whole = o.1 ∙ ap (λ (t : List ℕ). line_text l ++ t) s.whole ∙ sym (append_assoc (line_text l) (text_of (m ∷ ls)) s.rest) ∙ ap (λ (t : List ℕ). t ++ s.rest) (sym (flat_map-cons line_text l (m ∷ ls)));
      lines_are = s.lines_are;
    }
