-- A text is cut into just the lines and fields that were joined.
use Rattle.std.proofs.Common.{◌≡◌, ℕ, ◌<◌, false, eqb, List, [], ◌∷◌, ◌++◌, map, refl, sym, ap, ◌∙◌, append_assoc, arith}
use Rattle.std.specs.List.{slice_split, join_with_byte, AllByRecursion, All}
use Rattle.std.proofs.lemmas.Bool.{ne_eqb}
use Rattle.std.proofs.lemmas.List.{append-nil}
use Rattle.std.proofs.lemmas.List.Elements.{All-from_recursion}
use Rattle.std.proofs.lemmas.List.Concat.{flat_map-cons}
use Rattle.std.proofs.lemmas.List.Splits.{slice_split_none, slice_split_at, join_with_byte-slice_split}
use Rattle.texts.specs.Parts.{fields_of, lines_of, line_text, text_of}
use Rattle.texts.specs.Laws.{IsPlain, IsPlainLine}

-- ---- from fields to a text, and back

weaker : (P Q : ℕ → Type 0) → ((b : ℕ) → P b → Q b) → (bs : List ℕ) → AllByRecursion P bs → AllByRecursion Q bs
weaker P Q h [] a = tt
weaker P Q h (b ∷ bs) a = (h b a.0, weaker P Q h bs a.1)

-- what holds for each of some and for each of others
pub appended : {A : Type 0} (P : A → Type 0) (xs ys : List A) → AllByRecursion P xs → AllByRecursion P ys → AllByRecursion P (xs ++ ys)
appended P [] ys a b = b
appended P (x ∷ xs) ys a b = (a.0, appended P xs ys a.1 b)

spaceless : (f : List ℕ) → IsPlain f → All (λ b. eqb b 32 ≡ false) f
spaceless f p = All-from_recursion (λ b. eqb b 32 ≡ false) f (weaker (λ b. 32 < b) (λ b. eqb b 32 ≡ false) (λ b h. ne_eqb b 32 (omega arith)) f p)

fields-join : (f : List ℕ) (fs : List (List ℕ)) → IsPlain f → AllByRecursion IsPlain fs → fields_of (join_with_byte 32 (f ∷ fs)) ≡ f ∷ fs
fields-join f [] p ps = slice_split_none (λ b. eqb b 32) f (spaceless f p)
fields-join f (g ∷ fs) p ps = slice_split_at (λ b. eqb b 32) f 32 (join_with_byte 32 (g ∷ fs)) (spaceless f p) refl ∙ ap (λ (x : List (List ℕ)). f ∷ x) (fields-join g fs ps.0 ps.1)

unended : (f : List ℕ) (fs : List (List ℕ)) → IsPlain f → AllByRecursion IsPlain fs → AllByRecursion (λ b. eqb b 10 ≡ false) (join_with_byte 32 (f ∷ fs))
unended f [] p ps = weaker (λ b. 32 < b) (λ b. eqb b 10 ≡ false) (λ b h. ne_eqb b 10 (omega arith)) f p
unended f (g ∷ fs) p ps = appended (λ b. eqb b 10 ≡ false) f (32 ∷ join_with_byte 32 (g ∷ fs)) (weaker (λ b. 32 < b) (λ b. eqb b 10 ≡ false) (λ b h. ne_eqb b 10 (omega arith)) f p) (refl, unended g fs ps.0 ps.1)

text_of-cons : (l : List (List ℕ)) (ls : List (List (List ℕ))) → text_of (l ∷ ls) ≡ join_with_byte 32 l ++ (10 ∷ text_of ls)
text_of-cons l ls = flat_map-cons line_text l ls ∙ append_assoc (join_with_byte 32 l) (10 ∷ []) (text_of ls)

-- what was joined is cut again
pub lines-text : (ls : List (List (List ℕ))) → AllByRecursion IsPlainLine ls → lines_of (text_of ls) ≡ ls ++ ([] ∷ []) ∷ []
lines-text [] p = refl
lines-text ([] ∷ ls) p = absurd p.0
lines-text ((f ∷ fs) ∷ ls) p =
    let cut : slice_split (λ b. eqb b 10) (text_of ((f ∷ fs) ∷ ls)) ≡ join_with_byte 32 (f ∷ fs) ∷ slice_split (λ b. eqb b 10) (text_of ls) =
    ap (λ (t : List ℕ). slice_split (λ b. eqb b 10) t) (text_of-cons (f ∷ fs) ls) ∙ slice_split_at (λ b. eqb b 10) (join_with_byte 32 (f ∷ fs)) 10 (text_of ls) (All-from_recursion (λ b. eqb b 10 ≡ false) (join_with_byte 32 (f ∷ fs)) (unended f fs p.0.0 p.0.1)) refl in
    ap (λ (ps : List (List ℕ)). map fields_of ps) cut ∙ rw (fields-join f fs p.0.0 p.0.1, lines-text ls p.1) refl

-- the first line of a text that begins with a line that was joined
pub lines-cut : (fs : List (List ℕ)) (rest : List ℕ) → IsPlainLine fs → lines_of (line_text fs ++ rest) ≡ fs ∷ lines_of rest
lines-cut [] rest p = absurd p
lines-cut (f ∷ fs) rest p =
    let cut = slice_split_at (λ b. eqb b 10) (join_with_byte 32 (f ∷ fs)) 10 rest (All-from_recursion (λ b. eqb b 10 ≡ false) (join_with_byte 32 (f ∷ fs)) (unended f fs p.0 p.1)) refl in
    ap lines_of (append_assoc (join_with_byte 32 (f ∷ fs)) (10 ∷ []) rest) ∙ ap (λ (ps : List (List ℕ)). map fields_of ps) cut ∙ rw (fields-join f fs p.0 p.1) refl

-- ---- from a text to fields, and back

joined : (ps : List (List ℕ)) → map (λ (l : List (List ℕ)). join_with_byte 32 l) (map fields_of ps) ≡ ps
joined [] = refl
joined (p ∷ ps) = rw (join_with_byte-slice_split 32 p, joined ps) refl

rejoined : (ls : List (List (List ℕ))) → join_with_byte 10 (map (λ (l : List (List ℕ)). join_with_byte 32 l) (ls ++ ([] ∷ []) ∷ [])) ≡ text_of ls
rejoined [] = refl
rejoined (l ∷ []) = sym (append-nil (line_text l))
rejoined (l ∷ m ∷ ls) = ap (λ (x : List ℕ). join_with_byte 32 l ++ 10 ∷ x) (rejoined (m ∷ ls)) ∙ sym (text_of-cons l (m ∷ ls))

-- a text that is cut into these lines is these lines joined
pub text-lines : (text : List ℕ) (ls : List (List (List ℕ))) → lines_of text ≡ ls ++ ([] ∷ []) ∷ [] → text ≡ text_of ls
text-lines text ls e =
    sym (join_with_byte-slice_split 10 text) ∙ ap (λ (ps : List (List ℕ)). join_with_byte 10 ps) (sym (joined (slice_split (λ b. eqb b 10) text)) ∙ ap (λ (x : List (List (List ℕ))). map (λ (l : List (List ℕ)). join_with_byte 32 l) x) e) ∙ rejoined ls
