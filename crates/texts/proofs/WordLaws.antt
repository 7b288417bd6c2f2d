-- Whether the first part of a line is a word.
use Rattle.std.proofs.Common.{◌≡◌, ℕ, ◌+◌, ◌-◌, ◌<◌, ◌≤◌, Bool, true, false, cond, ◌||◌, eqb, List, [], ◌∷◌, length, drop, get_or, take, refl, sym, ap, subst, ◌∙◌, arith}
use Rattle.std.specs.List.{onto_first}
use Rattle.std.specs.Str.{bytes_eq}
use Rattle.std.proofs.lemmas.List.{take_all}
use Rattle.ring_names.proofs.AtBytes.{bytes_same}
use Rattle.texts.specs.Parts.{fields_of, until}
use Rattle.texts.proofs.Cuts.{cut_at, none_at}
use Rattle.texts.proofs.Untils.{until-take, until-before, until-at}

twice : (b : Bool) → (b || b) ≡ b
twice true = refl
twice false = refl

first : (bs : List ℕ) → (xs : List (List ℕ)) × (fields_of bs ≡ until (λ b. eqb b 32 || eqb b 32) bs ∷ xs)
first [] = ([], refl)
first (b ∷ bs) = by (eqb b 32) refl (first bs)
  where
    by : (t : Bool) → eqb b 32 ≡ t → ((xs : List (List ℕ)) × (fields_of bs ≡ until (λ c. eqb c 32 || eqb c 32) bs ∷ xs)) → (xs : List (List ℕ)) × (fields_of (b ∷ bs) ≡ cond (eqb b 32 || eqb b 32) [] (b ∷ until (λ c. eqb c 32 || eqb c 32) bs) ∷ xs)
    by true e f = (fields_of bs, rw e refl)
    by false e f = (f.0, rw e (ap (onto_first b) f.1))

head_is : (x y : List ℕ) (xs ys : List (List ℕ)) → (x ∷ xs) ≡ (y ∷ ys) → x ≡ y
head_is x y xs ys e = cc

-- where another word stands in front, the first part is not this one
pub other_word : (bs word x : List ℕ) (xs : List (List ℕ)) → bytes_eq (until (λ b. eqb b 32 || eqb b 32) bs) word ≡ false → fields_of bs ≡ x ∷ xs → bytes_eq x word ≡ false
other_word bs word x xs h e =
    let f = first bs in
    rw (head_is x (until (λ b. eqb b 32 || eqb b 32) bs) xs f.0 (sym e ∙ f.1)) h

-- where it stands in front, what is behind it is left
pub word_behind : (bs word : List ℕ) → bytes_eq (until (λ b. eqb b 32 || eqb b 32) bs) word ≡ true → length word < length bs
    → fields_of bs ≡ word ∷ fields_of (take (length bs - (length word + 1)) (drop (length word + 1) bs))
word_behind bs word h l =
    let p : ℕ → Bool = λ b. eqb b 32 || eqb b 32 in
    let e : until p bs ≡ word = bytes_same (until p bs) word h in
    let front = subst (λ (w : List ℕ). take (length w) bs ≡ w) e (until-take p bs) in
    let before = subst (λ (w : List ℕ). (k : ℕ) → k < length w → p (get_or bs k 0) ≡ false) e (until-before p bs) in
    let at = subst (λ (w : List ℕ). length w < length bs → p (get_or bs (length w) 0) ≡ true) e (until-at p bs) in
    cut_at (λ b. eqb b 32) bs (length word) l (λ k m. sym (twice (eqb (get_or bs k 0) 32)) ∙ before k m) (sym (twice (eqb (get_or bs (length word) 0) 32)) ∙ at l)
    ∙ rw front refl

-- or nothing
pub word_whole : (bs word : List ℕ) → bytes_eq (until (λ b. eqb b 32 || eqb b 32) bs) word ≡ true → length bs ≤ length word → fields_of bs ≡ word ∷ []
word_whole bs word h l =
    let p : ℕ → Bool = λ b. eqb b 32 || eqb b 32 in
    let e : until p bs ≡ word = bytes_same (until p bs) word h in
    let front = subst (λ (w : List ℕ). take (length w) bs ≡ w) e (until-take p bs) in
    let before = subst (λ (w : List ℕ). (k : ℕ) → k < length w → p (get_or bs k 0) ≡ false) e (until-before p bs) in
    none_at (λ b. eqb b 32) bs (λ k m. sym (twice (eqb (get_or bs k 0) 32)) ∙ before k (omega arith))
    ∙ ap (λ (x : List ℕ). x ∷ []) (sym (take_all (length word) bs l) ∙ front)
