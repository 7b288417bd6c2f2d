-- Cutting at the first separator.
use Rattle.std.proofs.Common.{◌≡◌, ℕ, suc, ◌+◌, ◌-◌, ◌<◌, Bool, true, false, cond, eqb, List, [], ◌∷◌, length, get_or, take, drop, Ok, map, refl, sym, ap, ◌∙◌, arith}
use Rattle.std.specs.List.{slice_split, onto_first, position_or_len}
use Rattle.std.proofs.lemmas.List.{take_rest, get_or_default}
use Rattle.std.proofs.lemmas.Bool.{ne_eqb}
use Rattle.std.proofs.lemmas.List.Splits.{slice_split_none, slice_split_first}
use Rattle.std.proofs.lemmas.List.Sums.{position_or_len_is}
use Rattle.texts.specs.Parts.{fields_of, lines_of}
use Rattle.texts.specs.Left.{first_line, next_number, is_nothing}

Parts : List (List ℕ) → Type 0
Parts ps = (x : List ℕ) × (xs : List (List ℕ)) × (ps ≡ x ∷ xs)

shape-by : (t : Bool) (b : ℕ) (ps : List (List ℕ)) → Parts ps → Parts (cond t ([] ∷ ps) (onto_first b ps))
unfolding Parts
shape-by true b ps s = ([], ps, refl)
shape-by false b ps s = (b ∷ s.0, s.1, ap (λ (qs : List (List ℕ)). onto_first b qs) s.2)

-- there is always a first part
shape : (p : ℕ → Bool) (bs : List ℕ) → Parts (slice_split p bs)
unfolding Parts
shape p [] = ([], [], refl)
shape p (b ∷ bs) = shape-by (p b) b (slice_split p bs) (shape p bs)

-- a line that another part follows
pub first-ended : (k : ℕ) (whole line rest : List ℕ) → slice_split (λ b. eqb b 10) whole ≡ line ∷ slice_split (λ b. eqb b 10) rest → first_line k (lines_of whole) ≡ Ok (fields_of line, record { line = next_number k; lines = lines_of rest })
unfolding Parts
first-ended k whole line rest e =
    let s = shape (λ b. eqb b 10) rest in
    rw (e, s.2) refl

over-fields : (t : Bool) (b : ℕ) (fields : List (List ℕ)) (lines : List (List (List ℕ))) → Parts fields → is_nothing (cond t ([] ∷ fields) (onto_first b fields) ∷ lines) ≡ false
unfolding Parts
over-fields true b fields lines s = rw s.2 refl
over-fields false b fields [] s = over-one s.1 s.2
  where
    over-one : (xs : List (List ℕ)) → fields ≡ s.0 ∷ xs → is_nothing (onto_first b fields ∷ []) ≡ false
    over-one [] e = rw e refl
    over-one (x ∷ xs) e = rw e refl
over-fields false b fields (l ∷ ls) s = over-more s.1 s.2
  where
    over-more : (xs : List (List ℕ)) → fields ≡ s.0 ∷ xs → is_nothing (onto_first b fields ∷ l ∷ ls) ≡ false
    over-more [] e = rw e refl
    over-more (x ∷ xs) e = rw e refl

over-lines : (t : Bool) (b : ℕ) (parts : List (List ℕ)) → Parts parts → is_nothing (map fields_of (cond t ([] ∷ parts) (onto_first b parts))) ≡ false
unfolding Parts
over-lines true b parts s = rw s.2 refl
over-lines false b parts s = rw s.2 (over-fields (eqb b 32) b (fields_of s.0) (map fields_of s.1) (shape (λ c. eqb c 32) s.0))

pub over : (bs : List ℕ) → is_nothing (lines_of bs) ≡ eqb (length bs) 0
over [] = refl
over (b ∷ bs) =
    let zero-no : eqb (suc (length bs)) 0 ≡ false = ne_eqb (suc (length bs)) 0 (omega arith) in
    over-lines (eqb b 10) b (slice_split (λ c. eqb c 10) bs) (shape (λ c. eqb c 10) bs) ∙ sym zero-no

pub none_at : (p : ℕ → Bool) (bs : List ℕ) → ((k : ℕ) → k < length bs → p (get_or bs k 0) ≡ false) → slice_split p bs ≡ bs ∷ []
none_at p bs none = slice_split_none p bs (λ k d h. rw (get_or_default bs k d 0 h) (none k h))

-- what cutting at the first place found
pub cut_at : (p : ℕ → Bool) (bs : List ℕ) (i : ℕ) → i < length bs → ((k : ℕ) → k < i → p (get_or bs k 0) ≡ false) → p (get_or bs i 0) ≡ true → slice_split p bs ≡ take i bs ∷ slice_split p (take (length bs - (i + 1)) (drop (i + 1) bs))
cut_at p bs i h before at =
    let e : position_or_len p bs ≡ i = position_or_len_is p bs i 0 (omega arith) before (λ _. at) in
    slice_split_first p bs 0 (omega arith) ∙ rw (e, take_rest bs (i + 1)) refl

-- a text has at least the line that is not ended
pub some_line : (bs : List ℕ) → (x : List (List ℕ)) × (xs : List (List (List ℕ))) × (lines_of bs ≡ x ∷ xs)
unfolding Parts
some_line bs =
    let s = shape (λ b. eqb b 10) bs in
    (fields_of s.0, map fields_of s.1, ap (λ (ps : List (List ℕ)). map fields_of ps) s.2)

pub first_part : (p : ℕ → Bool) (bs : List ℕ) → (x : List ℕ) × (xs : List (List ℕ)) × (slice_split p bs ≡ x ∷ xs)
unfolding Parts
first_part p bs = shape p bs
