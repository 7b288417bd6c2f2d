-- The numbers of marks.
use Rattle.std.proofs.Common.{◌≡◌, ◌∙◌, ℕ, zero, suc, ◌+◌, ◌<◌, ◌≤◌, Bool, true, false, cond, List, [], ◌∷◌, ◌++◌, length, get_or, take, map, refl, sym, ap, arith}
use Rattle.std.specs.Prelude.{Option, Some, None, is_some, nat_le}
use Rattle.std.specs.List.{list_all}
use Rattle.std.proofs.lemmas.Bool.{and_parts, and_from}
use Rattle.texts.specs.Numbers.{ascending}
use Rattle.plan_runs.specs.Words.{is_seen}
use Rattle.history_laws.proofs.Numbers.{numbers_ascend, of_all}
use Rattle.history_laws.specs.Parts.{is_of_part, part_size, number_in, renumbered, all_renumbered, numbered}

pub size_most : (bs : List Bool) → part_size bs ≤ length bs
size_most [] = omega arith
size_most (true ∷ bs) = (let l = size_most bs in omega arith)
size_most (false ∷ bs) = (let l = size_most bs in omega arith)

pub numbered_more : (n : ℕ) (bs : List Bool) (b : Bool) → numbered n (bs ++ b ∷ []) ≡ numbered n bs ++ cond b (Some (n + part_size bs)) None ∷ []
numbered_more n [] true = (let e : n ≡ n + 0 = omega arith in ap (λ z. Some z ∷ []) e)
numbered_more n [] false = refl
numbered_more n (true ∷ bs) b = (let e : suc n + part_size bs ≡ n + suc (part_size bs) = omega arith in ap (λ z. Some n ∷ z) (numbered_more (suc n) bs b ∙ ap (λ z. numbered (suc n) bs ++ cond b (Some z) None ∷ []) e))
numbered_more n (false ∷ bs) b = ap (λ z. None ∷ z) (numbered_more n bs b)

pub numbered_get : (n : ℕ) (bs : List Bool) (v : ℕ) → get_or (numbered n bs) v None ≡ cond (is_of_part bs v) (Some (n + number_in bs v)) None
numbered_get n [] v = refl
numbered_get n (true ∷ bs) zero = (let e : n ≡ n + 0 = omega arith in ap Some e)
numbered_get n (false ∷ bs) zero = refl
numbered_get n (true ∷ bs) (suc v) = numbered_get (suc n) bs v ∙ (let e : suc n + number_in bs v ≡ n + suc (number_in bs v) = omega arith in ap (λ z. cond (is_of_part bs v) (Some z) None) e)
numbered_get n (false ∷ bs) (suc v) = numbered_get n bs v

pub size_more : (bs : List Bool) (b : Bool) → part_size (bs ++ b ∷ []) ≡ cond b (part_size bs + 1) (part_size bs)
size_more [] true = refl
size_more [] false = refl
size_more (true ∷ bs) true = (let e = size_more bs true in omega arith)
size_more (true ∷ bs) false = (let e = size_more bs false in omega arith)
size_more (false ∷ bs) b = size_more bs b

pub size_fits : (xs : List (Option ℕ)) (bs : List Bool) (n : ℕ) → n ≡ part_size (map is_some xs) → bs ≡ map is_some xs → length bs < 4294967295 → n + 1 < 4294967296
size_fits xs bs n e f l = (let a = size_most (map is_some xs) in let b = ap length f in omega arith)

map_more : (xs : List (Option ℕ)) (o : Option ℕ) → map is_some (xs ++ o ∷ []) ≡ map is_some xs ++ is_some o ∷ []
map_more [] o = refl
map_more (x ∷ xs) o = ap (λ z. is_some x ∷ z) (map_more xs o)

pub mine_more : (xs ys : List (Option ℕ)) (n : ℕ) → xs ≡ numbered 0 (map is_some xs) → n ≡ part_size (map is_some xs) → ys ≡ xs ++ Some n ∷ [] → (ys ≡ numbered 0 (map is_some ys)) × (n + 1 ≡ part_size (map is_some ys))
mine_more xs ys n e s m =
    let f : map is_some ys ≡ map is_some xs ++ true ∷ [] = ap (map is_some) m ∙ map_more xs (Some n) in
    let k : n ≡ 0 + part_size (map is_some xs) = omega arith in
    let z = ap part_size f ∙ size_more (map is_some xs) true in
    (m ∙ (ap (λ (l : List (Option ℕ)). l ++ Some n ∷ []) e ∙ (ap (λ t. numbered 0 (map is_some xs) ++ Some t ∷ []) k ∙ (sym (numbered_more 0 (map is_some xs) true) ∙ ap (numbered 0) (sym f)))), omega arith)

pub other_more : (xs ys : List (Option ℕ)) (n : ℕ) → xs ≡ numbered 0 (map is_some xs) → n ≡ part_size (map is_some xs) → ys ≡ xs ++ None ∷ [] → (ys ≡ numbered 0 (map is_some ys)) × (n ≡ part_size (map is_some ys))
other_more xs ys n e s m =
    let f : map is_some ys ≡ map is_some xs ++ false ∷ [] = ap (map is_some) m ∙ map_more xs None in
    (m ∙ (ap (λ (l : List (Option ℕ)). l ++ None ∷ []) e ∙ (sym (numbered_more 0 (map is_some xs) false) ∙ ap (numbered 0) (sym f))), s ∙ (sym (size_more (map is_some xs) false) ∙ ap part_size (sym f)))

pub found_mark : (xs ys : List (Option ℕ)) (bs : List Bool) (v : ℕ) (o : Option ℕ) → xs ≡ numbered 0 (map is_some xs) → map is_some xs ≡ bs → ys ≡ xs → o ≡ get_or ys v None → o ≡ cond (is_of_part bs v) (Some (number_in bs v)) None
found_mark xs ys bs v o e f g h =
    h ∙ (ap (λ (z : List (Option ℕ)). get_or z v None) (g ∙ (e ∙ ap (numbered 0) f)) ∙ (numbered_get 0 bs v ∙ ap (λ z. cond (is_of_part bs v) (Some z) None) (let k : 0 + number_in bs v ≡ number_in bs v = omega arith in k)))

all_numbers : (bs : List Bool) (vs : List ℕ) → list_all (is_of_part bs) vs ≡ true → map (renumbered bs) vs ≡ map (number_in bs) vs
all_numbers bs [] h = refl
all_numbers bs (v ∷ vs) h = (let p = and_parts (is_of_part bs v) (list_all (is_of_part bs) vs) h in rw (p.0, all_numbers bs vs p.1) refl)

pub all_mine : (bs : List Bool) (vs ns : List ℕ) → list_all (is_of_part bs) vs ≡ true → ns ≡ map (renumbered bs) vs → ns ≡ all_renumbered bs vs
all_mine bs vs ns h e = e ∙ (all_numbers bs vs h ∙ (rw h refl))

pub take_past : (k : ℕ) (xs : List ℕ) → length xs ≤ k → take k xs ≡ xs
take_past zero [] l = refl
take_past (suc k) [] l = refl
take_past zero (x ∷ xs) l = absurd (omega arith)
take_past (suc k) (x ∷ xs) l = ap (λ z. x ∷ z) (take_past k xs (omega arith))

-- ---- the gets that a put names

as_many : (bs : List Bool) (vs : List ℕ) → length (map (number_in bs) vs) ≡ length vs
as_many bs [] = refl
as_many bs (v ∷ vs) = (let e = as_many bs vs in omega arith)

pub seen_in : (bs : List Bool) (vs : List ℕ) → is_seen vs ≡ true → is_seen (all_renumbered bs vs) ≡ true
seen_in bs vs h = by (list_all (is_of_part bs) vs) refl
  where
    p : (nat_le (length vs) 16 ≡ true) × (ascending vs ≡ true)
    p = and_parts (nat_le (length vs) 16) (ascending vs) h

    by : (b : Bool) → list_all (is_of_part bs) vs ≡ b → is_seen (cond b (map (number_in bs) vs) (part_size bs ∷ [])) ≡ true
    by true k = and_from (nat_le (length (map (number_in bs) vs)) 16) (ascending (map (number_in bs) vs)) (ap (λ n. nat_le n 16) (as_many bs vs) ∙ p.0) (numbers_ascend bs vs (of_all bs vs k) p.1)
    by false k = refl
