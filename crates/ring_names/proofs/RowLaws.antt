-- Rows in one list: a row more, and a row less.
use Rattle.std.proofs.Common.{◌≡◌, ℕ, zero, suc, ◌+◌, ◌-◌, ◌<◌, ◌≤◌, List, [], ◌∷◌, ◌++◌, length, get_or, take, drop, Some, refl, sym, ap, ◌∙◌, arith}
use Rattle.std.specs.Prelude.{sum_by, slice_get}
use Rattle.std.specs.List.{slice_range}
use Rattle.std.proofs.lemmas.List.{drop-append-le, take-append-le, length-append, length-drop, length-take-le, take-append-drop}
use Rattle.std.proofs.lemmas.List.Sums.{sum_by-cons}
use Rattle.std.proofs.Math.Seq.{drop-append_seam, take-length}
use Rattle.ring_names.specs.Rows.{rows_from, AreEnds}

pub ends-le : (from : ℕ) (ends : List ℕ) (last : ℕ) → AreEnds from ends last → from ≤ last
ends-le from [] last h = omega arith
ends-le from (to ∷ ends) last h = (let rest = ends-le to ends last h.1 in omega (arith, h.0))

pub rows-length : (xs : List ℕ) (from : ℕ) (ends : List ℕ) → length (rows_from xs from ends) ≡ length ends
rows-length xs from [] = refl
rows-length xs from (to ∷ ends) = ap (λ n. suc n) (rows-length xs to ends)

-- a row, by its place
pub row-at : (xs : List ℕ) (from : ℕ) (ends : List ℕ) (k : ℕ) → k < length ends → slice_get (rows_from xs from ends) k ≡ Some (slice_range xs (get_or (from ∷ ends) k 0) (get_or ends k 0))
row-at xs from [] k lt = absurd (omega arith)
row-at xs from (to ∷ ends) zero lt = refl
row-at xs from (to ∷ ends) (suc k) lt = row-at xs to ends k (omega arith)

-- it is within the list
pub row-within : (from : ℕ) (ends : List ℕ) (last k : ℕ) → AreEnds from ends last → k < length ends → (get_or (from ∷ ends) k 0 ≤ get_or ends k 0) × (get_or ends k 0 ≤ last)
row-within from [] last k h lt = absurd (omega arith)
row-within from (to ∷ ends) last zero h lt = (h.0, ends-le to ends last h.1)
row-within from (to ∷ ends) last (suc k) h lt = row-within to ends last k h.1 (omega arith)

-- what the place of a row gives, if the rows are these
pub row-there : (xs ends : List ℕ) (rows : List (List ℕ)) (place : ℕ) → rows_from xs 0 ends ≡ rows → AreEnds 0 ends (length xs) → place < length rows
    → (place < length ends) × (get_or (0 ∷ ends) place 0 ≤ get_or ends place 0) × (get_or ends place 0 ≤ length xs)
row-there xs ends rows place view h lt =
    let less : place < length ends = omega (arith, rows-length xs 0 ends, ap (λ (l : List (List ℕ)). length l) view) in
    let within = row-within 0 ends (length xs) place h less in
    (less, within.0, within.1)

range-length : (xs : List ℕ) (from to : ℕ) → from ≤ to → to ≤ length xs → length (slice_range xs from to) ≡ to - from
range-length xs from to le within = length-take-le (to - from) (drop from xs) (omega (arith, length-drop from xs))

-- the rows have all numbers
pub rows-total : (xs : List ℕ) (from : ℕ) (ends : List ℕ) (last : ℕ) → AreEnds from ends last → last ≤ length xs → from + sum_by (λ (row : List ℕ). length row) (rows_from xs from ends) ≡ last
rows-total xs from [] last h within = omega (arith, h)
rows-total xs from (to ∷ ends) last h within =
    let rest = rows-total xs to ends last h.1 within in
    let le = ends-le to ends last h.1 in
    let size = range-length xs from to h.0 (omega arith) in
    let f : List ℕ → ℕ = λ row. length row in
    let sum : sum_by f (rows_from xs from (to ∷ ends)) ≡ length (slice_range xs from to) + sum_by f (rows_from xs to ends) = sum_by-cons f (slice_range xs from to) (rows_from xs to ends) in
    omega (arith, h.0, rest, size, sum)

-- ---- one row more

range-stays : (xs ys : List ℕ) (from to : ℕ) → from ≤ to → to ≤ length xs → slice_range (xs ++ ys) from to ≡ slice_range xs from to
range-stays xs ys from to le within =
    let front : drop from (xs ++ ys) ≡ drop from xs ++ ys = drop-append-le from xs ys (omega arith) in
    let long : to - from ≤ length (drop from xs) = omega (arith, length-drop from xs) in
    ap (λ (l : List ℕ). take (to - from) l) front ∙ take-append-le (to - from) (drop from xs) ys long

last-row : (xs ys : List ℕ) (from : ℕ) → from ≡ length xs → slice_range (xs ++ ys) from (length (xs ++ ys)) ≡ ys
last-row xs ys from e =
    let after : drop from (xs ++ ys) ≡ ys = rw e (drop-append_seam xs ys) in
    let size : length (xs ++ ys) - from ≡ length ys = omega (arith, length-append xs ys) in
    ap (λ (l : List ℕ). take (length (xs ++ ys) - from) l) after ∙ ap (λ n. take n ys) size ∙ take-length ys

pub one-row-more : (xs ys : List ℕ) (from : ℕ) (ends : List ℕ) → AreEnds from ends (length xs) → rows_from (xs ++ ys) from (ends ++ length (xs ++ ys) ∷ []) ≡ rows_from xs from ends ++ ys ∷ []
one-row-more xs ys from [] h = ap (λ (r : List ℕ). r ∷ []) (last-row xs ys from h)
one-row-more xs ys from (to ∷ ends) h =
    rw (range-stays xs ys from to h.0 (ends-le to ends (length xs) h.1), one-row-more xs ys to ends h.1) refl

pub ends-more : (from : ℕ) (ends : List ℕ) (last more : ℕ) → AreEnds from ends last → last ≤ more → AreEnds from (ends ++ more ∷ []) more
ends-more from [] last more h le = (omega (arith, h), refl)
ends-more from (to ∷ ends) last more h le = (h.0, ends-more to ends last more h.1 le)

-- ---- one row less

-- the places but the last
pub ends-less : (from : ℕ) (ends : List ℕ) (end last : ℕ) → AreEnds from (ends ++ end ∷ []) last → AreEnds from ends (get_or (from ∷ ends) (length ends) 0) × (get_or (from ∷ ends) (length ends) 0 ≤ last)
ends-less from [] end last h = (refl, omega (arith, h.0, h.1))
ends-less from (to ∷ ends) end last h = (let rest = ends-less to ends end last h.1 in ((h.0, rest.0), rest.1))

rows-stay : (xs ys : List ℕ) (from : ℕ) (ends : List ℕ) (last : ℕ) → AreEnds from ends last → last ≤ length xs → rows_from (xs ++ ys) from ends ≡ rows_from xs from ends
rows-stay xs ys from [] last h within = refl
rows-stay xs ys from (to ∷ ends) last h within =
    let le = ends-le to ends last h.1 in
    rw (range-stays xs ys from to h.0 (omega arith), rows-stay xs ys to ends last h.1 within) refl

-- the rows stay if the numbers after them go
pub one-row-less : (xs : List ℕ) (from : ℕ) (ends : List ℕ) (last : ℕ) → AreEnds from ends last → last ≤ length xs → rows_from (take last xs) from ends ≡ rows_from xs from ends
one-row-less xs from ends last h within =
    let size : length (take last xs) ≡ last = length-take-le last xs within in
    sym (rows-stay (take last xs) (drop last xs) from ends last h (omega arith)) ∙ ap (λ (l : List ℕ). rows_from l from ends) (take-append-drop last xs)

pub rows-front : (xs : List ℕ) (from : ℕ) (ends : List ℕ) (end : ℕ) → take (length ends) (rows_from xs from (ends ++ end ∷ [])) ≡ rows_from xs from ends
rows-front xs from [] end = refl
rows-front xs from (to ∷ ends) end = ap (λ (l : List (List ℕ)). slice_range xs from to ∷ l) (rows-front xs to ends end)
