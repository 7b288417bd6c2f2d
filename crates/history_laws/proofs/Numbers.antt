-- New numbers keep their order, and leave no gap.
use Rattle.std.proofs.Common.{◌≡◌, inl, inr, ◌∙◌, ℕ, zero, suc, ◌<◌, ◌≤◌, Bool, true, false, List, [], ◌∷◌, ◌++◌, length, map, refl, sym, ap, subst, arith, lt-ltb, ltb-true, eqb-true, eq-eqb}
use Rattle.std.specs.Prelude.{◌==◌, nat_lt}
use Rattle.std.specs.List.{list_all}
use Rattle.std.proofs.lemmas.Bool.{and_parts, and_from, or_cases, or_left, or_right, cases_lt}
use Rattle.ring_names.specs.Lists.{has}
use Rattle.texts.specs.Numbers.{ascending}
use Rattle.plan_runs.specs.World.{some_below, passing_below}
use Rattle.plan_stage.proofs.Looking.{same-numbers}
use Rattle.plan_runs.proofs.Passing.{some_found, some_is, below_is, is_below, passing_ascend}
use Rattle.history_laws.specs.Parts.{is_of_part, part_size, number_in, renumbered, all_renumbered}

-- ---- numbers

pub is_less : (bs : List Bool) (v : ℕ) → is_of_part bs v ≡ true → v < length bs
is_less [] v h = absurd cc
is_less (b ∷ bs) zero h = omega arith
is_less (b ∷ bs) (suc v) h = (let l = is_less bs v h in omega arith)

pub number_less : (bs : List Bool) (v : ℕ) → is_of_part bs v ≡ true → number_in bs v < part_size bs
number_less [] v h = absurd cc
number_less (true ∷ bs) zero h = omega arith
number_less (false ∷ bs) zero h = absurd cc
number_less (true ∷ bs) (suc v) h = (let l = number_less bs v h in omega arith)
number_less (false ∷ bs) (suc v) h = number_less bs v h

pub number_order : (bs : List Bool) (u v : ℕ) → is_of_part bs u ≡ true → u < v → number_in bs u < number_in bs v
number_order [] u v h l = absurd cc
number_order bs u zero h l = absurd (omega arith)
number_order (true ∷ bs) zero (suc v) h l = omega arith
number_order (false ∷ bs) zero (suc v) h l = absurd cc
number_order (true ∷ bs) (suc u) (suc v) h l = (let r = number_order bs u v h (omega arith) in omega arith)
number_order (false ∷ bs) (suc u) (suc v) h l = number_order bs u v h (omega arith)

pub number_one : (bs : List Bool) (u v : ℕ) → is_of_part bs u ≡ true → is_of_part bs v ≡ true → number_in bs u ≡ number_in bs v → u ≡ v
number_one bs u v hu hv e = elim (cases_lt u v) [
  | inl l ↦ absurd (let r = number_order bs u v hu l in omega arith)
  | inr m ↦ elim (cases_lt v u) [
    | inl l ↦ absurd (let r = number_order bs v u hv l in omega arith)
    | inr n ↦ omega arith
  ]
]

-- each number in the part belongs to something in it
pub number_found : (bs : List Bool) (r : ℕ) → r < part_size bs → (v : ℕ) × (is_of_part bs v ≡ true) × (number_in bs v ≡ r)
number_found [] r l = absurd (omega arith)
number_found (true ∷ bs) zero l = (zero, refl, refl)
number_found (true ∷ bs) (suc r) l = (let g = number_found bs r (omega arith) in (suc g.0, g.1, ap suc g.2))
number_found (false ∷ bs) r l = (let g = number_found bs r l in (suc g.0, g.1, g.2))

-- ---- one more

pub kept_is : (bs : List Bool) (b : Bool) (v : ℕ) → v < length bs → is_of_part (bs ++ b ∷ []) v ≡ is_of_part bs v
kept_is [] b v l = absurd (omega arith)
kept_is (a ∷ bs) b zero l = refl
kept_is (a ∷ bs) b (suc v) l = kept_is bs b v (omega arith)

pub new_is : (bs : List Bool) (b : Bool) (v : ℕ) → v ≡ length bs → is_of_part (bs ++ b ∷ []) v ≡ b
new_is [] b zero e = refl
new_is [] b (suc v) e = absurd (omega arith)
new_is (a ∷ bs) b zero e = absurd (omega arith)
new_is (a ∷ bs) b (suc v) e = new_is bs b v (omega arith)

pub past_is : (bs : List Bool) (b : Bool) (v : ℕ) → length bs < v → is_of_part (bs ++ b ∷ []) v ≡ false
past_is [] b zero l = absurd (omega arith)
past_is [] b (suc v) l = refl
past_is (a ∷ bs) b zero l = absurd (omega arith)
past_is (a ∷ bs) b (suc v) l = past_is bs b v (omega arith)

pub kept_number : (bs : List Bool) (b : Bool) (v : ℕ) → v ≤ length bs → number_in (bs ++ b ∷ []) v ≡ number_in bs v
kept_number [] b zero l = refl
kept_number [] b (suc v) l = absurd (omega arith)
kept_number (a ∷ bs) b zero l = refl
kept_number (true ∷ bs) b (suc v) l = ap suc (kept_number bs b v (omega arith))
kept_number (false ∷ bs) b (suc v) l = kept_number bs b v (omega arith)

pub last_number : (bs : List Bool) → number_in bs (length bs) ≡ part_size bs
last_number [] = refl
last_number (true ∷ bs) = ap suc (last_number bs)
last_number (false ∷ bs) = last_number bs

-- ---- tests of numbers

pub same_test : (a b : Bool) → (a ≡ true → b ≡ true) → (b ≡ true → a ≡ true) → a ≡ b
same_test true b f g = sym (f refl)
same_test false true f g = g refl
same_test false false f g = refl

pub less_same : (bs : List Bool) (u v : ℕ) → is_of_part bs u ≡ true → is_of_part bs v ≡ true → nat_lt (number_in bs u) (number_in bs v) ≡ nat_lt u v
less_same bs u v hu hv = same_test (nat_lt (number_in bs u) (number_in bs v)) (nat_lt u v) f g
  where
    f : nat_lt (number_in bs u) (number_in bs v) ≡ true → nat_lt u v ≡ true
    f e = elim (cases_lt u v) [
      | inl l ↦ lt-ltb u v l
      | inr l ↦ absurd (let m = ltb-true (number_in bs u) (number_in bs v) e in elim (cases_lt v u) [
        | inl k ↦ (let r = number_order bs v u hv k in omega arith)
        | inr k ↦ (let s : u ≡ v = omega arith in let t = ap (number_in bs) s in omega arith)
      ])
    ]

    g : nat_lt u v ≡ true → nat_lt (number_in bs u) (number_in bs v) ≡ true
    g e = lt-ltb (number_in bs u) (number_in bs v) (number_order bs u v hu (ltb-true u v e))

pub one_same : (bs : List Bool) (u v : ℕ) → is_of_part bs u ≡ true → is_of_part bs v ≡ true → (number_in bs u == number_in bs v) ≡ (u == v)
one_same bs u v hu hv = same_test (number_in bs u == number_in bs v) (u == v)
    (λ e. eq-eqb u v (number_one bs u v hu hv (eqb-true (number_in bs u) (number_in bs v) e)))
    (λ e. eq-eqb (number_in bs u) (number_in bs v) (ap (number_in bs) (eqb-true u v e)))

-- a test of the part's numbers that tells what another one tells of the whole's, which only numbers in the part
-- pass
pub record Told (bs : List Bool) (part whole : ℕ → Bool) : Type 0 where
  pub same : (v : ℕ) → is_of_part bs v ≡ true → part (number_in bs v) ≡ whole v
  pub only : (v : ℕ) → v < length bs → whole v ≡ true → is_of_part bs v ≡ true

pub some_same : (bs : List Bool) (part whole : ℕ → Bool) → Told bs part whole → some_below (part_size bs) part ≡ some_below (length bs) whole
some_same bs part whole t = same_test (some_below (part_size bs) part) (some_below (length bs) whole) f g
  where
    f : some_below (part_size bs) part ≡ true → some_below (length bs) whole ≡ true
    f e =
        let s = some_found (part_size bs) part e in
        let n = number_found bs s.0 s.1 in
        some_is (length bs) whole n.0 (is_less bs n.0 n.1) (sym (t.same n.0 n.1) ∙ (ap part n.2 ∙ s.2))

    g : some_below (length bs) whole ≡ true → some_below (part_size bs) part ≡ true
    g e =
        let s = some_found (length bs) whole e in
        let o = t.only s.0 s.1 s.2 in
        some_is (part_size bs) part (number_in bs s.0) (number_less bs s.0 o) (t.same s.0 o ∙ s.2)

-- ---- lists of numbers

pub has_number : (bs : List Bool) (v : ℕ) (xs : List ℕ) → has v xs ≡ true → has (number_in bs v) (map (number_in bs) xs) ≡ true
has_number bs v [] h = absurd cc
has_number bs v (x ∷ xs) h = elim (or_cases (v == x) (has v xs) h) [
  | inl f ↦ or_left (number_in bs v == number_in bs x) (has (number_in bs v) (map (number_in bs) xs)) (eq-eqb (number_in bs v) (number_in bs x) (ap (number_in bs) (eqb-true v x f)))
  | inr f ↦ or_right (number_in bs v == number_in bs x) (has (number_in bs v) (map (number_in bs) xs)) (has_number bs v xs f)
]

pub number_has : (bs : List Bool) (r : ℕ) (xs : List ℕ) → has r (map (number_in bs) xs) ≡ true → (v : ℕ) × (has v xs ≡ true) × (number_in bs v ≡ r)
number_has bs r [] h = absurd cc
number_has bs r (x ∷ xs) h = elim (or_cases (r == number_in bs x) (has r (map (number_in bs) xs)) h) [
  | inl f ↦ (x, or_left (x == x) (has x xs) (eq-eqb x x refl), sym (eqb-true r (number_in bs x) f))
  | inr f ↦ (let g = number_has bs r xs f in (g.0, or_right (g.0 == x) (has g.0 xs) g.1, g.2))
]

-- all of these are of the part
abbrev pub AllOf : List Bool → List ℕ → Type 0
AllOf bs xs = (v : ℕ) → has v xs ≡ true → is_of_part bs v ≡ true

pub later_of : (bs : List Bool) (x : ℕ) (xs : List ℕ) → AllOf bs (x ∷ xs) → AllOf bs xs
later_of bs x xs a v h = a v (or_right (v == x) (has v xs) h)

pub first_of_all : (bs : List Bool) (x : ℕ) (xs : List ℕ) → AllOf bs (x ∷ xs) → is_of_part bs x ≡ true
first_of_all bs x xs a = a x (or_left (x == x) (has x xs) (eq-eqb x x refl))

pub has_same : (bs : List Bool) (v : ℕ) (xs : List ℕ) → is_of_part bs v ≡ true → AllOf bs xs → has (number_in bs v) (map (number_in bs) xs) ≡ has v xs
has_same bs v [] h a = refl
has_same bs v (x ∷ xs) h a = rw (one_same bs v x h (first_of_all bs x xs a), has_same bs v xs h (later_of bs x xs a)) refl

pub all_of : (bs : List Bool) (xs : List ℕ) → AllOf bs xs → list_all (is_of_part bs) xs ≡ true
all_of bs [] a = refl
all_of bs (x ∷ xs) a = and_from (is_of_part bs x) (list_all (is_of_part bs) xs) (first_of_all bs x xs a) (all_of bs xs (later_of bs x xs a))

pub of_all : (bs : List Bool) (xs : List ℕ) → list_all (is_of_part bs) xs ≡ true → AllOf bs xs
of_all bs [] h v e = absurd cc
of_all bs (x ∷ xs) h v e =
    let p = and_parts (is_of_part bs x) (list_all (is_of_part bs) xs) h in
    elim (or_cases (v == x) (has v xs) e) [
      | inl f ↦ ap (is_of_part bs) (eqb-true v x f) ∙ p.0
      | inr f ↦ of_all bs xs p.1 v f
    ]

pub all_new : (bs : List Bool) (xs : List ℕ) → AllOf bs xs → all_renumbered bs xs ≡ map (number_in bs) xs
all_new bs xs a = rw (all_of bs xs a) refl

pub number_new : (bs : List Bool) (v : ℕ) → is_of_part bs v ≡ true → renumbered bs v ≡ number_in bs v
number_new bs v h = rw h refl

pub numbers_ascend : (bs : List Bool) (xs : List ℕ) → AllOf bs xs → ascending xs ≡ true → ascending (map (number_in bs) xs) ≡ true
numbers_ascend bs [] a h = refl
numbers_ascend bs (x ∷ []) a h = refl
numbers_ascend bs (x ∷ y ∷ xs) a h =
    let p = and_parts (nat_lt x y) (ascending (y ∷ xs)) h in
    let l = later_of bs x (y ∷ xs) a in
    and_from (nat_lt (number_in bs x) (number_in bs y)) (ascending (map (number_in bs) (y ∷ xs)))
    (less_same bs x y (first_of_all bs x (y ∷ xs) a) (first_of_all bs y xs l) ∙ p.0)
    (numbers_ascend bs (y ∷ xs) l p.1)

-- those of the part that pass are those of the whole that do, by their numbers
pub passing_same : (bs : List Bool) (part whole : ℕ → Bool) → Told bs part whole → passing_below (part_size bs) part ≡ map (number_in bs) (passing_below (length bs) whole)
passing_same bs part whole t = same-numbers (passing_below (part_size bs) part) (map (number_in bs) (passing_below (length bs) whole))
    (passing_ascend 0 (part_size bs) part) (numbers_ascend bs (passing_below (length bs) whole) all (passing_ascend 0 (length bs) whole)) f g
  where
    all : AllOf bs (passing_below (length bs) whole)
    all v h = (let b = below_is (length bs) whole v h in t.only v b.0 b.1)

    f : (m : ℕ) → has m (passing_below (part_size bs) part) ≡ true → has m (map (number_in bs) (passing_below (length bs) whole)) ≡ true
    f m h =
        let b = below_is (part_size bs) part m h in
        let n = number_found bs m b.0 in
        subst (λ z. has z (map (number_in bs) (passing_below (length bs) whole)) ≡ true) n.2
        (has_number bs n.0 (passing_below (length bs) whole) (is_below (length bs) whole n.0 (is_less bs n.0 n.1) (sym (t.same n.0 n.1) ∙ (ap part n.2 ∙ b.1))))

    g : (m : ℕ) → has m (map (number_in bs) (passing_below (length bs) whole)) ≡ true → has m (passing_below (part_size bs) part) ≡ true
    g m h =
        let n = number_has bs m (passing_below (length bs) whole) h in
        let b = below_is (length bs) whole n.0 n.1 in
        let o = t.only n.0 b.0 b.1 in
        subst (λ z. has z (passing_below (part_size bs) part) ≡ true) n.2 (is_below (part_size bs) part (number_in bs n.0) (number_less bs n.0 o) (t.same n.0 o ∙ b.1))
