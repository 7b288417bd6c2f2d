-- Partitions in shares: where shares begin, and what they come to together.
use Rattle.std.proofs.Common.{◌≡◌, inl, inr, ℕ, suc, zero, ◌+◌, ◌-◌, ◌*◌, ◌/◌, ◌<◌, ◌≤◌, List, [], ◌∷◌, ◌++◌, refl, sym, ap, ◌∙◌, subst, arith, Result, Ok, Err}
use Rattle.std.proofs.Math.Nat.{eq-or-lt_of_le, div-mul-le_self, mul-div_cancel_left, div-eq_of_lt-le, mul-le-mul_right}
use Rattle.std.proofs.lemmas.Nat.{le-div}
use Rattle.std.specs.Result.{result_and}
use Rattle.ring_names.specs.declared.refusal.Refusal.{Refusal}
use Rattle.plan_stage.specs.Clauses.{Guard, Gives, below}
use Rattle.ring_table.specs.Value.{RingValue}
use Rattle.plan_text.specs.declared.step.Planned.{Planned}
use Rattle.plan_stage.specs.Partition.{Test, partition_clauses}
use Rattle.plan_stage.proofs.Partitions.{gives-behind, gives-front, gives-same}
use Rattle.plan_stage.proofs.Alike.{below-alike}
use Rattle.plan_check.specs.Shares.{first_of, share_count, share_clauses}

-- ---- clauses of numbers, cut in two

append-assoc : (xs ys zs : List Guard) → xs ++ (ys ++ zs) ≡ (xs ++ ys) ++ zs
append-assoc [] ys zs = refl
append-assoc (x ∷ xs) ys zs = ap (λ (l : List Guard). x ∷ l) (append-assoc xs ys zs)

append-none : (xs : List Guard) → xs ≡ xs ++ []
append-none [] = refl
append-none (x ∷ xs) = ap (λ (l : List Guard). x ∷ l) (append-none xs)

-- those below a, and then n more
pub below-parts : (f : ℕ → List Guard) (a n : ℕ) → below f (a + n) ≡ below f a ++ below (λ p. f (a + p)) n
unfolding below
below-parts f a zero = let e : a + 0 ≡ a = omega arith in rw e (append-none (below f a))
below-parts f a (suc n) =
    let e : a + suc n ≡ suc (a + n) = omega arith in
    rw e (ap (λ (l : List Guard). l ++ f (a + n)) (below-parts f a n) ∙ sym (append-assoc (below f a) (below (λ p. f (a + p)) n) (f (a + n))))

-- what the clauses below a give and then those from a up to b is what those below b give
pub joined : (f : ℕ → List Guard) (a b : ℕ) → a ≤ b → (r s : Result (Unit {0}) Refusal) → Gives r (below f a) → Gives s (below (λ p. f (a + p)) (b - a)) → Gives (result_and r s) (below f b)
joined f a b l (Ok u) s front back =
    let e : a + (b - a) ≡ b = omega arith in
    let parts = below-parts f a (b - a) in
    let parts' = rw e at parts in
    subst (λ (cs : List Guard). Gives s cs) (sym parts') (gives-behind s (below f a) (below (λ p. f (a + p)) (b - a)) front back)
joined f a b l (Err x) s front back =
    let e : a + (b - a) ≡ b = omega arith in
    let parts = below-parts f a (b - a) in
    let parts' = rw e at parts in
    subst (λ (cs : List Guard). Gives (Err x) cs) (sym parts') (gives-front x (below f a) (below (λ p. f (a + p)) (b - a)) front)

-- ---- what each share keeps

-- what holds below n and at n holds below n + 1
pub below-next : (P : ℕ → Type 0) (n : ℕ) → ((t : ℕ) → t < n → P t) → P n → (t : ℕ) → t < n + 1 → P t
below-next P n before here t l =
    let at_most : t ≤ n = omega arith in
    elim (eq-or-lt_of_le at_most) [ inl e ↦ subst P (sym e) here | inr less ↦ before t less ]

-- ---- where shares begin

first-zero : (q m : ℕ) → 0 < m → first_of q m 0 ≡ 0
first-zero q m l = let z : 0 * q ≡ 0 = omega arith in rw z (div-eq_of_lt-le m (omega arith) (omega arith))

-- the share behind the last would begin behind the last partition
pub first-last : (q m : ℕ) → 0 < m → first_of q m m ≡ q
first-last q m l = mul-div_cancel_left q l

pub first-grows : (q m a b : ℕ) → 0 < m → a ≤ b → first_of q m a ≤ first_of q m b
first-grows q m a b l h =
    let whole : a * q / m * m ≤ a * q = div-mul-le_self (a * q) m in
    let more : a * q ≤ b * q = mul-le-mul_right q h in
    le-div (a * q / m) (b * q) m l (omega arith)

pub first-within : (q m a : ℕ) → 0 < m → a ≤ m → first_of q m a ≤ q
first-within q m a l h = let e = first-last q m l in let g = first-grows q m a m l h in rw e at g

-- before the first share nothing is asked
pub none-before : (f : ℕ → List Guard) (q m : ℕ) → 0 < m → Gives (Ok tt) (below f (first_of q m 0))
unfolding below
none-before f q m l = rw (first-zero q m l) refl

pub some-share : (workers q : ℕ) → 0 < share_count workers q
some-share workers q = omega arith

-- the share of all partitions
pub whole-share : (ring : RingValue) (plan : List Planned) (O : Test) (r : Result (Unit {0}) Refusal) → Gives r (share_clauses ring plan O 0 ring.q) → Gives r (below (partition_clauses ring plan O) ring.q)
whole-share ring plan O r given =
    let C = partition_clauses ring plan O in
    let all : ring.q - 0 ≡ ring.q = omega arith in
    let given' = rw all at given in
    gives-same r (below (λ p. C (0 + p)) ring.q) (below C ring.q) (below-alike (λ p. C (0 + p)) C (λ p. let e : 0 + p ≡ p = omega arith in rw e refl) ring.q) given'
