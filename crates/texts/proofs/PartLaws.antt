-- When memory ran out, and which fault was read, in a text of parts.
use Rattle.std.proofs.Common.{◌≡◌, ◌≢◌, ℕ, zero, suc, ◌≤◌, Bool, true, false, cond, Result, Ok, Err, IsErrAnd, IfErr, refl, sym, ◌∙◌, arith}
use Rattle.ring_names.specs.declared.refusal.Refusal.{Refusal}
use Rattle.ring_names.specs.declared.refusal.Refusal.TheVariants.{BadLine, OutOfMemory}
use Rattle.texts.specs.Judging.{map_ok}
use Rattle.texts.specs.Left.{Left, Reads, lines_on, next_number, is_over, over_at, then_part, map_part}
use Rattle.texts.specs.Late.{Late, NoFaultBefore, ReadsTo}
use Rattle.texts.proofs.Lates.{Advances, to-first, to-map, to-after, late-part, next-after, next-monotone}

-- some lines on is not before
pub on-after : (n k : ℕ) → k ≤ lines_on n k
on-after zero k = omega arith
on-after (suc n) k = (let a = next-after k in let b = on-after n (next_number k) in omega arith)

pub on-monotone : (n k m : ℕ) → k ≤ m → lines_on n k ≤ lines_on n m
on-monotone zero k m le = le
on-monotone (suc n) k m le = on-monotone n (next_number k) (next_number m) (next-monotone k m le)

-- a text that goes on after its last part is refused for that
pub over-late : {A B : Type 0} (n : ℕ) (r : Result A Refusal) (e : Refusal) (s : Left) (read : Result B Refusal) → IsErrAnd r (λ x. x ≡ e) → over_at s ≡ Err e → IfErr r (λ x. x ≡ OutOfMemory → NoFaultBefore n read)
over-late n (Ok x) e s read is h = tt
over-late n (Err x) e s read is h = λ memory. absurd (by (is_over s) h (sym is ∙ memory))
  where
    by : (t : Bool) → cond {A = Result (Unit {0}) Refusal} t (Ok tt) (Err (BadLine s.line)) ≡ Err e → e ≢ OutOfMemory
    by true h = λ same. absurd cc
    by false h = λ same. absurd cc

-- ---- two parts, of which the second may depend on the first

module _ {A B E : Type 0} (f : A × B → E) (read : Left → Result (A × Left) Refusal) (again : A → Left → Result (B × Left) Refusal) (n : ℕ) where
  -- memory ran out in the first part
  pub late-first : {R : Type 0} (r : Result R Refusal) (e : Refusal) (s t : Left) → IsErrAnd r (λ x. x ≡ e) → ((x : A) → Advances (again x)) → (e ≡ OutOfMemory → (lines_on n s.line ≤ t.line) × ReadsTo t.line (read s))
      → Late n r s t (map_part f (then_part read again) s)
  late-first r e s t is on late = late-part n r e s t (map_part f (then_part read again) s) is late (λ p. (p.0, to-map f (then_part read again) t.line s (to-first read again t.line s on p.1)))

  -- it ran out in the second
  pub late-second : {R : Type 0} (m : ℕ) (r : Result R Refusal) (e : Refusal) (s t u : Left) (x : A) → IsErrAnd r (λ y. y ≡ e) → read s ≡ Ok (x, t) → lines_on n s.line ≤ lines_on m t.line
      → (e ≡ OutOfMemory → (lines_on m t.line ≤ u.line) × ReadsTo u.line (again x t)) → Late n r s u (map_part f (then_part read again) s)
  late-second m r e s t u x is first far late = late-part n r e s u (map_part f (then_part read again) s) is late (λ p. (omega (arith, p.0), to-after f read again u.line s t x first p.1))

-- what is read of both, by what is read of the second
module _ {A B E : Type 0} (f : A × B → E) (read : Left → Result (A × Left) Refusal) (again : A → Left → Result (B × Left) Refusal) (s t : Left) (x : A) (first : read s ≡ Ok (x, t)) where
  pub good-second : (u : Left) (y : B) → again x t ≡ Ok (y, u) → map_part f (then_part read again) s ≡ Ok (f (x, y), u)
  good-second u y second = rw (first, second) refl

  pub bad-second : (e : Refusal) → again x t ≡ Err e → map_part f (then_part read again) s ≡ Err e
  bad-second e second = rw (first, second) refl

-- the fault of a part was handed on
pub handed : {A : Type 0} (r : Result A Refusal) (e : Refusal) (new : Left) (read : Result (A × Left) Refusal) → IsErrAnd r (λ x. x ≡ e) → (e ≢ OutOfMemory → read ≡ Err e) → Reads r new read
handed (Ok x) e new read is bad = absurd is
handed (Err d) e new read is bad = rw is bad

pub handed-on : {A B : Type 0} (r : Result A Refusal) (e : Refusal) (f : A → B) (new : Left) (read : Result (B × Left) Refusal) → IsErrAnd r (λ x. x ≡ e) → (e ≢ OutOfMemory → read ≡ Err e) → Reads (map_ok f r) new read
handed-on (Ok x) e f new read is bad = absurd is
handed-on (Err d) e f new read is bad = rw is bad
