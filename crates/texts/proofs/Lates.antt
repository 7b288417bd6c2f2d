-- Reading does not go back, and each of its faults is at a line that was reached.
use Rattle.std.proofs.Common.{◌≡◌, ℕ, ◌+◌, ◌≤◌, Bool, true, false, cond, nat_lt, List, [], ◌∷◌, Option, Some, None, Result, Ok, Err, refl, sym, ap, subst, ◌∙◌, arith}
use Rattle.std.specs.Prelude.{IfErr, IsErrAnd, ◌≢◌}
use Rattle.std.specs.Str.{bytes_eq}
use Rattle.std.proofs.lemmas.Bool.{ltb-true, ltb-false}
use Rattle.ring_names.specs.declared.refusal.Refusal.{Refusal}
use Rattle.ring_names.specs.declared.refusal.Refusal.TheVariants.{BadLine, TooLarge, OutOfMemory}
use Rattle.ring_names.specs.Refusals.{number_of, values_of}
use Rattle.texts.specs.Number.{decimal_value}
use Rattle.texts.specs.Judging.{both_of, Item, ◌⊗◌, field_at, word_at, limited, number_at, end_at, need_at, map_ok, map_item, whole, unless}
use Rattle.texts.specs.Parts.{lines_of}
use Rattle.texts.specs.Left.{Left, ◌>>=◌, next_number, lines_on, begins_so, first_line, next_line, is_nothing, over_at, one_line, then_part, many_from, map_part, whole_text}
use Rattle.texts.specs.Late.{IsAt, NoFaultBefore, ReadsTo, Late}
pub use Rattle.texts.specs.Late.{At, Judges, Advances}
use Rattle.texts.proofs.Items.{ok_is}
use Rattle.texts.proofs.Many.{Steps, pushed, loop-step}

pub at-both : {A B : Type 0} (k : ℕ) (a : Result A Refusal) (b : Result B Refusal) → At k a → At k b → At k (both_of a b)
unfolding both_of
at-both k (Ok x) (Ok y) p q = tt
at-both k (Ok x) (Err f) p q = q
at-both k (Err e) (Ok y) p q = p
at-both k (Err e) (Err f) p q = by (nat_lt (number_of f) (number_of e))
  where
    by : (t : Bool) → IsAt k (cond t f e)
    by true = q
    by false = p

pub at-map : {A B : Type 0} (k : ℕ) (f : A → B) (r : Result A Refusal) → At k r → At k (map_ok f r)
at-map k f (Ok x) p = tt
at-map k f (Err e) p = p

pub at-bind : {A B : Type 0} (k : ℕ) (r : Result A Refusal) (f : A → Result B Refusal) → At k r → ((x : A) → At k (f x)) → At k (r >>= f)
at-bind k (Ok x) f p q = q x
at-bind k (Err e) f p q = p

pub at-if : {A : Type 0} (k : ℕ) (t : Bool) (x y : Result A Refusal) → At k x → At k y → At k (cond t x y)
at-if k true x y p q = p
at-if k false x y p q = q

-- tests whose refusals are of line k
abbrev pub AllAt : ℕ → List (Bool × Refusal) → Type 0
AllAt k [] = Unit {0}
AllAt k (t ∷ ts) = IsAt k t.1 × AllAt k ts

pub at-unless : {A : Type 0} (k : ℕ) (ts : List (Bool × Refusal)) (x : A) → AllAt k ts → At k (unless ts x)
at-unless k [] x p = tt
at-unless k (t ∷ ts) x p = at-if k t.0 (Err t.1) (unless ts x) p.0 (at-unless k ts x p.1)

pub judges-⊗ : {A B : Type 0} (k : ℕ) (a : Item A) (b : Item B) → Judges k a → Judges k b → Judges k (a ⊗ b)
judges-⊗ k a b p q = record { at = λ fields. at-both k (a fields).0 (b (a fields).1).0 (p.at fields) (q.at (a fields).1) }

pub judges-map : {A B : Type 0} (k : ℕ) (f : A → B) (a : Item A) → Judges k a → Judges k (map_item f a)
judges-map k f a p = record { at = λ fields. at-map k f (a fields).0 (p.at fields) }

pub judges-field : {A : Type 0} (k : ℕ) (judge : List ℕ → Result A Refusal) → ((field : List ℕ) → At k (judge field)) → Judges k (field_at k judge)
judges-field k judge p = record { at = at }
  where
    at : (fields : List (List ℕ)) → At k (field_at k judge fields).0
    at [] = refl
    at (field ∷ fields) = p field

pub judges-word : (k : ℕ) (word : List ℕ) → Judges k (word_at k word)
judges-word k word = judges-field k _ (λ field. at-if k (bytes_eq field word) (Ok tt) (Err (BadLine k)) tt refl)

pub at-limited : (k limit : ℕ) (o : Option ℕ) → At k (limited k limit o)
at-limited k limit None = refl
at-limited k limit (Some n) = at-if k (nat_lt limit n) (Err (TooLarge k)) (Ok n) refl tt

pub judges-number : (k limit : ℕ) → Judges k (number_at k limit)
judges-number k limit = judges-field k _ (λ field. at-limited k limit (decimal_value field))

pub judges-need : (k : ℕ) (room : Bool) → Judges k (need_at k room)
judges-need k room = record { at = λ fields. at-if k room (Ok tt) (Err (TooLarge k)) tt refl }

pub judges-end : (k : ℕ) → Judges k (end_at k)
judges-end k = record { at = at }
  where
    at : (fields : List (List ℕ)) → At k (end_at k fields).0
    at [] = tt
    at (field ∷ fields) = refl

pub at-whole : {A : Type 0} (k : ℕ) (item : Item A) → Judges k item → (fields : List (List ℕ)) → At k (whole k item fields)
at-whole k item p fields = at-map k (λ x. x.0) ((item ⊗ end_at k) fields).0 ((judges-⊗ k item (end_at k) p (judges-end k)).at fields)

-- ---- parts of a text

pub next-after : (k : ℕ) → k ≤ next_number k
unfolding next_number
next-after k = by (nat_lt k 4294967295)
  where
    by : (t : Bool) → k ≤ cond t (k + 1) k
    by true = omega arith
    by false = omega arith

pub next-monotone : (k m : ℕ) → k ≤ m → next_number k ≤ next_number m
unfolding next_number
next-monotone k m le = by (nat_lt k 4294967295) (nat_lt m 4294967295) refl refl
  where
    by : (t u : Bool) → nat_lt k 4294967295 ≡ t → nat_lt m 4294967295 ≡ u → cond t (k + 1) k ≤ cond u (m + 1) m
    by true true e f = omega arith
    by false true e f = omega arith
    by false false e f = le
    by true false e f = let lt = ltb-true k 4294967295 e in let ge = ltb-false m 4294967295 f in omega arith

pub next-line : (s t : Left) (l : List (List ℕ)) → next_line s ≡ Ok (l, t) → t.line ≡ next_number s.line
next-line s t l e = next s.lines e
  where
    next : (ls : List (List (List ℕ))) → first_line s.line ls ≡ Ok (l, t) → t.line ≡ next_number s.line
    next [] h = absurd cc
    next (a ∷ []) h = absurd cc
    next (a ∷ b ∷ more) h = sym (ap (λ (p : List (List ℕ) × Left). p.1.line) (ok_is (a, record { line = next_number s.line; lines = b ∷ more }) (l, t) h))

-- what reads to a line reads to each in front of it
pub reads-less : {A : Type 0} (k m : ℕ) (r : Result (A × Left) Refusal) → k ≤ m → ReadsTo m r → ReadsTo k r
reads-less k m (Ok x) le p = omega arith
reads-less k m (Err e) le p = (p.0, omega (arith, p.1), p.2)

pub advances-line : {A : Type 0} (read : ℕ → List (List ℕ) → Result A Refusal) → ((k : ℕ) (fields : List (List ℕ)) → At k (read k fields)) → Advances (one_line read)
advances-line {A} read at = record { on = λ s. on s.line s.lines }
  where
    judged : (k : ℕ) (t : Left) (r : Result A Refusal) → k ≤ t.line → At k r → ReadsTo k (◌>>=◌ {B = A × Left} r (λ v. Ok (v, t)))
    judged k t (Ok v) le p = le
    judged k t (Err e) le p = (k, omega arith, p)

    on : (k : ℕ) (lines : List (List (List ℕ))) → ReadsTo k (◌>>=◌ {B = A × Left} (first_line k lines) (λ x. ◌>>=◌ {B = A × Left} (read k x.0) (λ v. Ok (v, x.1))))
    on k [] = (k, omega arith, refl)
    on k (line ∷ []) = (k, omega arith, refl)
    on k (line ∷ next ∷ more) = judged k (record { line = next_number k; lines = next ∷ more }) (read k line) (next-after k) (at k line)

-- a place in the first of two parts, or in the second
module _ {A B : Type 0} (read : Left → Result (A × Left) Refusal) (again : A → Left → Result (B × Left) Refusal) where
  pub to-second : (k : ℕ) (s t : Left) (x : A) → read s ≡ Ok (x, t) → ReadsTo k (again x t) → ReadsTo k (then_part read again s)
  to-second k s t x e p = rw e (by (again x t) p)
    where
      by : (r : Result (B × Left) Refusal) → ReadsTo k r → ReadsTo k (◌>>=◌ {B = (A × B) × Left} r (λ y. Ok ((x, y.0), y.1)))
      by (Ok y) q = q
      by (Err e) q = q

  pub to-first : (k : ℕ) (s : Left) → ((x : A) → Advances (again x)) → ReadsTo k (read s) → ReadsTo k (then_part read again s)
  to-first k s on p = by (read s) refl p
    where
      by : (r : Result (A × Left) Refusal) → read s ≡ r → ReadsTo k r → ReadsTo k (then_part read again s)
      by (Ok x) e q = to-second k s x.1 x.0 e (reads-less k x.1.line (again x.0 x.1) q ((on x.0).on x.1))
      by (Err d) e q = rw e q

  pub advances-then : Advances read → ((x : A) → Advances (again x)) → Advances (then_part read again)
  advances-then p q = record { on = λ s. to-first s.line s q (p.on s) }

pub to-map : {A B : Type 0} (f : A → B) (read : Left → Result (A × Left) Refusal) (k : ℕ) (s : Left) → ReadsTo k (read s) → ReadsTo k (map_part f read s)
to-map {A} {B} f read k s p = by (read s) p
  where
    by : (r : Result (A × Left) Refusal) → ReadsTo k r → ReadsTo k (◌>>=◌ {B = B × Left} r (λ x. Ok (f x.0, x.1)))
    by (Ok x) q = q
    by (Err e) q = q

pub advances-map : {A B : Type 0} (f : A → B) (read : Left → Result (A × Left) Refusal) → Advances read → Advances (map_part f read)
advances-map f read p = record { on = λ s. to-map f read s.line s (p.on s) }

-- a place after the first of the parts of a value
pub to-after : {A B E : Type 0} (f : A × B → E) (read : Left → Result (A × Left) Refusal) (again : A → Left → Result (B × Left) Refusal) (k : ℕ) (s t : Left) (x : A) → read s ≡ Ok (x, t) → ReadsTo k (again x t) → ReadsTo k (map_part f (then_part read again) s)
to-after f read again k s t x e p = to-map f (then_part read again) k s (to-second read again k s t x e p)

-- a part does not end before it begins. What follows the next line also follows the part's first line
pub past : {A : Type 0} (read : Left → Result (A × Left) Refusal) → Advances read → (s t : Left) (v : A) → read s ≡ Ok (v, t) → s.line ≤ t.line
past read on s t v e = (let here = on.on s in rw e at here)

pub past-next : {A : Type 0} (read : Left → Result (A × Left) Refusal) → Advances read → (s t : Left) (v : A) → read s ≡ Ok (v, t) → (k : ℕ) → next_number t.line ≤ k → next_number s.line ≤ k
past-next read on s t v e k le = (let more = next-monotone s.line t.line (past read on s t v e) in omega arith)

-- ---- lines that are read one after another

module _ {S A : Type 0} (goes : List (List (List ℕ)) → Bool) (read : S → ℕ → List (List ℕ) → Result A Refusal) (push : S → A → S)
    (loop : S → ℕ → List (List (List ℕ)) → Result (S × Left) Refusal) (steps : Steps goes read push loop)
    (nothing : (seen : S) (k : ℕ) → ReadsTo k (loop seen k [])) (at : (seen : S) (k : ℕ) (fields : List (List ℕ)) → At k (read seen k fields)) where
  pub loop-on : (seen : S) (k : ℕ) (lines : List (List (List ℕ))) → ReadsTo k (loop seen k lines)
  loop-on seen k [] = nothing seen k
  loop-on seen k (line ∷ []) = rw (steps seen k line []) (by (goes (line ∷ [])))
    where
      by : (t : Bool) → ReadsTo k (cond {A = Result (S × Left) Refusal} t (Err (BadLine k)) (Ok (seen, record { line = k; lines = line ∷ [] })))
      by true = (k, omega arith, refl)
      by false = omega arith
  loop-on seen k (line ∷ next ∷ more) = rw (steps seen k line (next ∷ more)) (by (goes (line ∷ next ∷ more)) (λ ys. loop-on ys (next_number k) (next ∷ more)))
    where
      judged : (r : Result A Refusal) → At k r → ((ys : S) → ReadsTo (next_number k) (loop ys (next_number k) (next ∷ more)))
          → ReadsTo k (◌>>=◌ {B = S × Left} r (λ x. loop (push seen x) (next_number k) (next ∷ more)))
      judged (Ok x) p later = reads-less k (next_number k) _ (next-after k) (later (push seen x))
      judged (Err e) p later = (k, omega arith, p)

      by : (t : Bool) → ((ys : S) → ReadsTo (next_number k) (loop ys (next_number k) (next ∷ more)))
          → ReadsTo k (cond t (◌>>=◌ {B = S × Left} (read seen k line) (λ x. loop (push seen x) (next_number k) (next ∷ more)))
          (Ok (seen, record { line = k; lines = line ∷ next ∷ more })))
      by true later = judged (read seen k line) (at seen k line) later
      by false later = omega arith

  -- memory that is asked for after a line was taken: reading from the start leads to the present line
  pub loop-late : ((seen : S) (k : ℕ) → goes [] ≡ true → loop seen k [] ≡ Err (BadLine k))
      → (seen : S) (start s t : Left) (fields : List (List ℕ)) (x : A) (total : Result (S × Left) Refusal) → goes s.lines ≡ true → next_line s ≡ Ok (fields, t)
      → read seen s.line fields ≡ Ok x → start.line ≤ s.line → loop seen s.line s.lines ≡ total → (next_number start.line ≤ t.line) × ReadsTo t.line total
  loop-late none seen start s t fields x total b e f le so_far =
      let after : loop seen s.line s.lines ≡ loop (push seen x) t.line t.lines =
      rw (loop-step goes read push loop steps none seen s.line s.lines b, e, f) refl in
      let on = loop-on (push seen x) t.line t.lines in
      let line = next-line s t fields e in
      let more = next-monotone start.line s.line le in
      (omega (arith, line, more), rw (← so_far, after) on)

-- lines that begin alike
module _ {A : Type 0} (test : List ℕ → Bool) (read : List A → ℕ → List (List ℕ) → Result A Refusal)
    (at : (seen : List A) (k : ℕ) (fields : List (List ℕ)) → At k (read seen k fields)) where
  pub many-late : (seen : List A) (start s t : Left) (fields : List (List ℕ)) (x : A) (total : Result (List A × Left) Refusal) → begins_so test s.lines ≡ true
      → next_line s ≡ Ok (fields, t) → read seen s.line fields ≡ Ok x
      → start.line ≤ s.line → many_from test read seen s.line s.lines ≡ total → (next_number start.line ≤ t.line) × ReadsTo t.line total
  many-late = loop-late (begins_so test) read pushed (many_from test read) (λ seen k line more. refl) (λ seen k. omega arith) at (λ seen k e. absurd cc)

-- ---- a whole text

pub whole-before : {A : Type 0} (read : Left → Result (A × Left) Refusal) (text : List ℕ) (n k : ℕ) → n ≤ k → ReadsTo k (read (record { line = 1; lines = lines_of text })) → NoFaultBefore n (whole_text read text)
whole-before {A} read text n k le p = by (read (record { line = 1; lines = lines_of text })) p
  where
    over : (t : Left) (v : A) (b : Bool) → n ≤ t.line → NoFaultBefore n (◌>>=◌ {B = A} (cond b (Ok (tt {0})) (Err (BadLine t.line))) (λ _. Ok v))
    over t v true h = tt
    over t v false h = (t.line, h, refl)

    by : (r : Result (A × Left) Refusal) → ReadsTo k r → NoFaultBefore n (◌>>=◌ {B = A} r (λ x. over_at x.1 >>= λ _. Ok x.0))
    by (Ok x) q = over x.1 x.0 (is_nothing x.1.lines) (omega arith)
    by (Err e) q = (q.0, omega (arith, q.1), q.2)

-- ---- a fault that was read

pub at-is : {A : Type 0} (k : ℕ) (e : Refusal) (r : Result A Refusal) → r ≡ Err e → At k r → IsAt k e
at-is k e r h p = rw h at p

pub not-memory : (k : ℕ) (e : Refusal) → IsAt k e → e ≢ OutOfMemory
not-memory k e p h = let none : [] ≡ k ∷ [] = ap values_of (sym h) ∙ p in absurd cc

-- a refusal that was handed on is of line k, so memory did not run out
pub residual-at : {A : Type 0} (k : ℕ) (r : Result A Refusal) (e : Refusal) → IsErrAnd r (λ x. x ≡ e) → IsAt k e → IfErr r (λ x. x ≢ OutOfMemory)
residual-at k (Ok x) e h p = absurd h
residual-at k (Err y) e h p = rw h (not-memory k e p)

-- memory was asked for in front of line `new`
pub late-here : {A B : Type 0} (n : ℕ) (r : Result A Refusal) (old new : Left) (read : Result (B × Left) Refusal) → (lines_on n old.line ≤ new.line) × ReadsTo new.line read → Late n r old new read
late-here n (Ok x) old new read p = tt
late-here n (Err e) old new read p = λ _. p

-- a part ran out of memory
pub late-part : {A B : Type 0} {P : Type 0} (n : ℕ) (r : Result A Refusal) (e : Refusal) (old new : Left) (read : Result (B × Left) Refusal) → IsErrAnd r (λ x. x ≡ e) → (e ≡ OutOfMemory → P) → (P → (lines_on n old.line ≤ new.line) × ReadsTo new.line read) → Late n r old new read
late-part n (Ok x) e old new read h p f = absurd h
late-part n (Err y) e old new read h p f = λ m. f (p (sym h ∙ m))

-- behind the first two lines of a text, and behind the first four
pub two-lines : lines_on 2 1 ≡ 3
unfolding next_number
two-lines = refl

pub four-lines : lines_on 4 1 ≡ 5
unfolding next_number
four-lines = refl

-- a whole text ran out of memory in its one part
pub late-whole : {A B : Type 0} (n m : ℕ) (r : Result A Refusal) (e : Refusal) (text : List ℕ) (s new : Left) (read : Left → Result (B × Left) Refusal) → lines_on n 1 ≡ m → IsErrAnd r (λ x. x ≡ e) → s ≡ record { line = 1; lines = lines_of text }
    → (e ≡ OutOfMemory → (lines_on n s.line ≤ new.line) × ReadsTo new.line (read s)) → IfErr r (λ x. x ≡ OutOfMemory → NoFaultBefore m (whole_text read text))
late-whole n m (Ok x) e text s new read is h start late = tt
late-whole {A} {B} n m (Err y) e text s new read is h start late = λ memory.
    let P : Left → Type 0 = λ z. (lines_on n z.line ≤ new.line) × ReadsTo new.line (read z) in
    let p = subst P start (late (sym h ∙ memory)) in
    let far = p.0 in
    whole-before read text m new.line (omega (arith, is, far)) p.1

-- what is mapped to a line's reading has its fault
pub at-mapped : {A B : Type 0} (k : ℕ) (f : A → B) (r : Result A Refusal) (read : Result B Refusal) → map_ok f r ≡ read → At k read → At k r
at-mapped k f (Ok x) read e p = tt
at-mapped k f (Err d) read e p = rw (sym e) at p

-- one of two
pub either-at : {A : Type 0} (k : ℕ) (t : Bool) (x y : Result A Refusal × List (List ℕ)) → At k x.0 → At k y.0 → At k (cond t x y).0
either-at k true x y p q = p
either-at k false x y p q = q
