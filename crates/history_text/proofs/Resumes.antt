-- What reading makes of a line in front of a text.
use Rattle.std.proofs.Common.{◌≡◌, ℕ, Bool, true, false, cond, List, [], ◌∷◌, ◌++◌, Result, Ok, Err, refl, sym, ap, ◌∙◌}
use Rattle.std.specs.Prelude.{codes}
use Rattle.ring_names.specs.declared.refusal.Refusal.{Refusal}
use Rattle.ring_names.specs.declared.refusal.Refusal.TheVariants.{BadLine}
use Rattle.texts.specs.Judging.{end_at, both_of}
use Rattle.texts.specs.Parts.{lines_of}
use Rattle.texts.specs.Left.{Left, ◌>>=◌, next_number, begins_so, first_line, one_line, over_at, many_from}
use Rattle.texts.specs.Frames.{header_at, end_line_at}
use Rattle.texts.proofs.Cuts.{some_line}
use Rattle.texts.proofs.Many.{many-step}
use Rattle.ring_table.specs.Value.{RingValue}
use Rattle.history_text.specs.Said.{SaidEntry}
use Rattle.history_text.specs.declared.reader.Stage.TheVariants.{First, Entries, Over}
use Rattle.history_text.specs.StreamReading.{next_at, goes_on, rest_at, resume_at}

abbrev Lines : Type 0
Lines = List (List (List ℕ))

abbrev at : ℕ → Lines → Left
at k lines = record { line = k; lines = lines }

first_is : (k : ℕ) (fields : List (List ℕ)) (more : List ℕ) → first_line k (fields ∷ lines_of more) ≡ Ok (fields, at (next_number k) (lines_of more))
first_is k fields more = by (some_line more).0 (some_line more).1 (some_line more).2
  where
    by : (x : List (List ℕ)) (xs : Lines) → lines_of more ≡ x ∷ xs → first_line k (fields ∷ lines_of more) ≡ Ok (fields, at (next_number k) (lines_of more))
    by x xs e = ap (λ (ls : Lines). first_line k (fields ∷ ls)) e ∙ ap (λ (ls : Lines). Ok (fields, at (next_number k) ls)) (sym e)

-- a line, read by what gets its number
line_is : {A : Type 0} (read : ℕ → List (List ℕ) → Result A Refusal) (k : ℕ) (fields : List (List ℕ)) (more : List ℕ)
    → one_line read (at k (fields ∷ lines_of more)) ≡ (read k fields >>= λ v. Ok (v, at (next_number k) (lines_of more)))
line_is {A} read k fields more = ap (λ (r : Result (List (List ℕ) × Left) Refusal). ◌>>=◌ {B = A × Left} r (λ x. ◌>>=◌ {B = A × Left} (read k x.0) (λ v. Ok (v, x.1)))) (first_is k fields more)

module _ (ring : RingValue) (said : List SaidEntry) (k : ℕ) (fields : List (List ℕ)) (more : List ℕ) where
  abbrev tail : Result (List SaidEntry × Left) Refusal → Result (List SaidEntry) Refusal
  tail r = r >>= λ x. one_line end_line_at x.1 >>= λ y. over_at y.1 >>= λ _. Ok x.0

  abbrev entries : List SaidEntry → ℕ → Lines → Result (List SaidEntry × Left) Refusal
  entries seen m lines = many_from goes_on (next_at ring) seen m lines

  stepped : (r : Result SaidEntry Refusal) → begins_so goes_on (fields ∷ lines_of more) ≡ true → next_at ring said k fields ≡ r
      → entries said k (fields ∷ lines_of more) ≡ (r >>= λ y. entries (said ++ y ∷ []) (next_number k) (lines_of more))
  stepped r on is =
      many-step goes_on (next_at ring) said k (fields ∷ lines_of more) on
      ∙ ap (λ (z : Result (List (List ℕ) × Left) Refusal). ◌>>=◌ {B = List SaidEntry × Left} z (λ x. ◌>>=◌ {B = List SaidEntry × Left} (next_at ring said k x.0) (λ y. entries (said ++ y ∷ []) x.1.line x.1.lines))) (first_is k fields more)
      ∙ ap (λ (z : Result SaidEntry Refusal). ◌>>=◌ {B = List SaidEntry × Left} z (λ y. entries (said ++ y ∷ []) (next_number k) (lines_of more))) is

  -- an entry
  pub entry_step : (x : SaidEntry) → begins_so goes_on (fields ∷ lines_of more) ≡ true → next_at ring said k fields ≡ Ok x
      → rest_at ring said (at k (fields ∷ lines_of more)) ≡ rest_at ring (said ++ x ∷ []) (at (next_number k) (lines_of more))
  unfolding rest_at
  entry_step x on is = ap tail (stepped (Ok x) on is)

  pub entry_bad : (e : Refusal) → begins_so goes_on (fields ∷ lines_of more) ≡ true → next_at ring said k fields ≡ Err e
      → rest_at ring said (at k (fields ∷ lines_of more)) ≡ Err e
  unfolding rest_at
  entry_bad e on is = ap tail (stepped (Err e) on is)

  ended : begins_so goes_on (fields ∷ lines_of more) ≡ false → entries said k (fields ∷ lines_of more) ≡ Ok (said, at k (fields ∷ lines_of more))
  ended off = ap (λ (t : Bool). cond {A = Result (List SaidEntry × Left) Refusal} t (first_line k (fields ∷ lines_of more) >>= λ _. next_at ring said k fields >>= λ x. entries (said ++ x ∷ []) (next_number k) (lines_of more)) (Ok (said, at k (fields ∷ lines_of more)))) off

  abbrev over : Result (Unit {0} × Left) Refusal → Result (List SaidEntry) Refusal
  over r = r >>= λ y. over_at y.1 >>= λ _. Ok said

  -- the last line
  pub end_step : (r : Result (Unit {0}) Refusal) → begins_so goes_on (fields ∷ lines_of more) ≡ false → end_line_at k fields ≡ r
      → rest_at ring said (at k (fields ∷ lines_of more)) ≡ (r >>= λ _. resume_at ring Over said (at (next_number k) (lines_of more)))
  unfolding rest_at
  end_step r off is =
      ap tail (ended off) ∙ ap over (line_is end_line_at k fields more ∙ ap (λ (z : Result (Unit {0}) Refusal). ◌>>=◌ {B = Unit {0} × Left} z (λ v. Ok (v, at (next_number k) (lines_of more)))) is) ∙ last r
    where
      last : (z : Result (Unit {0}) Refusal) → over (z >>= λ v. Ok (v, at (next_number k) (lines_of more))) ≡ (z >>= λ _. resume_at ring Over said (at (next_number k) (lines_of more)))
      last (Ok u) = refl
      last (Err e) = refl

  abbrev begun : Result (Unit {0} × Left) Refusal → Result (List SaidEntry) Refusal
  begun z = z >>= λ x. rest_at ring said x.1

  -- the first line
  pub header_step : (r : Result (Unit {0}) Refusal) → header_at (codes "history") (codes "1") k fields ≡ r
      → resume_at ring First said (at k (fields ∷ lines_of more)) ≡ (r >>= λ _. resume_at ring Entries said (at (next_number k) (lines_of more)))
  header_step r is =
      ap begun (line_is (header_at (codes "history") (codes "1")) k fields more ∙ ap (λ (z : Result (Unit {0}) Refusal). ◌>>=◌ {B = Unit {0} × Left} z (λ v. Ok (v, at (next_number k) (lines_of more)))) is) ∙ last r
    where
      last : (z : Result (Unit {0}) Refusal) → begun (z >>= λ v. Ok (v, at (next_number k) (lines_of more))) ≡ (z >>= λ _. resume_at ring Entries said (at (next_number k) (lines_of more)))
      last (Ok u) = refl
      last (Err e) = refl

  -- a line after the last
  pub over_bad : resume_at ring Over said (at k (fields ∷ lines_of more)) ≡ Err (BadLine k)
  over_bad = by fields (some_line more).0 (some_line more).1 (some_line more).2
    where
      by : (fs : List (List ℕ)) (x : List (List ℕ)) (xs : Lines) → lines_of more ≡ x ∷ xs → resume_at ring Over said (at k (fs ∷ lines_of more)) ≡ Err (BadLine k)
      by [] x xs e = refl
      by (f ∷ []) x xs e = rw e refl
      by (f ∷ g ∷ fs) x xs e = refl

-- the line `end`, given after that word
pub end_is : (k : ℕ) (rest : List (List ℕ)) (r : Result (Unit {0}) Refusal) → r ≡ (end_at k rest).0 → end_line_at k (codes "end" ∷ rest) ≡ r
unfolding end_line_at both_of
end_is k [] r e = sym e
end_is k (f ∷ fs) r e = sym e
