use Rattle.std.proofs.Common.{◌≡◌, List, ℕ, [], ◌∷◌, ◌++◌, refl, sym, ap, ◌∙◌, append_assoc}
use Rattle.std.proofs.lemmas.List.{append-nil}
use Rattle.texts.specs.Number.{value_from}
use Rattle.texts.specs.Numbers.{numbers_of}
use Rattle.texts.specs.KeptRow.{Measures}
use Rattle.texts.specs.declared.measure.Measure.{Measure}
use Rattle.texts.proofs.cursor.Cursor.numbers.Goals as goal

all_taken : (xs rest own : List ℕ) (m : Measure) → rest ≡ [] → Measures xs m → xs ++ rest ≡ own → Measures own m
all_taken xs rest own m none h e = rw (← e, none, append-nil xs) h

one_taken : (xs left rest own : List ℕ) (n : ℕ) → left ≡ n ∷ rest → xs ++ left ≡ own → (xs ++ n ∷ []) ++ rest ≡ own
one_taken xs left rest own n l e = append_assoc xs (n ∷ []) rest ∙ ap (λ t. xs ++ t) (sym l) ∙ e

pub numbers-init : goal.numbers-init
numbers-init c = record { rest = refl; taken = ([], c.new-measure.ensures, refl) }

pub numbers-preserved : goal.numbers-preserved
numbers-preserved c =
    let t = c.numbers.invariant.taken in
    let e = c.in-Some.ensures in
    let n = value_from 0 c.in-Some.field-0-0.now in
    record {
      rest = sym e.rest ∙ c.numbers.invariant.rest;
      taken = (t.0 ++ n ∷ [], c.add.ensures t.0 n e.value t.1, one_taken t.0 (numbers_of c.numbers.self) (numbers_of c.next_number.new.self) (numbers_of c.args.self.now) n e.number.1 t.2);
    }

pub invariant_of-result : goal.invariant_of-result
invariant_of-result c =
    let t = c.numbers.invariant.taken in
    let own = c.again-rest.ensures in
    rw own (all_taken t.0 (numbers_of c.numbers.self) (numbers_of c.args.self.now) c.numbers.measure c.in_default.ensures.number t.1 t.2)
