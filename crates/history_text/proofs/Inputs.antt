-- What reads in turn do to the bytes that are told.
use Rattle.std.proofs.Common.{◌≡◌, ℕ, ◌+◌, ◌≤◌, true, false, List, [], ◌∷◌, ◌++◌, length, Option, refl, sym, ap, ◌∙◌, subst, arith, append-nil, length-append}
use Rattle.std.specs.Io.KnownBytes.{Consumes}
use Rattle.std.proofs.KnownBytes.{Consumes-trans}
use Rattle.history_text.specs.declared.input.Head.{Head}
use Rattle.history_text.specs.Input.{IsNext, IsHead}

nothing_is : (xs : List ℕ) → length xs ≡ 0 → xs ≡ []
nothing_is [] e = refl
nothing_is (x ∷ xs) e = absurd (omega arith)

-- the input ended
pub ended : (a b c : Option (List ℕ)) (most limit : ℕ) (front more : List ℕ) (head : Head) → Consumes a b front → length front ≤ limit → IsNext b c most more → length more ≡ 0
    → head.bytes.items ≡ front → head.is_whole ≡ true → IsHead a c limit head
ended a b c most limit front more head told few next none is whole =
    let same : head.bytes.items ≡ front ++ more = is ∙ sym (append-nil front) ∙ ap (λ (l : List ℕ). front ++ l) (sym (nothing_is more none)) in
    let short = ap (λ (l : List ℕ). length l) is in
    record {
      bytes = subst (Consumes a c) (sym same) (Consumes-trans a b c front more told next.bytes);
      few = omega arith;
      whole = λ _. next.end none;
      long = λ f. (let bad : true ≡ false = sym whole ∙ f in absurd cc);
    }

-- as much was read as may be
pub full : (a b : Option (List ℕ)) (limit : ℕ) (front : List ℕ) (head : Head) → Consumes a b front → length front ≤ limit → limit ≤ length front → head.bytes.items ≡ front → head.is_whole ≡ false → IsHead a b limit head
full a b limit front head told few many is part =
    let short = ap (λ (l : List ℕ). length l) is in
    record {
      bytes = subst (Consumes a b) (sym is) told;
      few = omega arith;
      whole = λ t. (let bad : true ≡ false = sym t ∙ part in absurd cc);
      long = λ _. omega arith;
    }

-- one read more
pub further : (a b c : Option (List ℕ)) (most limit : ℕ) (front more now : List ℕ) → Consumes a b front → length front ≤ limit → IsNext b c most more → length front + most ≤ limit → now ≡ front ++ more
    → (length now ≤ limit) × Consumes a c now
further a b c most limit front more now told few next room is =
    let size = ap (λ (l : List ℕ). length l) is ∙ length-append front more in
    let short = next.few in
    (omega arith, subst (Consumes a c) (sym is) (Consumes-trans a b c front more told next.bytes))

-- nothing more came
pub same_end : (whole more : List ℕ) → length more ≡ 0 → whole ++ more ≡ whole
same_end whole more e = ap (λ (z : List ℕ). whole ++ z) (nothing_is more e) ∙ append-nil whole
