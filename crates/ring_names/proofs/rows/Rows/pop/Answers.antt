use Rattle.std.proofs.Common.{◌≡◌, ℕ, ◌-◌, List, [], ◌∷◌, ◌++◌, length, get_or, take, sym, ap, ◌∙◌, subst, refl, arith}
use Rattle.std.proofs.lemmas.List.{length-append, length-take-le}
use Rattle.ring_names.specs.Rows.{rows_from, AreEnds}
use Rattle.ring_names.proofs.RowLaws.{ends-less, one-row-less, rows-front, rows-length}
use Rattle.ring_names.proofs.rows.Rows.pop.Goals as goal

pub invariant_of-self : goal.invariant_of-self
invariant_of-self c =
    let xs = c.self.inside.numbers.items in
    let es : List ℕ = c.pop.new.self.items in
    let last = get_or (0 ∷ es) (length es) 0 in
    let less = ends-less 0 es c.in-Some._end (length xs) (subst (λ (l : List ℕ). AreEnds 0 l (length xs)) c.in-Some.ensures.items c.self.invariant) in
    let cut : c.truncate.new.self.items ≡ take last xs = c.truncate.ensures.items ∙ rw (c.start_of.ensures, c.as_slice-ends.ensures.value) refl in
    rw (cut, length-take-le last xs less.1) less.0

pub returns-in-Some : goal.returns-in-Some
returns-in-Some c =
    let xs = c.self.inside.numbers.items in
    let ends = c.self.inside.ends.items in
    let es : List ℕ = c.pop.new.self.items in
    let last = get_or (0 ∷ es) (length es) 0 in
    let less = ends-less 0 es c.in-Some._end (length xs) (subst (λ (l : List ℕ). AreEnds 0 l (length xs)) c.in-Some.ensures.items c.self.invariant) in
    let cut : c.truncate.new.self.items ≡ take last xs = c.truncate.ensures.items ∙ rw (c.start_of.ensures, c.as_slice-ends.ensures.value) refl in
    let count : length c.args.self.now ≡ length ends = ap (λ (l : List (List ℕ)). length l) (sym c.self.view_is) ∙ rows-length xs 0 ends in
    let more : length ends ≡ length (es ++ c.in-Some._end ∷ []) = ap (λ (l : List ℕ). length l) c.in-Some.ensures.items in
    let size : length es ≡ length c.args.self.now - 1 = omega (arith, count, more, length-append es (c.in-Some._end ∷ [])) in
    ap (λ (l : List ℕ). rows_from l 0 es) cut ∙ one-row-less xs 0 es last less.0 less.1 ∙ sym (rows-front xs 0 es c.in-Some._end)
    ∙ ap (λ (l : List ℕ). take (length es) (rows_from xs 0 l)) (sym c.in-Some.ensures.items) ∙ ap (λ (l : List (List ℕ)). take (length es) l) c.self.view_is
    ∙ ap (λ n. take n c.args.self.now) size
