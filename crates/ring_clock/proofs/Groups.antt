-- Entries of one group, and entries in front of others.
use Rattle.std.proofs.Common.{◌≡◌, ◌∙◌, inl, inr, ℕ, ◌<◌, List, [], ◌∷◌, ◌++◌, refl, sym, subst, arith}
use Rattle.std.specs.Prelude.{max}
use Rattle.std.specs.List.{AllByRecursion}
use Rattle.std.proofs.lemmas.Bool.Decides.{eqb_tells}
use Rattle.ring_clock.specs.declared.entry.Entry.{Entry}
use Rattle.ring_clock.specs.Clock.{counter, IsAbove, IsClock}
use Rattle.ring_clock.specs.Groups.{group, group_in, IsOfGroup, IsBlock}
use Rattle.ring_clock.proofs.Entries.{here, there, absent, by_writer}

-- where the entries in front have no counter of a writer, those behind decide
pub nothing_front : (xs ys : List Entry) (w : ℕ) → IsClock xs → counter xs w ≡ 0 → counter (xs ++ ys) w ≡ counter ys w
nothing_front [] ys w clock none = refl
nothing_front (x ∷ xs) ys w clock none = by_writer x w (counter (x ∷ (xs ++ ys)) w ≡ counter ys w)
    (λ is. let at = here x xs w is in absurd (omega (arith, clock.0)))
    (λ apart. there x (xs ++ ys) w apart ∙ nothing_front xs ys w clock.2 (sym (there x xs w apart) ∙ none))

pub some_front : (xs ys : List Entry) (w : ℕ) → 0 < counter xs w → counter (xs ++ ys) w ≡ counter xs w
some_front [] ys w some = absurd (omega arith)
some_front (x ∷ xs) ys w some = by_writer x w (counter (x ∷ (xs ++ ys)) w ≡ counter (x ∷ xs) w)
    (λ is. here x (xs ++ ys) w is ∙ sym (here x xs w is))
    (λ apart. there x (xs ++ ys) w apart ∙ some_front xs ys w (let on = there x xs w apart in omega arith) ∙ sym (there x xs w apart))

pub above_both : (v : ℕ) (xs ys : List Entry) → IsAbove v xs → IsAbove v ys → IsAbove v (xs ++ ys)
above_both v [] ys h k = k
above_both v (x ∷ xs) ys h k = (h.0, above_both v xs ys h.1 k)

pub clock_both : (xs ys : List Entry) → IsClock xs → IsClock ys → AllByRecursion (λ e. IsAbove e.writer.0 ys) xs → IsClock (xs ++ ys)
clock_both [] ys h k all = k
clock_both (x ∷ xs) ys h k all = (h.0, above_both x.writer.0 xs ys h.1 all.0, clock_both xs ys h.2 k all.1)

-- each entry's writer is of the group
pub in_group : (g : ℕ) (es : List Entry) → IsClock es → IsOfGroup g es → AllByRecursion (λ e. group e.writer.0 ≡ g) es
in_group g [] clock of = tt
in_group g (e ∷ es) clock of = (
  elim (eqb_tells (group e.writer.0) g) [
    | inl t ↦ t.1
    | inr t ↦ (let none = of e.writer.0 t.1 in let at = here e es e.writer.0 refl in absurd (omega (arith, clock.0)))
  ],
  in_group g es clock.2 (λ w apart. by_writer e w (counter es w ≡ 0) (λ is. absent e.writer.0 es w clock.1 (omega arith)) (λ other. sym (there e es w other) ∙ of w apart)),
)

-- a writer of a lesser group is less
pub lesser : (v w : ℕ) → group v < group w → v < w
lesser v w less = omega arith

-- a block has a counter of a writer of its group
pub some_counter : (b : List Entry) → IsBlock b → (w : ℕ) × (group w ≡ group_in b) × (0 < counter b w)
some_counter [] block = absurd (omega (arith, block.1))
some_counter (e ∷ es) block = (e.writer.0, refl, (let at = here e es e.writer.0 refl in omega (arith, block.0.0)))

-- if two blocks have one group, each writer's greater counter in them is a block of the group
pub merged_block : (a b c : List Entry) → IsBlock a → IsBlock b → group_in a ≡ group_in b → IsClock c → ((w : ℕ) → counter c w ≡ max (counter a w) (counter b w)) → IsBlock c × (group_in c ≡ group_in a)
merged_block a b [] first second same clock counters = (let s = some_counter a first in let at = counters s.0 in absurd (omega (arith, s.2)))
merged_block a b (e ∷ es) first second same clock counters =
    let of : IsOfGroup (group_in a) (e ∷ es) = λ w apart. (
    let none = first.2 w apart in
    let too = second.2 w (λ is. apart (is ∙ sym same)) in
    let at = counters w in
    omega arith) in
    let is : group e.writer.0 ≡ group_in a = (in_group (group_in a) (e ∷ es) clock of).0 in
    ((clock, omega arith, subst (λ g. IsOfGroup g (e ∷ es)) (sym is) of), is)
