-- What a binary search by group finds among blocks.
use Rattle.std.proofs.Common.{◌≡◌, ◌≢◌, ◌↔◌, ℕ, zero, suc, ◌<◌, ◌≤◌, List, [], ◌∷◌, ◌∙◌, length, get_or, nat_eq, not, true, false, Option, Some, None, Err, refl, sym, ap, subst, arith}
use Rattle.std.specs.List.Sorted.{IsBinarySearchResult}
use Rattle.std.specs.Ordering.{nat_cmp}
use Rattle.std.specs.Option.{option_eq}
use Rattle.std.proofs.lemmas.Bool.{eqb-true, eqb-false, not-true, not-false}
use Rattle.std.proofs.lemmas.List.{get_or_default}
use Rattle.ring_clock.specs.declared.entry.Entry.{Entry}
use Rattle.ring_clock.specs.Clock.{counter, IsAtMost}
use Rattle.ring_clock.specs.Groups.{group, group_in, HasGroup, IsAtMostBut, IsBlock, IsBlockFor}
use Rattle.ring_clock.specs.Blocks.{AreBlocks, entries_of}
use Rattle.ring_clock.proofs.Searching.{each_at, not_at}
use Rattle.ring_clock.proofs.Counting.{by_equal}
use Rattle.ring_clock.proofs.Ascending.{absent_group, here_group, there_group, within}

rise : (bs : List (List Entry)) → AreBlocks bs → (i j : ℕ) (d : List Entry) → i ≤ j → j < length bs → group_in (get_or bs i d) ≤ group_in (get_or bs j d)
rise [] h i j d le l = absurd (omega arith)
rise (b ∷ bs) h zero zero d le l = omega arith
rise (b ∷ bs) h zero (suc j) d le l = omega (arith, each_at (λ x. group_in b < group_in x) bs h.1 j d (omega arith))
rise (b ∷ bs) h (suc i) zero d le l = absurd (omega arith)
rise (b ∷ bs) h (suc i) (suc j) d le l = rise bs h.2 i j d (omega arith) (omega arith)

pub block_at : (bs : List (List Entry)) → AreBlocks bs → (k : ℕ) (d : List Entry) → k < length bs → IsBlock (get_or bs k d)
block_at [] h k d l = absurd (omega arith)
block_at (b ∷ bs) h zero d l = h.0
block_at (b ∷ bs) h (suc k) d l = block_at bs h.2 k d (omega arith)

pub at : (bs : List (List Entry)) (w : ℕ) → AreBlocks bs → (k : ℕ) (d : List Entry) → k < length bs → group_in (get_or bs k d) ≡ group w → counter (get_or bs k d) w ≡ counter (entries_of bs) w
at [] w h k d l is = absurd (omega arith)
at (b ∷ bs) w h zero d l is = sym (here_group b bs w h (sym is))
at (b ∷ bs) w h (suc k) d l is = at bs w h.2 k d (omega arith) is ∙ sym (there_group b bs w h (λ x. omega (arith, each_at (λ x. group_in b < group_in x) bs h.1 k d (omega arith))))

nowhere : (bs : List (List Entry)) (w : ℕ) → AreBlocks bs → ((k : ℕ) (d : List Entry) → k < length bs → group_in (get_or bs k d) ≢ group w) → 0 ≡ counter (entries_of bs) w
nowhere [] w are h = refl
nowhere (b ∷ bs) w are h = nowhere bs w are.2 (λ k d l. h (suc k) d (omega arith)) ∙ sym (there_group b bs w are (λ is. h zero b (omega arith) (sym is)))

-- a block of the group that was looked at is its block
pub seen_group : (bs : List (List Entry)) (g k : ℕ) (b : List Entry) → AreBlocks bs → k < length bs → b ≡ get_or bs k b → group_in b ≡ g → IsBlockFor g (entries_of bs) b
seen_group bs g k b h l is of = record {
  block = rw is (block_at bs h k b l);
  of = of;
  counters = λ w own. ap (λ (x : List Entry). counter x w) is ∙ at bs w h k b l (sym (ap group_in is) ∙ of ∙ sym own);
}

-- where none was found no writer of the group has a counter
pub no_group : (bs : List (List Entry)) (g k : ℕ) → AreBlocks bs → IsBinarySearchResult (λ b. nat_cmp (group_in b) g) bs (Err k) → ¬ (HasGroup g (entries_of bs))
no_group bs g k h r has =
    let none = nowhere bs has.0 h (λ n d l is. not_at group_in bs g k (rise bs h) r n d l (is ∙ has.1)) in
    absurd (omega (arith, has.2))

-- where the last block is of a lesser group none has one either
pub none_beyond : (bs : List (List Entry)) (g k : ℕ) (b : List Entry) → AreBlocks bs → length bs ≡ suc k → b ≡ get_or bs k b → group_in b < g → ¬ (HasGroup g (entries_of bs))
none_beyond bs g k b h last is less has =
    let none = nowhere bs has.0 h (λ n d l at.
    let up = rise bs h n k d (omega arith) (omega arith) in
    let same : group_in (get_or bs k d) ≡ group_in b = ap group_in (get_or_default bs k d b (omega arith) ∙ sym is) in
    absurd (omega (arith, has.1))) in
    absurd (omega (arith, has.2))

-- ---- a group that may be left out

pub left_out : (o : Option ℕ) (g : ℕ) → not (option_eq nat_eq o (Some g)) ≡ false → o ≡ Some g
left_out None g e = absurd cc
left_out (Some k) g e = ap Some (eqb-true k g (not-false (nat_eq k g) e))

pub not_left_out : (o : Option ℕ) (g : ℕ) → not (option_eq nat_eq o (Some g)) ≡ true → o ≢ Some g
not_left_out None g e h = absurd cc
not_left_out (Some k) g e h = (let is : k ≡ g = cc in eqb-false k g (not-true (nat_eq k g) e) is)

-- ---- blocks beside entries in which the block of each group is looked up

front : (but : Option ℕ) (b : List Entry) (bs : List (List Entry)) (es : List Entry) → AreBlocks (b ∷ bs) → IsAtMostBut but (entries_of (b ∷ bs)) es → but ≢ Some (group_in b) → IsAtMost b es
front but b bs es are h other = within b es are.0 (λ w own.
    let le = h w (λ is. other (is ∙ ap Some own)) in
    let mine = here_group b bs w are own in
    omega arith)

-- the block in front is at most them, or it is of the group that is left out
pub front_reached : (but : Option ℕ) (b : List Entry) (bs c : List (List Entry)) (es : List Entry) → c ≡ b ∷ bs → AreBlocks c → IsAtMostBut but (entries_of c) es → but ≢ Some (group_in b) → IsAtMost b es
front_reached but b bs c es is are h = front but b bs es (subst AreBlocks is are) (subst (λ (l : List (List Entry)). IsAtMostBut but (entries_of l) es) is h)

behind : (but : Option ℕ) (b : List Entry) (bs : List (List Entry)) (es : List Entry) → AreBlocks (b ∷ bs) → (but ≢ Some (group_in b) → IsAtMost b es) → IsAtMostBut but (entries_of bs) es ↔ IsAtMostBut but (entries_of (b ∷ bs)) es
behind but b bs es are le = (
  λ h w other. by_equal (group w) (group_in b) (counter (entries_of (b ∷ bs)) w ≤ counter es w)
      (λ own. let at = le (λ is. other (is ∙ ap Some (sym own))) w in let mine = here_group b bs w are own in omega arith)
      (λ apart. let at = h w other in let mine = there_group b bs w are apart in omega arith),
  λ h w other. by_equal (group w) (group_in b) (counter (entries_of bs) w ≤ counter es w)
      (λ own. let none = absent_group (group_in b) bs w are.1 are.2 (omega arith) in omega arith)
      (λ apart. let at = h w other in let mine = there_group b bs w are apart in omega arith),
)

-- what follows it decides then
pub behind_reached : (but : Option ℕ) (b : List Entry) (bs c : List (List Entry)) (es : List Entry) → c ≡ b ∷ bs → AreBlocks c → (but ≢ Some (group_in b) → IsAtMost b es) → IsAtMostBut but (entries_of bs) es ↔ IsAtMostBut but (entries_of c) es
behind_reached but b bs c es is are le = subst (λ (l : List (List Entry)). IsAtMostBut but (entries_of bs) es ↔ IsAtMostBut but (entries_of l) es) (sym is) (behind but b bs es (subst AreBlocks is are) le)
