-- Counters of blocks, from the front.
use Rattle.std.proofs.Common.{◌≡◌, ◌≢◌, ◌∙◌, inl, inr, ℕ, ◌<◌, ◌≤◌, List, [], ◌∷◌, refl, sym, arith}
use Rattle.std.specs.List.{AllByRecursion}
use Rattle.std.proofs.lemmas.Bool.Decides.{eqb_tells}
use Rattle.ring_clock.specs.declared.entry.Entry.{Entry}
use Rattle.ring_clock.specs.Clock.{counter, IsAbove, IsClock, IsAtMost}
use Rattle.ring_clock.specs.Groups.{group, group_in, IsBlock}
use Rattle.ring_clock.specs.Blocks.{IsBeyond, AreBlocks, entries_of}
use Rattle.ring_clock.proofs.Counting.{Counts, by_equal, above_more}
use Rattle.ring_clock.proofs.Groups.{nothing_front, some_front, above_both, clock_both, in_group, lesser, some_counter}

pub absent_group : (g : ℕ) (bs : List (List Entry)) (w : ℕ) → IsBeyond g bs → AreBlocks bs → group w ≤ g → counter (entries_of bs) w ≡ 0
absent_group g [] w beyond are le = refl
absent_group g (b ∷ bs) w beyond are le = nothing_front b (entries_of bs) w are.0.0 (are.0.2 w (λ is. omega (arith, beyond.0))) ∙ absent_group g bs w beyond.1 are.2 le

pub there_group : (b : List Entry) (bs : List (List Entry)) (w : ℕ) → AreBlocks (b ∷ bs) → group w ≢ group_in b → counter (entries_of (b ∷ bs)) w ≡ counter (entries_of bs) w
there_group b bs w are apart = nothing_front b (entries_of bs) w are.0.0 (are.0.2 w apart)

pub here_group : (b : List Entry) (bs : List (List Entry)) (w : ℕ) → AreBlocks (b ∷ bs) → group w ≡ group_in b → counter (entries_of (b ∷ bs)) w ≡ counter b w
here_group b bs w are is = elim (eqb_tells (counter b w) 0) [
  | inl t ↦ nothing_front b (entries_of bs) w are.0.0 t.1 ∙ absent_group (group_in b) bs w are.1 are.2 (omega arith) ∙ sym t.1
  | inr t ↦ some_front b (entries_of bs) w (grind (arith, t.1))
]

-- blocks are lists in order of a key
pub blocks : Counts group_in group counter AreBlocks (λ bs w. counter (entries_of bs) w)
blocks = record {
  nil = tt;
  none = λ w. refl;
  split = λ b bs h. (h.1, h.2);
  put = λ b bs more h above are. (h.0, above, are);
  here = here_group;
  there = there_group;
  absent = absent_group;
  some = λ b bs h. some_counter b h.0;
}

-- a block whose counters of its own group are at most the other's is at most the other
pub within : (b o : List Entry) → IsBlock b → ((w : ℕ) → group w ≡ group_in b → counter b w ≤ counter o w) → IsAtMost b o
within b o block le w = by_equal (group w) (group_in b) (counter b w ≤ counter o w) (λ is. le w is) (λ apart. let none = block.2 w apart in omega arith)

-- a block in the place of another of its group
pub in_place : (b j : List Entry) (bs : List (List Entry)) → IsBlock j → group_in j ≡ group_in b → AreBlocks (b ∷ bs) → AreBlocks (j ∷ bs)
in_place b j bs block is are = (block, above_more group_in (group_in j) (group_in b) bs (omega arith) are.1, are.2)

-- ---- the entries of blocks are a clock

block_above : (w g : ℕ) (es : List Entry) → group w < g → AllByRecursion (λ e. group e.writer.0 ≡ g) es → IsAbove w es
block_above w g [] less all = tt
block_above w g (e ∷ es) less all = (lesser w e.writer.0 (omega (arith, all.0)), block_above w g es less all.1)

beyond_above : (g : ℕ) (bs : List (List Entry)) (w : ℕ) → IsBeyond g bs → AreBlocks bs → group w ≤ g → IsAbove w (entries_of bs)
beyond_above g [] w beyond are le = tt
beyond_above g (b ∷ bs) w beyond are le = above_both w b (entries_of bs) (block_above w (group_in b) b (omega (arith, beyond.0)) (in_group (group_in b) b are.0.0 are.0.2)) (beyond_above g bs w beyond.1 are.2 le)

each_above : (es : List Entry) (g : ℕ) (bs : List (List Entry)) → AllByRecursion (λ e. group e.writer.0 ≡ g) es → IsBeyond g bs → AreBlocks bs → AllByRecursion (λ e. IsAbove e.writer.0 (entries_of bs)) es
each_above [] g bs all beyond are = tt
each_above (e ∷ es) g bs all beyond are = (beyond_above g bs e.writer.0 beyond are (omega (arith, all.0)), each_above es g bs all.1 beyond are)

pub all_clock : (bs : List (List Entry)) → AreBlocks bs → IsClock (entries_of bs)
all_clock [] are = tt
all_clock (b ∷ bs) are = clock_both b (entries_of bs) are.0.0 (all_clock bs are.2) (each_above b (group_in b) bs (in_group (group_in b) b are.0.0 are.0.2) are.1 are.2)
