-- Entries at one place of two clocks.
use Rattle.std.proofs.Common.{◌≡◌, ◌↔◌, ℕ, ◌+◌, ◌<◌, ◌≤◌, List, length, get_or, drop, refl, arith}
use Rattle.std.proofs.lemmas.List.{drop_more}
use Rattle.ring_clock.specs.declared.entry.Entry.{Entry}
use Rattle.ring_clock.specs.Clock.{IsClock, IsAtMost}
use Rattle.ring_clock.proofs.Counting.{front_facing, compare, dropped}
use Rattle.ring_clock.proofs.Entries.{entries}

module _ (a b : List Entry) (n : ℕ) (d : Entry) (first : IsClock a) (second : IsClock b) (in_first : n < length a) (in_second : n < length b) (same : (get_or a n d).writer.0 ≡ (get_or b n d).writer.0) where
  -- where the first has the greater counter it is not at most the second
  pub greater_at : (get_or b n d).counter < (get_or a n d).counter → IsAtMost (drop n a) (drop n b) → ⊥
  greater_at more h =
      omega (arith, front_facing entries (get_or a n d) (get_or b n d) (drop (n + 1) a) (drop (n + 1) b) (drop n a) (drop n b) (drop_more a n d in_first) (drop_more b n d in_second) same (dropped entries n a first) (dropped entries n b second) h (get_or a n d).writer.0 refl)

  -- where it has not, what follows decides
  pub passed_at : (get_or a n d).counter ≤ (get_or b n d).counter → IsAtMost (drop (n + 1) a) (drop (n + 1) b) ↔ IsAtMost (drop n a) (drop n b)
  passed_at le =
      compare entries (get_or a n d) (get_or b n d) (drop (n + 1) a) (drop (n + 1) b) (drop n a) (drop n b) (drop_more a n d in_first) (drop_more b n d in_second) same (λ w. le) (dropped entries n a first) (dropped entries n b second)
