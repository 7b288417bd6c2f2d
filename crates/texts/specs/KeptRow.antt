-- What is kept of numbers in a row.
use Rattle.std.specs.Prelude.{◌≡◌, ℕ, ◌≤◌, List, true, length, min, nat_le, nat_lt, take}
use Rattle.std.specs.List.{list_all}
use Rattle.texts.specs.Numbers.{ascending, are_small}
use Rattle.texts.specs.declared.measure.Measure.{Measure}

-- what is kept of the numbers of a row
pub record Measures (numbers : List ℕ) (kept : Measure) : Type 0 where
  -- how many there are, as far as a `u64` counts
  pub counted : kept.count ≡ min (length numbers) 18446744073709551615
  -- they are below each limit that the bound is at most
  pub bounded : (limit : ℕ) → limit ≤ 4294967296 → nat_le kept.bound limit ≡ list_all (λ x. nat_lt x limit) numbers
  -- whether they ascend
  pub ordered : are_small numbers ≡ true → kept.ascends ≡ ascending numbers
  -- what they are, where they are few
  pub first : are_small numbers ≡ true → length numbers ≤ 8 → take (length numbers) kept.first ≡ numbers
