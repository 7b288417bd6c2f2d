-- Small sets of numbers.
use Rattle.std.specs.Prelude.{ℕ, ◌*◌, ◌^◌, ◌%◌, Bool, ◌&&◌, ◌==◌, nat_lt, bit_or}
use Rattle.std.specs.Int.{bit_at}
use Rattle.store_parts.specs.declared.marks.Marks.{Marks}

-- no number
abbrev pub no_marks : Marks
no_marks = record { bits = 0 }

-- whether the number is in the set
abbrev pub has_mark : Marks → ℕ → Bool
has_mark marks m = nat_lt m 16 && (bit_at marks.bits m == 1)

-- the set with the number
abbrev pub with_mark : Marks → ℕ → Marks
with_mark marks m = record { bits = bit_or marks.bits (1 * 2 ^ m % 2 ^ 16) }
