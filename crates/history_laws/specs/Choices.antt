-- Which partitions a part sees.
use Rattle.std.specs.Prelude.{◌==◌, ◌%◌, ◌<◌, ◌&&◌, ℕ, Bool, nat_le}
use Rattle.ring_names.specs.declared.choice.Choice.{Choice}
use Rattle.ring_names.specs.declared.choice.Choice.TheVariants.{Share, Range}

-- whether the partition is one of them
abbrev pub is_chosen : Choice → ℕ → Bool
is_chosen (Share of part) p = p % of == part
is_chosen (Range first last) p = nat_le first p && nat_le p last

-- there is at least one share
abbrev pub IsChoice : Choice → Type 0
IsChoice (Share of part) = 0 < of
IsChoice (Range first last) = Unit {0}
