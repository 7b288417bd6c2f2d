-- The limits of an event's words.
use Rattle.std.specs.Prelude.{ℕ, Bool, ◌&&◌, nat_le, List, length}
use Rattle.std.specs.List.{list_all}
use Rattle.texts.specs.Name.{is_name_byte}
use Rattle.texts.specs.Numbers.{ascending}

-- 1 to 64 bytes of `a-z0-9_.:-`
abbrev pub is_key : List ℕ → Bool
is_key bs = nat_le 1 (length bs) && nat_le (length bs) 64 && list_all is_name_byte bs

-- at most 16 numbers, each less than the next
abbrev pub is_seen : List ℕ → Bool
is_seen gs = nat_le (length gs) 16 && ascending gs
