-- A ring and a change of it, one behind the other.
use Rattle.std.specs.Prelude.{Result}
use Rattle.ring_names.specs.declared.refusal.Refusal.{Refusal}
use Rattle.texts.specs.Left.{Left, then_part, map_part}
use Rattle.ring_table.specs.Value.{RingValue}
use Rattle.ring_table.specs.Reading.{ring_at}
use Rattle.change_text.specs.declared.change.Change.{Change}
use Rattle.change_text.specs.declared.wanted.Wanted.{Wanted}
use Rattle.change_text.specs.Reading.{change_at}

-- both as one
abbrev pub wanted_of : RingValue × Change → Wanted
wanted_of x = record { ring = x.0; change = x.1 }

-- a ring, and behind it a change of that ring
unfoldable pub wanted_at : Left → Result (Wanted × Left) Refusal
wanted_at = map_part wanted_of (then_part ring_at change_at)
