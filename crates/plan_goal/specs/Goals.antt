-- A ring and the ring that it should become, one behind the other.
use Rattle.std.specs.Prelude.{Result}
use Rattle.ring_names.specs.declared.refusal.Refusal.{Refusal}
use Rattle.texts.specs.Left.{Left, then_part, map_part}
use Rattle.ring_table.specs.Value.{RingValue}
use Rattle.ring_table.specs.Reading.{ring_at}
use Rattle.plan_goal.specs.declared.reading.Goal.{Goal}

-- both as one
abbrev pub goal_of : RingValue × RingValue → Goal
goal_of x = record { ring = x.0; wanted = x.1 }

-- a ring, and behind it another
unfoldable pub goal_at : Left → Result (Goal × Left) Refusal
goal_at = map_part goal_of (then_part ring_at (λ _. ring_at))
