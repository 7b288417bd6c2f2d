-- A history that is being cut.
use Rattle.std.specs.Prelude.{List, [], Bool, Option}
use Rattle.ring_table.specs.Value.{RingValue}
use Rattle.plan_runs.specs.declared.event.Event.{Event}
use Rattle.plan_runs.specs.declared.event.Entry.{Entry}
use Rattle.history_laws.specs.Parts.{entry_in, gets_after, is_marked, or_none, puts_after}

-- the ring, the partitions of the part, marked by number, and the puts and gets so far, marked where they are of the part
pub record CutValue : Type 0 where
  pub ring : RingValue
  pub partitions : List Bool
  pub puts : List Bool
  pub gets : List Bool

-- before the first entry
abbrev pub first_cut : RingValue → List Bool → CutValue
first_cut ring partitions = record { ring = ring; partitions = partitions; puts = []; gets = [] }

-- after an event
abbrev pub after_event : CutValue → Event → CutValue
after_event cut e = record cut { puts = puts_after cut.ring (or_none cut.ring (is_marked cut.partitions)) cut.puts e; gets = gets_after cut.ring (or_none cut.ring (is_marked cut.partitions)) cut.gets e }

-- the next entry as it is in the part, if it is
abbrev pub entry_next : CutValue → Entry → Option Entry
entry_next cut x = entry_in cut.ring (or_none cut.ring (is_marked cut.partitions)) cut.puts cut.gets x
