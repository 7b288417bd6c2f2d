-- A store, and the history that leads to it.
use Rattle.std.specs.Prelude.{◌≡◌, List}
use Rattle.ring_table.specs.Value.{RingValue}
use Rattle.plan_text.specs.declared.step.Planned.{Planned}
use Rattle.ring_core.specs.Replays.{Replays}
use Rattle.ring_core.specs.World.{ring_of, plan_of}
use Rattle.plan_around.specs.declared.led.Led.{Led}

-- the history is a run of the plan, and leads to a world that the store is in
pub record IsLed (start : RingValue) (steps : List Planned) (it : Led) : Type 0 where
  pub ring : ring_of it.store ≡ start
  pub plan : plan_of it.store ≡ steps
  pub replays : Replays start steps it.store it.entries.items

-- a history that leads to the first store was made longer, and leads to the second one
abbrev pub GoesFarther : Led → Led → Type 0
GoesFarther old new = (ring : RingValue) (plan : List Planned) → IsLed ring plan old → IsLed ring plan new
