-- What gets find, and which events change a get.
use Rattle.std.specs.Prelude.{ℕ, Bool, false, ◌&&◌, ◌==◌, List}
use Rattle.ring_table.specs.Value.{RingValue}
use Rattle.plan_text.specs.declared.step.Planned.{Planned}
use Rattle.plan_runs.specs.declared.event.Event.{Event}
use Rattle.plan_runs.specs.declared.event.Event.TheVariants.{Read, EndGet}
use Rattle.plan_runs.specs.World.{World, some_below, key_of_get, is_of_key}
use Rattle.plan_runs.specs.Versions.{get_slot, slot_has}
use Rattle.plan_runs.specs.Effects.{has_found}

-- whether the slot of that index has the put, and it is of the get's key
abbrev pub can_find : RingValue → List Planned → World → ℕ → ℕ → ℕ → Bool
can_find ring plan w g i v = is_of_key w (key_of_get w g) v && slot_has ring plan w (get_slot ring w g i) v

-- whether the get found the put at some slot
abbrev pub found_by : RingValue → World → ℕ → ℕ → Bool
found_by ring w g v = some_below ring.n (has_found w g v)

-- whether the event is a read of the get, or its end
abbrev pub is_of_get : ℕ → Event → Bool
is_of_get h (Read g i) = h == g
is_of_get h (EndGet g) = h == g
is_of_get h e = false
