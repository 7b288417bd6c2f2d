-- What a client of a store can do by itself.
use Rattle.std.specs.Prelude.{Bool, true, false}
use Rattle.plan_runs.specs.declared.event.Event.{Event}
use Rattle.plan_runs.specs.declared.event.Event.TheVariants as event

-- a put or a get starts, or a node goes down or comes up
abbrev pub is_client_event : Event → Bool
is_client_event (event.StartPut w k v g) = true
is_client_event (event.StartGet k) = true
is_client_event (event.Down x) = true
is_client_event (event.Up x) = true
is_client_event e = false
