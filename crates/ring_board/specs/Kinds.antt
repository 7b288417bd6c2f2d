-- What an event is to a list of receipts.
use Rattle.std.specs.Prelude.{ℕ, Bool, true, false, ◌==◌, Option, Some, None}
use Rattle.plan_runs.specs.declared.event.Event.{Event}
use Rattle.plan_runs.specs.declared.event.Event.TheVariants.{Do, OpenCopy, ChunkCopy, CloseCopy, AbortCopy, Write, Hint, Ack, Read, EndGet, Handoff}
use Rattle.plan_runs.specs.declared.event.Reply.{Reply}
use Rattle.plan_runs.specs.declared.event.Reply.TheVariants.{Put, Get}

-- it is of a step of the plan
abbrev pub is_step : Event → Bool
is_step (Do n) = true
is_step (OpenCopy n) = true
is_step (ChunkCopy n c) = true
is_step (CloseCopy n) = true
is_step (AbortCopy n) = true
is_step e = false

-- it hands hints off
abbrev pub is_handoff : Event → Bool
is_handoff (Handoff x s) = true
is_handoff e = false

-- the step that it finishes, if it does
abbrev pub finished_by : Event → Option ℕ
finished_by (Do n) = Some n
finished_by (CloseCopy n) = Some n
finished_by e = None

-- it writes put v, or leaves a hint of it
abbrev pub sends : ℕ → Event → Bool
sends v (Write u i) = v == u
sends v (Hint u i x) = v == u
sends v e = false

-- it acknowledges put v
abbrev pub acknowledges : ℕ → Event → Bool
acknowledges v (Ack u) = v == u
acknowledges v e = false

-- it is a read of get g
abbrev pub reads : ℕ → Event → Bool
reads g (Read h i) = g == h
reads g e = false

-- it ends get g
abbrev pub ends : ℕ → Event → Bool
ends g (EndGet h) = g == h
ends g e = false

-- the number of the put or the get that the reply numbers, if there is one
abbrev pub put_in : Reply → Option ℕ
put_in (Put v) = Some v
put_in r = None

abbrev pub get_in : Reply → Option ℕ
get_in (Get g) = Some g
get_in r = None
