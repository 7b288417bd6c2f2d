-- Which parts of a world an event changes.
use Rattle.std.specs.Prelude.{Bool, true, false}
use Rattle.plan_runs.specs.declared.event.Event.{Event}
use Rattle.plan_runs.specs.declared.event.Event.TheVariants.{Do, OpenCopy, ChunkCopy, CloseCopy, AbortCopy, StartPut, Write, Hint, Ack, StartGet, Read, EndGet, Lose}

-- whether the event does no step, and opens, copies, closes or aborts no copy
abbrev pub leaves_steps : Event → Bool
leaves_steps (Do n) = false
leaves_steps (OpenCopy n) = false
leaves_steps (ChunkCopy n c) = false
leaves_steps (CloseCopy n) = false
leaves_steps (AbortCopy n) = false
leaves_steps e = true

-- whether it starts a put
abbrev pub starts_put : Event → Bool
starts_put (StartPut writer key value seen) = true
starts_put e = false

-- whether the event starts a put, gives a put a ticket or acknowledges a put
abbrev pub changes_puts : Event → Bool
changes_puts (StartPut writer key value seen) = true
changes_puts (Write v i) = true
changes_puts (Hint v i x) = true
changes_puts (Ack v) = true
changes_puts e = false

-- whether it starts a get
abbrev pub starts_get : Event → Bool
starts_get (StartGet key) = true
starts_get e = false

-- whether the event starts a get, reads for a get or ends a get
abbrev pub changes_gets : Event → Bool
changes_gets (StartGet key) = true
changes_gets (Read g i) = true
changes_gets (EndGet g) = true
changes_gets e = false

-- whether a node loses its store
abbrev pub loses : Event → Bool
loses (Lose x) = true
loses e = false
