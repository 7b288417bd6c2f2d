-- What each event is answered.
use Rattle.std.specs.Prelude.{List, length, Some, None, Result, Ok, Err}
use Rattle.ring_names.specs.declared.refusal.Refusal.{Refusal}
use Rattle.ring_table.specs.Value.{RingValue}
use Rattle.plan_text.specs.declared.step.Planned.{Planned}
use Rattle.plan_stage.specs.Clauses.{first_failing}
use Rattle.plan_runs.specs.declared.event.Event.{Event}
use Rattle.plan_runs.specs.declared.event.Event.TheVariants.{StartPut, Write, Hint, StartGet, Read, EndGet}
use Rattle.plan_runs.specs.declared.event.Reply.{Reply}
use Rattle.plan_runs.specs.declared.event.Reply.TheVariants as reply
use Rattle.plan_runs.specs.World.{World, generation}
use Rattle.plan_runs.specs.Versions.{put_slot}
use Rattle.plan_runs.specs.Guards.{guards}
use Rattle.plan_runs.specs.Effects.{effect, finds, answers}

-- the reply to an event that is not refused
abbrev pub reply_to : RingValue → List Planned → World → Event → Reply
reply_to ring plan w (StartPut writer key value seen) = reply.Put (length w.puts)
reply_to ring plan w (Write v i) = reply.Ticket (put_slot ring w v i) (generation plan w (put_slot ring w v i))
reply_to ring plan w (Hint v i x) = reply.Ticket (put_slot ring w v i) (generation plan w (put_slot ring w v i))
reply_to ring plan w (StartGet key) = reply.Get (length w.gets)
reply_to ring plan w (Read g i) = reply.Found (finds ring plan w g i)
reply_to ring plan w (EndGet g) = reply.Answer (answers ring w g)
reply_to ring plan w e = reply.Plain

-- the next world and the reply, or the refusal of the first guard that fails
abbrev pub answer : RingValue → List Planned → World → Event → Result (World × Reply) Refusal
answer ring plan w e = elim (first_failing (guards ring plan w e)) [
  | Some refusal ↦ Err refusal
  | None ↦ Ok (effect ring plan w e, reply_to ring plan w e)
]
