-- Entries of histories.
use Rattle.plan_runs.specs.declared.event.Entry.{Entry}
use Rattle.plan_runs.specs.declared.event.Event.{Event}
use Rattle.plan_runs.specs.declared.event.Reply.{Reply}

-- an event with its reply
abbrev pub entry : Event → Reply → Entry
entry e r = record { event = e; reply = r }
