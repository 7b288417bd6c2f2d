-- What a line says, and the entry that it is.
use Rattle.std.specs.Prelude.{ℕ, List}
use Rattle.plan_runs.specs.declared.event.Entry.{Entry}
use Rattle.plan_runs.specs.declared.event.Reply.{Reply}
use Rattle.plan_runs.specs.declared.event.Reply.TheVariants as reply
use Rattle.script_text.specs.Said.{event_of}
use Rattle.script_text.specs.declared.said.SaidEvent.{SaidEvent}
use Rattle.history_text.specs.declared.said.SaidReply.{SaidReply}
use Rattle.history_text.specs.declared.said.SaidReply.TheVariants as said

-- the reply, as it is kept
abbrev pub reply_of : SaidReply → Reply
reply_of said.Plain = reply.Plain
reply_of (said.Put n) = reply.Put n
reply_of (said.Ticket s g) = reply.Ticket s g
reply_of (said.Get n) = reply.Get n
reply_of (said.Found vs) = reply.Found vs
reply_of (said.Answer vs) = reply.Answer vs

-- what a line says: an event, and the reply as it is kept
abbrev pub SaidEntry : Type 0
SaidEntry = SaidEvent × Reply

-- the same, with the reply still in the text
abbrev pub said_of : SaidEvent × SaidReply → SaidEntry
said_of x = (x.0, reply_of x.1)

-- the entry, as it is kept
abbrev pub entry_of : List (List ℕ) → SaidEntry → Entry
entry_of names x = record { event = event_of names x.0; reply = x.1 }
