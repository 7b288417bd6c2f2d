-- Which kind of reply an event is answered.
use Rattle.std.specs.Prelude.{Bool, true, false}
use Rattle.plan_runs.specs.declared.event.Event.{Event}
use Rattle.plan_runs.specs.declared.event.Event.TheVariants as event
use Rattle.plan_runs.specs.declared.event.Reply.{Reply}
use Rattle.plan_runs.specs.declared.event.Reply.TheVariants.{Plain, Put, Ticket, Get, Found, Answer}

abbrev pub is_plain : Reply → Bool
is_plain Plain = true
is_plain r = false

abbrev pub is_put : Reply → Bool
is_put (Put v) = true
is_put r = false

abbrev pub is_ticket : Reply → Bool
is_ticket (Ticket s g) = true
is_ticket r = false

abbrev pub is_get : Reply → Bool
is_get (Get g) = true
is_get r = false

abbrev pub is_found : Reply → Bool
is_found (Found puts) = true
is_found r = false

abbrev pub is_answer : Reply → Bool
is_answer (Answer puts) = true
is_answer r = false

-- a put or a get that starts is answered the number, and a write or a hint the ticket. A read is answered what
-- it found, a get that ends the answer, and every other event that it is done
abbrev pub fits_reply : Event → Reply → Bool
fits_reply (event.StartPut w k v s) r = is_put r
fits_reply (event.Write v i) r = is_ticket r
fits_reply (event.Hint v i x) r = is_ticket r
fits_reply (event.StartGet k) r = is_get r
fits_reply (event.Read g i) r = is_found r
fits_reply (event.EndGet g) r = is_answer r
fits_reply e r = is_plain r
