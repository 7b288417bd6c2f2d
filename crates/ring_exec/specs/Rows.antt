-- What a row of events adds to a list of receipts.
use Rattle.std.specs.Prelude.{◌≡◌, ◌<◌, true, List, ◌++◌, length, map, take}
use Rattle.std.specs.List.{All}
use Rattle.plan_runs.specs.declared.event.Event.{Event}
use Rattle.ring_board.specs.declared.receipt.Receipt.{Receipt}
use Rattle.ring_exec.specs.Replies.{fits_reply}

-- the reply is of the event's kind, and the place is one of a history
abbrev pub IsOfHistory : Receipt → Type 0
IsOfHistory r = (fits_reply r.event r.reply ≡ true) × (r.index < 1000000)

-- receipts of the first events of the row stand after the others, in order
pub record AddsRow (events : List Event) (old new : List Receipt) : Type 0 where
  pub more : List Receipt
  pub joined : new ≡ old ++ more
  pub first : map (λ r. r.event) more ≡ take (length more) events
  pub each : All IsOfHistory more
