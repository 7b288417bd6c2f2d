-- What submitting events does to a list of receipts.
use Rattle.std.specs.Prelude.{◌≡◌, ◌+◌, ℕ, Bool, true, List, [], ◌∷◌, ◌++◌, length, cond}
use Rattle.std.specs.List.{list_all}
use Rattle.plan_runs.specs.declared.event.Event.{Event}
use Rattle.ring_board.specs.declared.receipt.Receipt.{Receipt}
use Rattle.ring_exec.specs.Replies.{fits_reply}

-- a receipt of the event stands behind the others
pub record Adds (e : Event) (old new : List Receipt) : Type 0 where
  pub receipt : Receipt
  pub event : receipt.event ≡ e
  pub reply : fits_reply e receipt.reply ≡ true
  pub joined : new ≡ old ++ receipt ∷ []

-- receipts that pass the test stand behind the others
pub record Grows (test : Receipt → Bool) (old new : List Receipt) : Type 0 where
  pub more : List Receipt
  pub joined : new ≡ old ++ more
  pub pass : list_all test more ≡ true

-- receipts that pass the first test stand behind the others, and behind them one that passes the second exactly
-- if nothing is refused
pub record Completes (each last : Receipt → Bool) (old new : List Receipt) (refused : Bool) : Type 0 where
  pub body : List Receipt
  pub close : List Receipt
  pub joined : new ≡ old ++ (body ++ close)
  pub are_each : list_all each body ≡ true
  pub are_last : list_all last close ≡ true
  pub closed : length close ≡ cond refused 0 1

-- the count has grown as the list has
abbrev pub IsCounted : ℕ → ℕ → List Receipt → List Receipt → Type 0
IsCounted before after old new = after + length old ≡ before + length new
