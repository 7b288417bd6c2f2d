-- Whether lists of receipts are those of a drive's threads.
use Rattle.std.specs.Prelude.{◌≡◌, ℕ, ◌+◌, ◌<◌, true, List, [], length, slice_index_or}
use Rattle.std.specs.List.{list_all}
use Rattle.plan_runs.specs.declared.event.Entry.{Entry}
use Rattle.plan_runs.specs.declared.event.Event.{Event}
use Rattle.ring_board.specs.declared.receipt.Receipt.{Receipt}
use Rattle.ring_board.specs.Kinds.{is_step, is_handoff}
use Rattle.ring_board.specs.Interleaving.{Interleaves}
use Rattle.ring_board.specs.Blocks.{IsClient}
use Rattle.ring_board.specs.Finishing.{list_at, Finishes}

-- Behind `front` lists stand the workers' by number, the clients' by script and the one of handoffs. The
-- history is an interleaving of all. Each step's finisher is the worker whose list has its end.
pub record AgreesBehind (front steps : ℕ) (scripts : List (List Event)) (workers : ℕ) (history : List Entry) (lists : List (List Receipt)) (finishers : List ℕ) : Type 0 where
  pub interleaved : Interleaves history lists
  pub finishes : Finishes finishers front workers lists
  pub clients : (i : ℕ) → i < length scripts → IsClient (slice_index_or scripts i []) (list_at lists ((front + workers) + i))
  pub work : (i : ℕ) → i < workers → list_all (λ r. is_step r.event) (list_at lists (front + i)) ≡ true
  pub handoff : list_all (λ r. is_handoff r.event) (list_at lists ((front + workers) + length scripts)) ≡ true
  pub all : length finishers ≡ steps

-- these are the last of the lists
abbrev pub Agrees : ℕ → List (List Event) → ℕ → List Entry → List (List Receipt) → List ℕ → Type 0
Agrees steps scripts workers history lists finishers =
    (front : ℕ) × (length lists ≡ front + (workers + (length scripts + 1))) × AgreesBehind front steps scripts workers history lists finishers
