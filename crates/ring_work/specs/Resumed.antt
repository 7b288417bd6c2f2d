-- What a drive promises that goes on from a history.
use Rattle.std.specs.Prelude.{◌≡◌, ◌≢◌, ◌⊎◌, ◌≤◌, ℕ, Bool, true, false, ◌==◌, ◌+◌, ◌<◌, List, [], ◌∷◌, ◌++◌, map, length, cond}
use Rattle.std.specs.List.{filter, range_with_len}
use Rattle.ring_names.specs.declared.refusal.Refusal.{Refusal}
use Rattle.ring_names.specs.declared.refusal.Refusal.TheVariants.{OutOfMemory, HistoryFull}
use Rattle.ring_table.specs.Value.{RingValue}
use Rattle.plan_text.specs.declared.step.Planned.{Planned}
use Rattle.plan_runs.specs.declared.event.Entry.{Entry}
use Rattle.plan_runs.specs.declared.event.Event.{Event}
use Rattle.plan_runs.specs.declared.event.Event.TheVariants.{OpenCopy, CloseCopy, AbortCopy}
use Rattle.plan_runs.specs.World.{opening_world}
use Rattle.ring_exec.specs.Faults.{IsFirstFault}
use Rattle.ring_board.specs.declared.receipt.Receipt.{Receipt}
use Rattle.ring_board.specs.Finishing.{list_at}
use Rattle.ring_work.specs.Driven.{Driven, IsFault}

-- the receipt of an entry at that place
abbrev pub receipt_at : ℕ → Entry → Receipt
receipt_at k x = record { index = k; event = x.event; reply = x.reply }

-- the receipts of entries, the first one at place k
abbrev pub receipts_from : ℕ → List Entry → List Receipt
receipts_from k [] = []
receipts_from k (x ∷ xs) = receipt_at k x ∷ receipts_from (k + 1) xs

-- whether copy n is open behind an event, where that is said of it in front
abbrev pub open_behind : ℕ → Event → Bool → Bool
open_behind n (OpenCopy s) was = cond (s == n) true was
open_behind n (CloseCopy s) was = cond (s == n) false was
open_behind n (AbortCopy s) was = cond (s == n) false was
open_behind n e was = was

-- the same of entries
abbrev pub is_open : ℕ → List Entry → Bool → Bool
is_open n [] was = was
is_open n (x ∷ xs) was = is_open n xs (open_behind n x.event was)

-- the copies that are open behind the entries, by number
abbrev pub open_copies : ℕ → List Entry → List ℕ
open_copies steps entries = filter (λ n. is_open n entries false) (range_with_len 0 steps)

-- behind the others stand receipts of the aborts of those copies, in order
pub record Breaks (copies : List ℕ) (old new : List Receipt) : Type 0 where
  pub aborts : List Receipt
  pub joined : new ≡ old ++ aborts
  pub broken : map (λ r. r.event) aborts ≡ map AbortCopy copies

-- the list begins with the receipts of the entries; behind them each copy that they left open is broken off
abbrev pub Continues : ℕ → List Entry → List Receipt → Type 0
Continues steps entries list = Breaks (open_copies steps entries) (receipts_from 0 entries) list

-- a drive whose first list of receipts continues the entries
pub record Resumed (ring : RingValue) (plan : List Planned) (scripts : List (List Event)) (workers : ℕ) (entries : List Entry) (history : List Entry) (lists : List (List Receipt)) (finishers : List ℕ) : Type 0 where
  pub driven : Driven ring plan scripts workers history lists finishers
  pub first : Continues (length plan) entries (list_at lists 0)

-- why it is none: as a drive, or the entries are too many, or no run of the plan
abbrev pub IsStop : RingValue → List Planned → List Entry → Refusal → Type 0
IsStop ring plan entries e = IsFault e ⊎ (((e ≡ HistoryFull) × (1000000 < length entries)) ⊎ IsFirstFault ring plan (opening_world ring) 0 entries e)

-- where the entries are not too many and one of them is the first that fails, that is told, or memory is wanting
abbrev pub TellsFault : RingValue → List Planned → List Entry → Refusal → Type 0
TellsFault ring plan entries e = (x : Refusal) → length entries ≤ 1000000 → IsFirstFault ring plan (opening_world ring) 0 entries x → e ≢ OutOfMemory → e ≡ x
