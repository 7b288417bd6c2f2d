-- What the receipts of one put or get are.
use Rattle.std.specs.Prelude.{◌≡◌, ◌⊎◌, ℕ, true, not, List, [], ◌++◌, length, cond, Option, is_some}
use Rattle.plan_runs.specs.declared.event.Event.{Event}
use Rattle.ring_names.specs.declared.refusal.Refusal.{Refusal}
use Rattle.ring_board.specs.declared.receipt.Receipt.{Receipt}
use Rattle.ring_board.specs.declared.asked.Asked.{Asked}
use Rattle.ring_board.specs.Blocks.{IsPut, IsGet}

-- none, if the start was refused. Otherwise the block of the put that the event starts, with its
-- acknowledgement exactly if nothing is refused in the end
abbrev pub IsPutAttempt : Event → List Receipt → Option Refusal → Type 0
IsPutAttempt begin receipts refusal =
    ((receipts ≡ []) × (is_some refusal ≡ true)) ⊎ ((p : IsPut begin receipts) × (length p.acks ≡ cond (is_some refusal) 0 1))

-- the same of a get of the key, with its end
abbrev pub IsGetAttempt : List ℕ → List Receipt → Option Refusal → Type 0
IsGetAttempt key receipts refusal =
    ((receipts ≡ []) × (is_some refusal ≡ true)) ⊎ ((a : Asked) × IsGet key a receipts × (a.ended ≡ not (is_some refusal)))

-- such receipts stand behind the others
abbrev pub AddsPut : Event → List Receipt → List Receipt → Option Refusal → Type 0
AddsPut begin old new refusal = (block : List Receipt) × (new ≡ old ++ block) × IsPutAttempt begin block refusal

abbrev pub AddsGet : List ℕ → List Receipt → List Receipt → Option Refusal → Type 0
AddsGet key old new refusal = (block : List Receipt) × (new ≡ old ++ block) × IsGetAttempt key block refusal
