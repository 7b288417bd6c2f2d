-- Who finished each step.
use Rattle.std.specs.Prelude.{◌≡◌, ⊤, ℕ, ◌==◌, ◌+◌, ◌-◌, ◌<◌, nat_lt, Bool, true, false, cond, List, [], ◌∷◌, length, Option, Some, None, slice_index, slice_index_or}
use Rattle.std.specs.List.{list_any, AllByRecursion}
use Rattle.ring_board.specs.declared.receipt.Receipt.{Receipt}
use Rattle.ring_board.specs.Kinds.{finished_by}

-- the receipt is of the end of step k
abbrev pub finishes : ℕ → Receipt → Bool
finishes k r = elim (finished_by r.event) [ Some n ↦ k == n | None ↦ false ]

-- the list has the end of step k
abbrev pub has_end : ℕ → List Receipt → Bool
has_end k list = list_any (finishes k) list

-- the list at that place
abbrev pub list_at : List (List Receipt) → ℕ → List Receipt
list_at lists place = slice_index_or lists place []

-- the worker whose list stands at that place; for a list in front of the workers', the number of workers, which
-- no worker has
abbrev pub worker_at : ℕ → ℕ → ℕ → ℕ
worker_at front workers place = cond (nat_lt place front) workers (place - front)

-- each step has its end in some list, and its finisher is the worker of each such list
pub record Finishes (finishers : List ℕ) (front workers : ℕ) (lists : List (List Receipt)) : Type 0 where
  pub by : (k place : ℕ) → k < length finishers → place < length lists → has_end k (list_at lists place) ≡ true → slice_index finishers k ≡ worker_at front workers place
  pub finished : (k : ℕ) → k < length finishers → list_any (has_end k) lists ≡ true

-- the finisher of the step that the receipt ends, if it ends one, is that worker
abbrev pub IsBy : List ℕ → ℕ → Option ℕ → Type 0
IsBy finishers worker None = ⊤
IsBy finishers worker (Some k) = k < length finishers → slice_index finishers k ≡ worker

abbrev pub AreBy : List ℕ → ℕ → List Receipt → Type 0
AreBy finishers worker list = AllByRecursion (λ r. IsBy finishers worker (finished_by r.event)) list

-- so of the lists from that place on
abbrev pub AreAllBy : List ℕ → ℕ → ℕ → ℕ → List (List Receipt) → Type 0
AreAllBy finishers front workers place [] = ⊤
AreAllBy finishers front workers place (list ∷ lists) = AreBy finishers (worker_at front workers place) list × AreAllBy finishers front workers (place + 1) lists
