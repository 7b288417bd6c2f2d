-- What callers see of a board and of its seats.
use Rattle.std.specs.Prelude.{◌≡◌, ◌==◌, ◌⊎◌, ℕ, zero, suc, ◌+◌, ◌≤◌, true, List, [], ◌∷◌, Option, Some, Any, count_by, sum_by, if◌then◌else◌}
use Rattle.atomic_table.specs.Seated.{TableId}
use Rattle.ring_names.specs.Lists.{has}
use Rattle.ring_board.specs.declared.view.Sight.{Sight}
use Rattle.ring_board.specs.Words.{free, claimed, finished_word}

-- a board: its identity, and how many steps and workers there are
pub record BoardView : Type 0 where
  pub id : TableId
  pub steps : ℕ
  pub workers : ℕ

-- a seat: a board, perhaps a worker, and the steps held, finished and known to be done. The lost claims, last
-- first, have the step and the word that was read. A seat has one of 2 ^ share equal parts of the board. The first seat
-- has all, and a new seat takes half of its maker's part
pub record SeatView : Type 0 where
  pub board : TableId
  pub worker : Option ℕ
  pub held : List ℕ
  pub finished : List ℕ
  pub known : List ℕ
  pub seen : List Sight
  pub share : ℕ

-- of step k this word was read
abbrev pub sight : ℕ → ℕ → Sight
sight k word = record { step = k; word = word }

-- a seat that holds, finished and knows no step, and lost no claim
abbrev pub fresh : TableId → Option ℕ → ℕ → SeatView
fresh id worker share = record { board = id; worker = worker; held = []; finished = []; known = []; seen = []; share = share }

-- the word of step k fits the seat. Steps held are claimed by the seat's worker, steps finished are finished by that
-- worker, and steps known to be done are finished
pub record Fits (s : SeatView) (k word : ℕ) : Type 0 where
  pub held : has k s.held ≡ true → (w : ℕ) → s.worker ≡ Some w → word ≡ claimed w
  pub finished : has k s.finished ≡ true → (w : ℕ) → s.worker ≡ Some w → word ≡ finished_word w
  pub known : has k s.known ≡ true → 128 ≤ word

-- the list without the first k in it
abbrev pub removed : ℕ → List ℕ → List ℕ
removed k [] = []
removed k (x ∷ xs) = if k == x then xs else x ∷ removed k xs

-- how often k stands in the list
abbrev pub times : ℕ → List ℕ → ℕ
times k xs = count_by (λ x. k == x) xs

-- how often step k is held, over all of the seats
abbrev pub held_times : ℕ → List SeatView → ℕ
held_times k seats = sum_by (λ s. times k s.held) seats

-- how often step k was finished, over all of the seats
abbrev pub finished_times : ℕ → List SeatView → ℕ
finished_times k seats = sum_by (λ s. times k s.finished) seats

-- how many of 2 ^ d parts make one of 2 ^ e: 2 ^ (d - e), or 0 if e > d
abbrev pub parts : ℕ → ℕ → ℕ
parts zero zero = 1
parts zero (suc e) = 0
parts (suc d) zero = parts d zero + parts d zero
parts (suc d) (suc e) = parts d e

-- the seats have the whole board: they are all that were made
abbrev pub AreAll : List SeatView → Type 0
AreAll seats = (d : ℕ) × (parts d 0 ≤ sum_by (λ s. parts d s.share) seats)

-- the seat gives the word of step k, as a step that the worker claimed and the seat holds, or that the worker finished
abbrev pub Tells : ℕ → ℕ → SeatView → Type 0
Tells k word s = (w : ℕ) × (s.worker ≡ Some w) × (((has k s.held ≡ true) × (word ≡ claimed w)) ⊎ ((has k s.finished ≡ true) × (word ≡ finished_word w)))

-- the step k is free, or one of the seats tells its word
abbrev pub IsTold : List SeatView → ℕ → ℕ → Type 0
IsTold seats k word = (word ≡ free) ⊎ Any (Tells k word) seats
