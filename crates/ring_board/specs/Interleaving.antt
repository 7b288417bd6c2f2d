-- Lists of receipts, and the history that they are drawn from.
use Rattle.std.specs.Prelude.{◌≡◌, ℕ, ◌<◌, Bool, true, ◌==◌, List, map, length, Some, slice_get, count_by, sum_by}
use Rattle.std.specs.List.{AllByRecursion}
use Rattle.texts.specs.Numbers.{ascending}
use Rattle.plan_runs.specs.declared.event.Entry.{Entry}
use Rattle.ring_board.specs.declared.receipt.Receipt.{Receipt}
use Rattle.ring_board.specs.Entries.{entry}

-- the places of a list's receipts rise
abbrev pub rises : List Receipt → Bool
rises list = ascending (map (λ r. r.index) list)

-- the entry at the receipt's place has its event and its reply
abbrev pub Stands : List Entry → Receipt → Type 0
Stands history r = slice_get history r.index ≡ Some (entry r.event r.reply)

abbrev pub AreStanding : List Entry → List Receipt → Type 0
AreStanding history list = AllByRecursion (Stands history) list

-- how often the place stands in the lists
abbrev pub standing : ℕ → List (List Receipt) → ℕ
standing k lists = sum_by (λ l. count_by (λ r. k == r.index) l) lists

-- each list's places rise, and its receipts stand in the history
abbrev pub AreGood : List Entry → List (List Receipt) → Type 0
AreGood history lists = AllByRecursion (λ l. (rises l ≡ true) × AreStanding history l) lists

-- The history is an interleaving of the lists. Places rise within each list, and the entry at each is the
-- receipt's event and reply. Each entry's place stands in exactly one list, once.
pub record Interleaves (history : List Entry) (lists : List (List Receipt)) : Type 0 where
  pub good : AreGood history lists
  pub once : (k : ℕ) → k < length history → standing k lists ≡ 1
