-- The rule of a board, and what each atomic step tells its seat.
use Rattle.std.specs.Prelude.{◌≡◌, ◌≢◌, ◌==◌, ℕ, ◌+◌, ◌<◌, ◌≤◌, true, List, [], Option, length, slice_index, sum_by, if◌then◌else◌}
use mathlib.Core.Option.{some}
use lib.ListN.{get_elem?}
use Rattle.atomic_table.specs.Table.{State, Me, Step}
use Rattle.ring_names.specs.Lists.{has}
use Rattle.ring_board.specs.declared.view.Mark.{Mark}
use Rattle.ring_board.specs.declared.view.Size.{Size}
use Rattle.ring_board.specs.declared.view.View.{View}
use Rattle.ring_board.specs.Seats.{parts}
use Rattle.ring_board.specs.Words.{claimed, finished_word, IsWord}
use Rattle.ring_board.specs.Views.{marked, with_held, without_held, with_finished, with_known, with_seen}

-- once if the numbers are the same, and otherwise never
abbrev pub once : ℕ → ℕ → ℕ
once m n = if m == n then 1 else 0

-- the word of step k, which stands behind the spare one
abbrev pub word_of : List ℕ → ℕ → ℕ
word_of words k = slice_index words (k + 1)

-- over these lists of all views, each step stands as a worker's once if its word says so, and otherwise never
abbrev pub Matches : (View → List Mark) → (ℕ → ℕ) → List ℕ → List View → Type 0
Matches list says words views = (k w : ℕ) → w < 65 → sum_by (λ v. marked k w (list v)) views ≡ once (word_of words k) (says w)

-- how much of the board the parts are, in parts of 2 ^ d
abbrev pub amount : ℕ → List ℕ → ℕ
amount d es = sum_by (λ e. parts d e) es

-- The rule. No slot of the table is used: there is one for each worker, so the table's identity fixes their number. All
-- views together have the board at most once, and one that has no part of it has no step
pub record Kept (size : Size) (s : State (Option (Unit {0})) View) : Type 0 where
  pub spare : slice_index s.words 0 ≡ 0
  pub count : length s.words ≡ size.steps + 1
  pub words : (k : ℕ) → IsWord size.workers (word_of s.words k)
  pub held : Matches (λ v. v.held) claimed s.words s.views
  pub finished : Matches (λ v. v.finished) finished_word s.words s.views
  pub known : (id : ℕ) (v : View) → get_elem? s.views id ≡ some v → (k : ℕ) → has k v.known ≡ true → 128 ≤ word_of s.words k
  pub once_all : (d : ℕ) → sum_by (λ v. amount d v.parts) s.views ≤ parts d 0
  pub spent : (id : ℕ) (v : View) → get_elem? s.views id ≡ some v → v.parts ≡ [] → (v.held ≡ []) × (v.finished ≡ [])

-- the word of step k is as the view says of it
pub record Sees (v : View) (k word : ℕ) : Type 0 where
  pub held : (w : ℕ) → w < 65 → marked k w v.held ≤ once word (claimed w)
  pub finished : (w : ℕ) → w < 65 → marked k w v.finished ≤ once word (finished_word w)
  pub known : has k v.known ≡ true → 128 ≤ word

-- a seat, as the table knows it
abbrev pub Knower : Type 0
Knower = Me (Option (Unit {0})) View

-- an atomic step on the table
abbrev pub Turn : Type 0
Turn = Step (Option (Unit {0}))

-- what a claim of step k by worker w finds: the claim wins if the step is free. Otherwise only the word was seen
pub record Claims (slots : ℕ) (m : Knower) (k w word : ℕ) (after : Knower) : Type 0 where
  pub proper : IsWord slots word
  pub sees : Sees m.0 k word
  pub won : word ≡ 0 → after ≡ (with_held k w m.0, m.1)
  pub taken : word ≢ 0 → after ≡ (with_seen k word m.0, m.1)

-- what a look at step k finds: a step that is finished is known done from then on
pub record Looks (m : Knower) (k word : ℕ) (after : Knower) : Type 0 where
  pub sees : Sees m.0 k word
  pub done : 128 ≤ word → after ≡ (with_known k m.0, m.1)
  pub undone : word < 128 → after ≡ m

-- a compare-exchange is a claim
abbrev pub claims : Turn → Knower → ℕ → Knower → Type 0
claims t m word after = (k w : ℕ) → t.word ≡ k + 1 → t.second ≡ claimed w → Claims t.slots m k w word after

-- a step that was held is free
abbrev pub gives_back : Turn → Knower → ℕ → Knower → Type 0
gives_back t m word after = (k : ℕ) → t.word ≡ k + 1 → after ≡ (without_held k m.0, m.1)

-- a step that worker w held is finished
abbrev pub finishes : Turn → Knower → ℕ → Knower → Type 0
finishes t m word after = (k w : ℕ) → t.word ≡ k + 1 → word ≡ finished_word w → after ≡ (with_finished k w m.0, m.1)

-- a load is a look
abbrev pub looks : Turn → Knower → ℕ → Knower → Type 0
looks t m word after = (k : ℕ) → t.word ≡ k + 1 → Looks m k word after
