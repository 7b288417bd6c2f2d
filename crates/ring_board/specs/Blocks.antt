-- The receipts of a client, in blocks for the lines of its script.
use Rattle.std.specs.Prelude.{◌≡◌, ◌⊎◌, ℕ, ◌≤◌, Bool, true, false, ◌&&◌, List, [], ◌∷◌, ◌++◌, map, length, Some, None, slice_get, cond, ◌↔◌}
use Rattle.std.specs.List.{list_all}
use Rattle.std.specs.Str.{bytes_eq}
use Rattle.plan_runs.specs.declared.event.Event.{Event}
use Rattle.plan_runs.specs.declared.event.Event.TheVariants as event
use Rattle.plan_runs.specs.declared.event.Reply.TheVariants as reply
use Rattle.ring_board.specs.declared.receipt.Receipt.{Receipt}
use Rattle.ring_board.specs.declared.asked.Asked.{Asked}
use Rattle.ring_board.specs.Kinds as kinds

-- the number that the script's n-th get was answered; 0 if there is none
abbrev pub number_at : List Asked → ℕ → ℕ
number_at asked n = elim (slice_get asked n) [ Some a ↦ a.number | None ↦ 0 ]

-- the numbers of those gets
abbrev pub numbers_of : List Asked → List ℕ → List ℕ
numbers_of asked seen = map (λ n. number_at asked n) seen

-- each is an earlier get of the script, of that key, whose block has its end
abbrev pub are_ended : List Asked → List ℕ → List ℕ → Bool
are_ended asked key seen = list_all (λ n. elim (slice_get asked n) [ Some a ↦ bytes_eq a.key key && a.ended | None ↦ false ]) seen

-- that event, which starts a put, writes and hints of the put, and at most one acknowledgement of it
pub record IsPut (begin : Event) (block : List Receipt) : Type 0 where
  pub start : Receipt
  pub number : ℕ
  pub sent : List Receipt
  pub acks : List Receipt
  pub joined : block ≡ start ∷ (sent ++ acks)
  pub event : start.event ≡ begin
  pub reply : start.reply ≡ reply.Put number
  pub are_sent : list_all (λ r. kinds.sends number r.event) sent ≡ true
  pub are_acks : list_all (λ r. kinds.acknowledges number r.event) acks ≡ true
  pub few : length acks ≤ 1

-- the start of a get for that key, its reads, and its end or none
pub record IsGet (key : List ℕ) (a : Asked) (block : List Receipt) : Type 0 where
  pub start : Receipt
  pub reads : List Receipt
  pub ends : List Receipt
  pub joined : block ≡ start ∷ (reads ++ ends)
  pub event : start.event ≡ event.StartGet key
  pub reply : start.reply ≡ reply.Get a.number
  pub of_key : a.key ≡ key
  pub are_reads : list_all (λ r. kinds.reads a.number r.event) reads ≡ true
  pub are_ends : list_all (λ r. kinds.ends a.number r.event) ends ≡ true
  pub ended : length ends ≡ cond a.ended 1 0

-- that event, or nothing
abbrev pub IsOne : Event → List Receipt → Type 0
IsOne e block = (block ≡ []) ⊎ ((r : Receipt) × (block ≡ r ∷ []) × (r.event ≡ e))

-- A line's block, with the script's gets in front of the line and behind it. A put's block is empty exactly if
-- the put names a get that does not fit. Such a get is not an earlier one of the script, is of another key or
-- has no end.
abbrev pub IsBlock : List Asked → Event → List Receipt → List Asked → Type 0
IsBlock asked (event.StartPut w k v s) block after = (after ≡ asked) × (((are_ended asked k s ≡ true) × IsPut (event.StartPut w k v (numbers_of asked s)) block) ⊎ ((are_ended asked k s ≡ false) × (block ≡ [])))
IsBlock asked (event.StartGet k) block after = (a : Asked) × (after ≡ asked ++ a ∷ []) × IsGet k a block
IsBlock asked (event.Down x) block after = (after ≡ asked) × IsOne (event.Down x) block
IsBlock asked (event.Up x) block after = (after ≡ asked) × IsOne (event.Up x) block
IsBlock asked line block after = ⊥

-- one block for each line, in order, one behind the other
abbrev pub AreBlocks : List Asked → List Event → List Receipt → Type 0
AreBlocks asked [] list = list ≡ []
AreBlocks asked (line ∷ lines) list =
    (block rest : List Receipt) × (after : List Asked) × (list ≡ block ++ rest) × IsBlock asked line block after × AreBlocks after lines rest

-- the receipts are those of the script's client
abbrev pub IsClient : List Event → List Receipt → Type 0
IsClient script list = AreBlocks [] script list

-- a node goes down or comes up
abbrev pub turns_a_node : Event → Bool
turns_a_node (event.Down x) = true
turns_a_node (event.Up x) = true
turns_a_node e = false

-- the list is one of blocks exactly if what is left of it behind the line's block is
abbrev pub Leaves : List Asked → Event → List Receipt → List Receipt → List Asked → Type 0
Leaves asked line list rest after = (lines : List Event) → AreBlocks asked (line ∷ lines) list ↔ AreBlocks after lines rest

-- no block of the line is at the front of the list
abbrev pub HasNoBlock : List Asked → Event → List Receipt → Type 0
HasNoBlock asked line list = (lines : List Event) → AreBlocks asked (line ∷ lines) list → ⊥
