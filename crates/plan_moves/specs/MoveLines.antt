-- The lines of a plan's moves.
use Rattle.std.specs.Prelude.{ℕ, ◌+◌, Bool, false, not, ◌&&◌, nat_lt, List, [], ◌∷◌, ◌++◌, map, length, slice_get, codes, Some, None, is_some}
use Rattle.std.specs.List.{filter, list_any, take_while, range_with_len}
use Rattle.serde_json.specs.Data.{Data, array, object, member, no_members}
use Rattle.serde_json.specs.View.{items_of}
use Rattle.serde_json.specs.Written.{compact_text}
use Rattle.ring_names.specs.declared.ids.Slot.{Slot}
use Rattle.ring_names.specs.Lists.{has}
use Rattle.ring_table.specs.Value.{RingValue, names_of}
use Rattle.plan_text.specs.declared.step.Planned.{Planned}
use Rattle.plan_text.specs.Steps.{steps_of, depends, mirror_of}
use Rattle.plan_moves.specs.declared.movement.Move.{Move}
use Rattle.plan_moves.specs.Moves.{moves}
use Rattle.plan_moves.specs.Lines.{number_data, node_data}

-- whether step n sets a mirror
abbrev pub sets_mirror : List Planned → ℕ → Bool
sets_mirror plan n = elim (slice_get plan n) [ Some x ↦ is_some (mirror_of x.step) | None ↦ false ]

-- the steps of a move: the one that sets its mirror, and the slot's later steps up to the next mirror
abbrev pub move_steps : List Planned → Move → List ℕ
move_steps plan m = m.mirror ∷ take_while (λ s. not (sets_mirror plan s)) (filter (λ s. nat_lt m.mirror s) (steps_of plan m.slot))

-- whether one of these steps directly waits for step n, which is none of them
abbrev pub is_awaited : List Planned → List ℕ → ℕ → Bool
is_awaited plan steps n = list_any (λ s. depends plan n s) steps && not (has n steps)

-- the numbers of the steps for which these wait, ascending
abbrev pub move_after : List Planned → List ℕ → List ℕ
move_after plan steps = filter (is_awaited plan steps) (range_with_len 0 (length plan))

-- a move's object: the steps that must be done before, the number, the own steps, the slot, the slot's owner
-- and the mirror. The members stand by name
abbrev pub move_object : List ℕ → ℕ → List ℕ → Slot → Data → Data → Data
move_object after k steps s from to = object (member (codes "after") (array (items_of (map number_data after))) (member (codes "from") from
    (member (codes "move") (number_data k) (member (codes "partition") (number_data s.partition) (member (codes "slot") (number_data s.index)
    (member (codes "steps") (array (items_of (map number_data steps))) (member (codes "to") to no_members)))))))

-- move k
abbrev pub move_data : List (List ℕ) → List Planned → ℕ → Move → Data
move_data names plan k m = move_object (move_after plan (move_steps plan m)) k (move_steps plan m) m.slot (node_data names m.from) (node_data names m.to)

-- the lines of moves, the first of which has number k
abbrev pub move_lines : List (List ℕ) → List Planned → ℕ → List Move → List ℕ
move_lines names plan k [] = []
move_lines names plan k (m ∷ ms) = (compact_text (move_data names plan k m) ++ 10 ∷ []) ++ move_lines names plan (k + 1) ms

-- the lines of a plan's moves, in the order of their mirrors
abbrev pub moves_text : RingValue → List Planned → List ℕ
moves_text ring plan = move_lines (names_of ring) plan 0 (moves ring plan)
