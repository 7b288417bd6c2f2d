use Rattle.std.proofs.Common.{◌≡◌, ◌<◌, ◌≤◌, vec_len}
use Rattle.ring_board.specs.Finishing.{list_at}
use Rattle.ring_work.specs.Driven.{IsSpent}
use Rattle.ring_work.proofs.driving.append_lists.Given as goal

abbrev pub invariant-loop-list : goal.invariant-loop-list
invariant-loop-list l = record {
  longer : vec_len l.fn.front ≤ vec_len l.all;
  first : 0 < vec_len l.fn.front → list_at l.all.items 0 ≡ list_at l.fn.front.items 0;
  spent : IsSpent l.met → IsSpent l.fn.met;
}
