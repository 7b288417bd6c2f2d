use Rattle.std.proofs.Common.{◌≡◌, ◌<◌, ℕ, Some, slice_get, length}
use Rattle.ring_names.specs.Lists.{has}
use Rattle.plan_text.specs.Changes.{numbers}
use Rattle.plan_goal.proofs.dead.Dead.of.Given as goal

abbrev pub invariant-loop-number : goal.invariant-loop-number
invariant-loop-number l = record {
  full : length l.flags ≡ 1024;
  told : (x : ℕ) → x < l.number → slice_get l.flags x ≡ Some (has x (numbers l.nodes));
}
