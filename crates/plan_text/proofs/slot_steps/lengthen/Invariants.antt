use Rattle.std.proofs.Common.{◌≡◌, ℕ, ◌-◌, vec_len}
use Rattle.plan_text.specs.SlotSteps.{list_at}
use Rattle.plan_text.proofs.slot_steps.lengthen.Given as goal

abbrev pub invariant-lists : goal.invariant-lists
invariant-lists l = (k : ℕ) → list_at l.lists.items k ≡ list_at l.fn.lists.items k

abbrev pub decreases-lists : goal.decreases-lists
decreases-lists l = l.count - vec_len l.lists
