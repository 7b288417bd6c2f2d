use Rattle.std.proofs.Common.{◌≡◌, ℕ, ◌<◌, Some}
use Rattle.std.specs.Prelude.{slice_get}
use Rattle.ring_names.specs.declared.ids.Slot.{Slot}
use Rattle.plan_around.specs.Ending.{SlotStays}
use Rattle.plan_around.proofs.ending.slots_stay.Given as goal

abbrev pub invariant-loop-index : goal.invariant-loop-index
invariant-loop-index l = (i : ℕ) → i < l.index → (s : Slot) → slice_get l.it.left.now i ≡ Some s → SlotStays l.it s
