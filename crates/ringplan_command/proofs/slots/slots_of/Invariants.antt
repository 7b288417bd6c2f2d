use Rattle.std.proofs.Common.{map, take}
use Rattle.ringplan_command.specs.Slots.{AreSlots}
use Rattle.ringplan_command.proofs.slots.slots_of.Given as goal

abbrev pub invariant-loop-text : goal.invariant-loop-text
invariant-loop-text l = AreSlots (map (λ text. text.now) (take l.text-index l.texts)) l.slots.items
