use Rattle.std.proofs.Common.{◌≡◌, map, take}
use Rattle.ringplan_command.proofs.naming.names_of.Given as goal

abbrev pub invariant-loop-text : goal.invariant-loop-text
invariant-loop-text l = map (λ name. name.items) l.names.items ≡ map (λ text. text.now) (take l.text-index l.texts)
