use Rattle.std.proofs.Common.{◌≡◌, ◌++◌, ◌∷◌, map, take}
use Rattle.std.specs.List.{flat_map}
use Rattle.ring_table.specs.Spelling.{name_at}
use Rattle.ring_table.proofs.writing.push_owners.Given as goal

abbrev pub invariant-loop-owner : goal.invariant-loop-owner
invariant-loop-owner l = l.out.items ≡ l.fn.out.items ++ flat_map (λ x. 32 ∷ name_at (map (λ y. y.name) l.nodes) x) (take l.owner-index l.row)
