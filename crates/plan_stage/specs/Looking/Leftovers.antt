-- How the checker looks at a clause: the leftovers that a walk keeps.
use Rattle.std.specs.Prelude.{◌≡◌, List, [], ◌∷◌, Option, Some, None, IsSome}
use Rattle.ring_names.specs.declared.ids.NodeId.{NodeId}

-- the only node, or otherwise the others
abbrev pub nodes_of : Option NodeId → List NodeId → List NodeId
nodes_of (Some x) more = x ∷ []
nodes_of None more = more

-- beside an only node there are no others
abbrev pub IsAlone : Option NodeId → List NodeId → Type 0
IsAlone one more = IsSome one → more ≡ []
