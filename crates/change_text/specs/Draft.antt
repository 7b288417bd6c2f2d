-- A change that was read in part, with marks of the nodes that it names.
use Rattle.std.specs.Prelude.{◌≡◌, Bool, ◌||◌, map}
use Rattle.ring_names.specs.Lists.{has}
use Rattle.ring_names.specs.declared.ids.NodeId.{NodeId}
use Rattle.change_text.specs.Marks.{is_marked}
use Rattle.change_text.specs.declared.change.Change.{Change}
use Rattle.change_text.specs.declared.draft.Draft.TheInside.{Inside}

-- whether a join or a leave names the node
abbrev pub names : Change → NodeId → Bool
names v x = has x.0 (map (λ y. y.0) v.joins) || has x.0 (map (λ y. y.0) v.leaves)

-- what was read
abbrev pub drafted : Inside → Change
drafted a = record { joins = a.joins.items; leaves = a.leaves.items }

-- just the nodes that are named are marked
abbrev pub HasMarks : Inside → Type 0
HasMarks a = (x : NodeId) → is_marked a.named x.0 ≡ names (drafted a) x
