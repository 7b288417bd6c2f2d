-- What leads from a ring to the ring that it should become.
use Rattle.std.specs.List.{flat_map}
use Rattle.std.specs.Prelude.{◌≡◌, ℕ, Bool, not, ◌&&◌, ◌||◌, ◌⊎◌, List, [], ◌∷◌, ◌++◌, Some, Ok, true, map, length, replicate, if◌then◌else◌}
use Rattle.ring_names.specs.declared.ids.NodeId.{NodeId}
use Rattle.ring_names.specs.Lists.{has}
use Rattle.ring_names.specs.Names.{place}
use Rattle.texts.specs.Left.{whole_text}
use Rattle.ring_table.specs.Value.{RingValue, names_of, is_member}
use Rattle.ring_table.specs.Changed.{changed}
use Rattle.change_text.specs.declared.change.Change.{Change}
use Rattle.change_text.specs.declared.wanted.Wanted.{Wanted}
use Rattle.change_text.specs.Wanted.{wanted_at}
use Rattle.plan_text.specs.Changes.{numbers}
use Rattle.plan_goal.specs.declared.reading.Goal.{Goal}
use Rattle.plan_goal.specs.Goals.{goal_at}
use Rattle.plan_goal.specs.declared.proposed.Proposed.{Proposed}
use Rattle.plan_goal.specs.Proposals.{front_text}
use Rattle.plan_goal.specs.Reached.{IsReached}
use Rattle.change_text.specs.declared.layout.Entry.{Entry}
use Rattle.change_text.specs.declared.layout.Fact.{Fact}
use Rattle.change_text.specs.declared.layout.Fact.TheVariants.{Dead}
use Rattle.change_text.specs.declared.options.Options.{Options}
use Rattle.change_text.specs.declared.options.Unreadable.{Unreadable}
use Rattle.change_text.specs.declared.options.Unreadable.TheVariants.{Refused, Left}
use Rattle.plan_goal.specs.Rings.{flags}
use Rattle.plan_goal.specs.UnreadKept.{without_unread}
use Rattle.plan_goal.specs.Sized.{IsSized, has_sizes, sizes_by, weights_by}

-- the plan is one of the ring that leads to the wanted one
abbrev pub LeadsFrom : RingValue → RingValue → List NodeId → Proposed → Type 0
LeadsFrom ring wanted dead p = (p.approved.ring ≡ ring) × IsReached ring wanted dead p.approved.plan p.cert

-- the nodes have these names, in their order
abbrev pub AreNamed : RingValue → List (List ℕ) → List NodeId → Type 0
AreNamed ring names nodes = map (place (names_of ring)) names ≡ map (λ x. Some x.0) nodes

-- the ring that is wanted, or if unread partitions are left, with their slots as they are
abbrev pub wanted_by : Unreadable → RingValue → List NodeId → RingValue → RingValue
wanted_by Refused ring dead wanted = wanted
wanted_by Left ring dead wanted = without_unread ring dead wanted

-- the plan leads from the first of the two rings of the bytes to the second, around the nodes of these names
abbrev pub IsGoalReached : List ℕ → Unreadable → List (List ℕ) → Proposed → Type 0
IsGoalReached bytes unreadable names p = (g : Goal) × (whole_text goal_at bytes ≡ Ok g) × (dead : List NodeId) × AreNamed g.ring names dead
    × LeadsFrom g.ring (wanted_by unreadable g.ring dead g.wanted) dead p

-- whether the node is a member once the change is made
abbrev pub is_changed_member : RingValue → Change → ℕ → Bool
is_changed_member ring change x = (is_member ring.nodes (record { 0 = x }) || has x (numbers change.joins)) && not (has x (numbers change.leaves))

-- these nodes, and after them each dead member that is none of them, once
abbrev pub leaves_too : RingValue → List NodeId → List NodeId → List NodeId
leaves_too ring [] leaves = leaves
leaves_too ring (x ∷ dead) leaves = leaves_too ring dead (if is_member ring.nodes x && not (has x.0 (numbers leaves)) then leaves ++ x ∷ [] else leaves)

-- the change in which each dead member leaves too
abbrev pub with_dead : RingValue → List NodeId → Change → Change
with_dead ring dead change = record { joins = change.joins; leaves = leaves_too ring dead change.leaves }

-- the second ring is the first one with the members that the change makes, and with other owners
abbrev pub HasChangedMembers : RingValue → Change → RingValue → Type 0
HasChangedMembers ring change wanted = (rows : List (List NodeId)) × (wanted ≡ changed ring rows (flags (is_changed_member ring change) (length ring.nodes)))

-- each slot of a ring may have its owner in the wanted one by the sizes and weights of these facts
abbrev pub IsSizedBy : RingValue → Change → List Entry → RingValue → Type 0
IsSizedBy ring change facts wanted = IsSized ring change.joins change.leaves (sizes_by (replicate ring.q 1) facts)
    (weights_by (names_of ring) (replicate (length ring.nodes) 1) facts) wanted

-- if the layout has sizes, each slot may have its owner by them
abbrev pub IsSizedAsAsked : Options → RingValue → Change → RingValue → Type 0
IsSizedAsAsked options ring change wanted = has_sizes options.layout.entries ≡ true → IsSizedBy ring change options.layout.entries wanted

-- the name of the node that a fact says is dead, if it says so
abbrev pub dead_named : Fact → List (List ℕ)
dead_named (Dead node) = node ∷ []
dead_named fact = []

-- the names of the nodes that are dead: those of the line, and those of the layout
abbrev pub dead_names : Options → List (List ℕ)
dead_names options = map (λ name. name.items) options.dead.items ++ flat_map (λ x. dead_named x.fact) options.layout.entries

-- the plan leads from the ring of the bytes to one with the members of their change, in which each dead member
-- leaves too. It goes around the nodes that are named dead, and by sizes if there are some
abbrev pub IsWishReached : List ℕ → Options → Proposed → Type 0
IsWishReached bytes options p = (w : Wanted) × (whole_text wanted_at bytes ≡ Ok w) × (wanted : RingValue) × (dead : List NodeId)
    × AreNamed w.ring (dead_names options) dead × HasChangedMembers w.ring (with_dead w.ring dead w.change) wanted
    × IsSizedAsAsked options w.ring (with_dead w.ring dead w.change) wanted × LeadsFrom w.ring (wanted_by options.unreadable w.ring dead wanted) dead p

-- the plan leads from the first ring of the bytes to another. That is the second of two rings, or one with the
-- members of a change
abbrev pub IsLed : List ℕ → Options → Proposed → Type 0
IsLed bytes options p = IsGoalReached bytes options.unreadable (dead_names options) p ⊎ IsWishReached bytes options p

-- the text is that of such a plan, between the texts of the ring and the certificate
abbrev pub IsLedText : List ℕ → Options → List ℕ → Type 0
IsLedText bytes options text = (p : Proposed) × IsLed bytes options p × (text ≡ front_text p.approved.ring p.approved.plan p.cert)
