-- Pairs of a keeper and a slot, found by either.
use Rattle.std.specs.Prelude.{◌≡◌, ℕ, Bool, ◌&&◌, ◌==◌, List}
use Rattle.std.specs.List.{list_any}
use Rattle.std.specs.BTreeMap.{is_at}
use Rattle.std.specs.declared.cmp.Ordering.{Ordering}
use Rattle.std.proofs.Props.{props}
use Rattle.ring_names.specs.declared.ids.NodeId.{NodeId}
use Rattle.ring_names.specs.declared.ids.Slot.{Slot}
use Rattle.ring_names.specs.contracts.ids.NodeIdPartialEq.TheImpl as node_eq
use Rattle.ring_names.specs.contracts.ids.SlotPartialEq.TheImpl as slot_eq
use Rattle.ring_names.specs.contracts.ids.NodeIdOrd.TheImpl as node_order
use Rattle.ring_names.specs.contracts.ids.SlotOrd.TheImpl as slot_order
use Rattle.ring_hints.specs.contracts.kept_for.KeptForOrd.TheImpl as pair_order
use Rattle.ring_hints.specs.contracts.kept_for.KeptForPartialEq.TheImpl as pair_eq
use Rattle.ring_hints.specs.declared.kept_for.KeptFor.{KeptFor}
use Rattle.ring_hints.specs.declared.sets.Sets.{Sets}
use Rattle.ring_hints.specs.Sets.{set_at}

-- the node of that number, and the slot
abbrev pub pair_of : ℕ → Slot → KeptFor
pair_of x s = record { keeper = record { 0 = x }; slot = s }

-- the pair is that of the node and the slot
abbrev pub is_of : KeptFor → ℕ → Slot → Bool
is_of pair x s = (pair.keeper.0 == x) && ((pair.slot.partition == s.partition) && (pair.slot.index == s.index))

-- the order of the keepers, and at one keeper that of the slots
abbrev pub by_keeper : KeptFor → KeptFor → Ordering
by_keeper = (pair_order.ghosts).cmp

-- whether the pair is one of these
abbrev pub in_order : ℕ → Slot → List KeptFor → Bool
in_order x s pairs = list_any ((pair_eq.ghosts).eq (pair_of x s)) pairs

-- the slots of the node, and whether the slot is one of them
abbrev pub has_slot : Sets NodeId Slot → ℕ → Slot → Bool
has_slot slots x s = list_any (is_at ((slot_order.ghosts).cmp s)) (set_at ((node_eq.ghosts).eq) slots (record { 0 = x }))

-- whether the node is one of these
abbrev pub in_keepers : ℕ → List NodeId → Bool
in_keepers x nodes = list_any (is_at ((node_order.ghosts).cmp (record { 0 = x }))) nodes

-- whether the node is one of the slot's keepers
abbrev pub has_keeper : Sets Slot NodeId → ℕ → Slot → Bool
has_keeper keepers x s = in_keepers x (set_at ((slot_eq.ghosts).eq) keepers s)

-- the two have the same pairs as the order
abbrev pub AreViews : List KeptFor → Sets NodeId Slot → Sets Slot NodeId → Type 0
AreViews order slots keepers = (x : ℕ) (s : Slot) → (has_slot slots x s ≡ in_order x s order) × (has_keeper keepers x s ≡ in_order x s order)

pub AreViews-prop : (order : List KeptFor) (slots : Sets NodeId Slot) (keepers : Sets Slot NodeId) → IsProp (AreViews order slots keepers)
AreViews-prop order slots keepers = hlevel props
