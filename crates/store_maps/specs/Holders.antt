-- Which nodes have something of which keys.
use Rattle.std.specs.Prelude.{ℕ, Bool, List, [], Option, Some, None}
use Rattle.std.specs.List.{list_any}
use Rattle.std.specs.BTreeMap.{is_at}
use Rattle.std.specs.BTreeSet.{BTreeSet}
use Rattle.std.specs.declared.cmp.Ordering.{Ordering}
use Rattle.ring_names.specs.declared.ids.NodeId.{NodeId}
use Rattle.ring_names.specs.contracts.ids.NodeIdOrd.TheImpl as node_order
use Rattle.store_maps.specs.contracts.key_id.KeyIdOrd.TheImpl as key_order
use Rattle.store_maps.specs.declared.holders.Holders.{Holders}
use Rattle.store_maps.specs.declared.key_id.KeyId.{KeyId}
use Rattle.store_maps.specs.Sorted.{value_by}

-- whether the node is one of these
abbrev pub is_among : ℕ → List NodeId → Bool
is_among x nodes = list_any (is_at ((node_order.ghosts).cmp (record { 0 = x }))) nodes

-- the nodes of the set, or none without a set
abbrev pub nodes_in : Option (BTreeSet NodeId) → List NodeId
nodes_in None = []
nodes_in (Some nodes) = nodes.keys

-- the order of keys: by chunk, and by number in a chunk
abbrev pub key_cmp : KeyId → KeyId → Ordering
key_cmp = (key_order.ghosts).cmp

-- the nodes of the key, ascending by number
abbrev pub holders_at : Holders → KeyId → List NodeId
holders_at a k = nodes_in (value_by key_cmp a.sets.entries k)

-- whether the node is one of the key's
abbrev pub holds : Holders → KeyId → ℕ → Bool
holds a k x = is_among x (holders_at a k)
