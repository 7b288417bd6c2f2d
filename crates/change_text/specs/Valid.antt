-- Which changes a text can say of a ring.
use Rattle.std.specs.Prelude.{◌≡◌, Bool, true, not, ◌&&◌, nat_lt, length, map}
use Rattle.std.specs.List.{list_all}
use Rattle.ring_names.specs.Lists.{all_different}
use Rattle.ring_names.specs.declared.ids.NodeId.{NodeId}
use Rattle.ring_table.specs.Value.{RingValue, is_member}
use Rattle.change_text.specs.declared.change.Change.{Change}

-- the ring declares the node
abbrev pub is_declared : RingValue → NodeId → Bool
is_declared ring x = nat_lt x.0 (length ring.nodes)

-- a declared node that is not a member
abbrev pub may_join : RingValue → NodeId → Bool
may_join ring x = is_declared ring x && not (is_member ring.nodes x)

-- a declared node that is a member
abbrev pub may_leave : RingValue → NodeId → Bool
may_leave ring x = is_declared ring x && is_member ring.nodes x

-- nodes that are not members join, members leave, and none is named twice
pub record IsChange (ring : RingValue) (v : Change) : Type 0 where
  pub joins : list_all (may_join ring) v.joins ≡ true
  pub leaves : list_all (may_leave ring) v.leaves ≡ true
  pub joins_differ : all_different (map (λ x. x.0) v.joins) ≡ true
  pub leaves_differ : all_different (map (λ x. x.0) v.leaves) ≡ true
