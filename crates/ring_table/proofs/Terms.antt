-- What the texts of rings, and of what is planned over them, speak of.
pub use Rattle.ring_names.specs.Lists.{has, all_different, AllNew}
pub use Rattle.ring_names.specs.Names.{place}
pub use Rattle.ring_names.specs.declared.ids.NodeId.{NodeId}
pub use Rattle.ring_names.specs.declared.ids.Slot.{Slot}
pub use Rattle.ring_names.proofs.Places.{place-get, get-place, place-below}
pub use Rattle.ring_table.specs.declared.node.Node.{Node}
pub use Rattle.ring_table.specs.declared.allowance.Allowance.{Allowance}
pub use Rattle.ring_table.specs.declared.allowance.Allowance.TheVariants.{Joint, Split}
pub use Rattle.ring_table.specs.declared.allowance.Side.{Side}
pub use Rattle.ring_table.specs.declared.allowance.Side.TheVariants.{Both, Take, Give}
pub use Rattle.ring_table.specs.Value.{RingValue, names_of, is_member, most_of, allowance_of}
pub use Rattle.ring_table.specs.Valid.{IsRing, IsNode, IsAllowance}
pub use Rattle.ring_table.specs.Spelling.{name_at, row_fields, rows_lines}
pub use Rattle.ring_table.specs.Reading.{judge_declared, owners_at}
