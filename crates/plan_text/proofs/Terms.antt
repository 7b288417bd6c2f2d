-- What the text of a plan speaks of.
pub use Rattle.ring_table.proofs.Terms.{has, all_different, place, NodeId, Slot, RingValue, names_of, is_member, IsRing, name_at}
pub use Rattle.plan_text.specs.declared.step.Step.{Step}
pub use Rattle.plan_text.specs.declared.step.Step.TheVariants.{Join, Mirror, Copy, Switch, Drop, Retire}
pub use Rattle.plan_text.specs.declared.step.Source.{Source}
pub use Rattle.plan_text.specs.declared.step.Source.TheVariants.{Owner, Slots}
pub use Rattle.plan_text.specs.declared.step.Planned.{Planned}
pub use Rattle.plan_text.specs.Reading.{planned_of}
pub use Rattle.plan_text.specs.Steps.{dependencies, joins, retires, joined, retired, is_on, steps_of}
pub use Rattle.plan_text.specs.Spelling.{kind_fields, after_fields, step_fields}
pub use Rattle.plan_text.specs.Valid.{IsPlanned, EachPlanned, IsPlan}
