use Rattle.std.proofs.Common.{◌≡◌, ◌<◌, ℕ, ◌+◌, sym, refl, subst, arith}
use Rattle.std.specs.Prelude.{Option, IfSome}
use Rattle.ring_names.specs.declared.ids.Slot.{Slot}
use Rattle.plan_text.specs.Steps.{is_slot}
use Rattle.ring_hints.specs.Hints.{hinted_at}
use Rattle.store_parts.specs.declared.slots.SlotNow.{SlotNow}
use Rattle.store_events.specs.Groups.{RaisesGroups}
use Rattle.store_events.proofs.GroupsRaised.{in_row, none_raised, more_raised, row_none, row_at, row_next, row_more}
use Rattle.store_events.proofs.groups.raise_partition.Goals as goal

pub indexes-init : goal.indexes-init
indexes-init c = none_raised (hinted_at c.args.hints.now) c.args.node.0 (in_row c.args.partition 0) c.args.slots.now (row_none c.args.partition)

pub raise_group-requires : goal.raise_group-requires
raise_group-requires c =
    let slot : Slot = record { partition = c.args.partition; index = c.indexes.index } in
    subst (λ (o : Option SlotNow). IfSome o (λ x. x.generation < 4294967295)) (sym (c.indexes.invariant.others slot (row_at c.args.partition c.indexes.index))) (c.requires slot refl)

pub indexes-preserved : goal.indexes-preserved
indexes-preserved c =
    let p = c.args.partition in
    let i = c.indexes.index in
    more_raised (hinted_at c.args.hints.now) c.args.node.0 (in_row p i) (λ t. is_slot (record { partition = p; index = i }) t) (in_row p (i + 1)) c.args.slots.now c.indexes.slots c.raise_group.new.slots
    c.indexes.invariant c.raise_group.ensures (row_next p i) (row_more p i)

pub returns : goal.returns
returns c =
    let e : c.indexes.index ≡ c.args.n = omega arith in
    subst (λ (i : ℕ). RaisesGroups (hinted_at c.args.hints.now) c.args.node.0 (in_row c.args.partition i) c.args.slots.now c.indexes.slots) e c.indexes.invariant
