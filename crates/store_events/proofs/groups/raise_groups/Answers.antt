use Rattle.std.proofs.Common.{◌≡◌, ◌<◌, ℕ, ◌+◌, ◌∙◌, sym, subst, arith}
use Rattle.std.specs.Prelude.{Option, IfSome}
use Rattle.ring_hints.specs.Hints.{hinted_at}
use Rattle.store_parts.specs.declared.slots.SlotNow.{SlotNow}
use Rattle.store_events.specs.Groups.{RaisesGroups}
use Rattle.store_events.proofs.GroupsRaised.{in_row, in_rows, none_raised, more_raised, rows_none, rows_at, rows_next, rows_more}
use Rattle.store_events.proofs.groups.raise_groups.Goals as goal

pub partitions-init : goal.partitions-init
partitions-init c = none_raised (hinted_at c.args.hints.now) c.args.node.0 (in_rows 0 c.n-n.result) c.args.slots.now (rows_none c.n-n.result)

pub raise_partition-requires : goal.raise_partition-requires
raise_partition-requires c t e =
    subst (λ (o : Option SlotNow). IfSome o (λ x. x.generation < 4294967295)) (sym (c.partitions.invariant.others t (rows_at c.partitions.partition c.n-n.result t e))) (c.requires t)

pub partitions-preserved : goal.partitions-preserved
partitions-preserved c =
    let p = c.partitions.partition in
    let n = c.n-n.result in
    more_raised (hinted_at c.args.hints.now) c.args.node.0 (in_rows p n) (in_row p n) (in_rows (p + 1) n) c.args.slots.now c.partitions.slots c.raise_partition.new.slots
    c.partitions.invariant c.raise_partition.ensures (rows_next p n) (rows_more p n)

pub returns : goal.returns
returns c =
    let p : c.partitions.partition ≡ c.args.ring.now.q = (let f : c.partitions.partition ≡ c.q-partition-end.result = omega arith in f ∙ c.q-partition-end.ensures.value) in
    let n : c.n-n.result ≡ c.args.ring.now.n = c.n-n.ensures.value in
    let first = subst (λ (i : ℕ). RaisesGroups (hinted_at c.args.hints.now) c.args.node.0 (in_rows i c.n-n.result) c.args.slots.now c.partitions.slots) p c.partitions.invariant in
    subst (λ (i : ℕ). RaisesGroups (hinted_at c.args.hints.now) c.args.node.0 (in_rows c.args.ring.now.q i) c.args.slots.now c.partitions.slots) n first
