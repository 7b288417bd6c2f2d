use Rattle.std.proofs.Common.{◌≡◌, ◌∙◌, ℕ, List, length, ap, arith}
use Rattle.ring_names.specs.declared.ids.NodeId.{NodeId}
use Rattle.ring_table.specs.Value.{RingValue}
use Rattle.plan_runs.specs.World.{slot_at}
use Rattle.store_parts.specs.Parts.{kept_of}
use Rattle.ring_core.specs.Tables.{values_below, table_of, owner_kept}
use Rattle.ring_core.specs.World.{ring_of, plan_of}
use Rattle.ring_core.proofs.SlotOwners.{length_values, table_told, table_last}
use Rattle.ring_core.proofs.world.World.table.Goals as goal

-- the rows are the table of the kept owners
rows_are : (c : goal.After-loop-partition) → c.loop-partition.rows.items ≡ table_of (ring_of c.args.self.now) (owner_kept (kept_of c.args.self.now.parts))
rows_are c =
    let all : c.loop-partition.partition ≡ c.q-q.result = (let a = c.loop-partition-test.false in let b = c.loop-partition.auto.partition-end in omega arith) in
    let q : c.loop-partition.partition ≡ (ring_of c.args.self.now).q = all ∙ (c.q-q.ensures.value ∙ ap (λ (r : RingValue). r.q) c.ring.ensures.value) in
    c.loop-partition.invariant ∙ ap (λ (n : ℕ). values_below {A = List NodeId} n (λ p. values_below (ring_of c.args.self.now).n (λ i. owner_kept (kept_of c.args.self.now.parts) (slot_at p i)))) q

-- src/reads.rt:82:5
pub returns-clause-now : goal.returns-clause-now
returns-clause-now c w m = rows_are c ∙ table_told (ring_of c.args.self.now) (plan_of c.args.self.now) (kept_of c.args.self.now.parts) w m

-- src/reads.rt:82:5
pub returns-clause-last : goal.returns-clause-last
returns-clause-last c w m all = rows_are c ∙ (table_told (ring_of c.args.self.now) (plan_of c.args.self.now) (kept_of c.args.self.now.parts) w m ∙ table_last (ring_of c.args.self.now) (plan_of c.args.self.now) w all)

-- src/reads.rt:82:5
pub returns-clause-size : goal.returns-clause-size
returns-clause-size c = ap (λ (rows : List (List NodeId)). length rows) (rows_are c) ∙ length_values {A = List NodeId} (ring_of c.args.self.now).q _
