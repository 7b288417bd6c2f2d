use Rattle.std.proofs.Common.{map}
use Rattle.ring_table.proofs.RowLaws.{rows-step}
use Rattle.ring_script.proofs.playing.push_owners.Goals as goal

pub loop-partition-preserved : goal.loop-partition-preserved
loop-partition-preserved c = rows-step (map (λ y. y.name) c.args.nodes.now) c.args.rows.now c.loop-partition.partition c.as_slice.result.now c.index-rows-partition.result c.args.out.now.items c.loop-partition.out.items c.push_row.new.out.items
    c.loop-partition-test.true c.index-rows-partition.is c.as_slice.ensures c.loop-partition.invariant c.in_ok-push_row.ensures
