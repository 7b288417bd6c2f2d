use Rattle.std.proofs.Common.{◌+◌, arith}
use Rattle.plan_check.proofs.Shared.{first-within}
use Rattle.plan_check.proofs.shares.work_share.Goals as goal

pub check_share-requires-clause-partitions : goal.check_share-requires-clause-partitions
check_share-requires-clause-partitions g c =
    rw (c.first_partition-to.ensures, (c.q-2.ensures).value) (first-within c.args.context.now.ring.now.q c.args.shares (c.args.share + 1) (omega arith) (omega arith))
