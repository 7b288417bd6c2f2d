use Rattle.ring_versions.proofs.Raised.{joined}
use Rattle.ring_versions.proofs.joining.+join_of.Goals as goal

pub returns-in_ok-join_of-in_default-2-clause-ok : goal.returns-in_ok-join_of-in_default-2-clause-ok
returns-in_ok-join_of-in_default-2-clause-ok t c =
    joined c.join.result c.in_ok-join_of-in_default.field-0 c.in_ok-join_of-in_default-2.field-0 c.split_at.result.0.now c.split_at.result.1.now c.args.versions.now c.split_at.ensures.by_index.0 (c.in_ok-join_of-in_default.ensures).ok (c.in_ok-join_of-in_default-2.ensures).ok c.join.ensures.counters
