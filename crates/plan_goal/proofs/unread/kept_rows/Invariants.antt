use Rattle.std.proofs.Common.{◌≡◌}
use Rattle.plan_goal.specs.UnreadKept.{kept_rows}
use Rattle.plan_goal.proofs.unread.kept_rows.Given as goal

abbrev pub invariant-rows : goal.invariant-rows
invariant-rows l = l.rows.items ≡ kept_rows l.reads l.dead.nodes.now l.before l.after l.partition
