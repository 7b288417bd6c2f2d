use Rattle.std.proofs.Common.{rules}
use Rattle.ring_table.specs.Reading.{row_at}
use Rattle.ring_table.proofs.row.judge.Goals as goal

pub returns-then-not-are_members : goal.returns-then-not-are_members
unfolding row_at
returns-then-not-are_members c = search rules
