use Rattle.std.proofs.Common.{arith}
use Rattle.std.proofs.lemmas.Grind.{common_steps}
use Rattle.ring_table.specs.Valid.{is_quorum}
use Rattle.ring_table.proofs.head.is_quorum.Goals as goal

pub returns-then-w-n : goal.returns-then-w-n
unfolding is_quorum
returns-then-w-n c = grind (arith, common_steps)
