use Rattle.std.proofs.Common.{rules}
use Rattle.ring_board.proofs.PutLines.{put_there}
use Rattle.ring_board.proofs.blocks.behind_put_line.Goals as goal

pub returns-in-Some-put_started-clause-some : goal.returns-in-Some-put_started-clause-some
returns-in-Some-put_started-clause-some c =
    let a = c.args in
    let start = c.in-Some-put_started.ensures.some in
    put_there a.asked.now a.line.now.writer a.line.now.key.now a.line.now.value.now a.line.now.seen.now a.list.now c.in-Some.later.now c.behind_put.result.now c.in-Some.start.now c.in-Some-put_started.put (search rules) (search rules)
    start.0 start.1 c.behind_put.ensures
