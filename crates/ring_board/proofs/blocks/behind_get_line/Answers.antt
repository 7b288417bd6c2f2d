use Rattle.std.proofs.Common.{rules}
use Rattle.ring_board.proofs.GetLines.{get_there}
use Rattle.ring_board.proofs.blocks.behind_get_line.Goals as goal

pub returns-clause-some : goal.returns-clause-some
returns-clause-some c =
    let a = c.args in
    let start = c.in-Some-get_started.ensures.some in
    get_there a.asked.now.items a.key.now a.list.now c.in-Some.later.now c.behind_end-ended.result.1.now c.push.new.self.items c.in-Some.start.now c.in-Some-get_started.number c.behind_end-ended.result.0
    (search rules) start.0 start.1 (search rules) (search rules) (search rules)
