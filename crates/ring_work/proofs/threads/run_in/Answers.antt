use Rattle.std.proofs.Common.{◌+◌}
use Rattle.ring_work.proofs.threads.run_in.Goals as goal

pub returns-clause-spent : goal.returns-clause-spent
returns-clause-spent g c = λ s. c.join_clients-left.ensures.spent (c.join_handoffs-left.ensures.spent (c.share.ensures.spent s))

pub returns-clause-turned : goal.returns-clause-turned
returns-clause-turned g c = λ turn all. (
    let handed = c.join_handoffs-left.ensures.complete (c.share.ensures.complete all) in
    let worked = c.join_workers-left.ensures.complete (c.join_clients-left.ensures.complete handed) in
    let started = c.start_clients-refused.ensures.served (c.note_start.ensures.complete worked) turn.0 turn.1 turn.2 turn.3 in
    c.join_clients-left.ensures.passed handed (64 + turn.0) turn.1 started turn.4)
