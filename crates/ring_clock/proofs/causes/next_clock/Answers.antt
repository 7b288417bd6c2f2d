use Rattle.std.proofs.Common.{rules, [], get_or}
use Rattle.std.proofs.lemmas.Result.{IfOk-weaker}
use Rattle.ring_clock.specs.Built.{IsInput, IsNext, Bumps}
use Rattle.ring_clock.proofs.causes.next_clock.Goals as goal

pub returns-clause-ok : goal.returns-clause-ok
returns-clause-ok c =
    let writer = c.args.cause.now.writer.0 in
    let joined = c.raise_to_inputs.new.clock in
    IfOk-weaker c.bump.result (Bumps writer joined) (IsNext (λ v. get_or c.args.clocks.now v []) (IsInput c.args.cause.now c.args.last) writer) (λ k bumps. (joined, c.in_ok-raise_to_inputs.ensures.ok, bumps)) c.bump.ensures.counters

pub returns-clause-few : goal.returns-clause-few
returns-clause-few c = search rules
