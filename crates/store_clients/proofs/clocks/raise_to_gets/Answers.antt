use Rattle.store_parts.specs.GetsMeet.{found_at}
use Rattle.store_clients.specs.Clocks.{IsFoundClock}
use Rattle.store_clients.proofs.ClocksRaised.{raised_none, raised_all, none_found, get_raised}
use Rattle.store_clients.proofs.clocks.raise_to_gets.Goals as goal

pub gets-init : goal.gets-init
gets-init c = raised_none c.args.clock.now (IsFoundClock (found_at c.args.gets.now) c.args.seen.now)

pub gets-preserved : goal.gets-preserved
gets-preserved c =
    get_raised c.args.clock.now c.gets.clock c.raise_to_get.new.clock (found_at c.args.gets.now) c.args.seen.now c.gets.rest.now c.in-Some.later.now c.in-Some.get.now (c.in-Some.ensures).cases.0
    (c.in_ok-raise_to_get.ensures).ok c.gets.invariant

pub returns-clause-ok : goal.returns-clause-ok
returns-clause-ok c =
    raised_all c.args.clock.now c.gets.clock (IsFoundClock (found_at c.args.gets.now) c.args.seen.now) (IsFoundClock (found_at c.args.gets.now) c.gets.rest.now)
    (none_found (found_at c.args.gets.now) c.gets.rest.now (c.in_default.ensures).cases) c.gets.invariant
