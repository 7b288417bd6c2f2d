use Rattle.std.proofs.Common.{◌≡◌, sym, subst, true}
use Rattle.std.specs.Prelude.{Option, IfSome}
use Rattle.ring_hints.specs.declared.kept_for.KeptFor.{KeptFor}
use Rattle.ring_hints.specs.Pairs.{is_pair}
use Rattle.ring_hints.proofs.KeeperSets.{at_place}
use Rattle.ring_hints.proofs.pairs.Pairs.nth.Goals as goal

pub returns-clause-some : goal.returns-clause-some
returns-clause-some c =
    let there = at_place c.args.self.now.order c.args.n in
    subst (λ (o : Option KeptFor). IfSome o (λ pair. is_pair c.args.self.now pair.keeper.0 pair.slot ≡ true)) (sym c.nth.ensures) there
