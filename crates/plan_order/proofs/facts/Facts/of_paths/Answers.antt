use Rattle.std.proofs.Common.{◌∙◌, sym}
use Rattle.plan_order.specs.Facts.{some_leads}
use Rattle.plan_order.proofs.Reaching.{found}
use Rattle.plan_order.proofs.Keeping.{made}
use Rattle.plan_order.proofs.facts.Facts.of_paths.Goals as goal

pub returns-clause-ends : goal.returns-clause-ends
returns-clause-ends c = λ a b.
    made c.in_ok-ends.ends.items c.add_all_ends.new.ends.items c.sort_unstable.new.self.items c.in_ok-ends.ensures.items c.sort_unstable.ensures.permutation a b (some_leads a b c.args.paths.now) (c.in_ok-add_all_ends.ensures.ok a b)

pub returns-clause-facts : goal.returns-clause-facts
returns-clause-facts c = λ a b h.
    let led = made c.in_ok-ends.ends.items c.add_all_ends.new.ends.items c.sort_unstable.new.self.items c.in_ok-ends.ensures.items c.sort_unstable.ensures.permutation a b (some_leads a b c.args.paths.now) (c.in_ok-add_all_ends.ensures.ok a b) in
    found c.args.plan.now 0 a b c.args.paths.now c.requires (sym led ∙ h)
