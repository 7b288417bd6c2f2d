use Rattle.std.proofs.Common.{List, sym, ap, subst}
use Rattle.plan_runs.specs.declared.event.Entry.{Entry}
use Rattle.ring_work.specs.Driven.{IsHistory}
use Rattle.ring_work.proofs.driving.check_outcome.Goals as goal

pub returns-in-Some-clause-history : goal.returns-in-Some-clause-history
returns-in-Some-clause-history g c =
    let a = c.args.job.now.approved.now in
    subst (λ (h : List Entry). IsHistory a.ring a.plan h) (sym (ap (λ v. v.items) c.fault_of.ensures.1)) c.requires.run
