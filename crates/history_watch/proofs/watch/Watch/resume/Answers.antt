use Rattle.std.proofs.Common.{refl, ap}
use Rattle.ring_core.specs.declared.resting.Rest.{Rest}
use Rattle.history_watch.proofs.Judged.{resumed, with_rest}
use Rattle.history_watch.proofs.watch.Watch.resume.Goals as goal

pub returns-clause-watching : goal.returns-clause-watching
returns-clause-watching c = λ ring plan bytes so.
    resumed ring plan bytes c.args.approved.now c.args.count c.args.paused so _ (ap (λ (k : Rest). with_rest c.args.paused k) c.resume.ensures.rest) refl c.new.ensures.items c.resume.ensures.ring c.resume.ensures.plan c.ring-2.ensures.value
