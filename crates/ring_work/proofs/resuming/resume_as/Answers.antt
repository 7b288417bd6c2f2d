-- A drive that goes on tells no fault of the entries.
use Rattle.std.proofs.Common.{List, length, subst, sym}
use Rattle.std.proofs.lemmas.Result.{IfErr-weaker}
use Rattle.ring_table.specs.Value.{RingValue}
use Rattle.plan_text.specs.declared.step.Planned.{Planned}
use Rattle.ring_work.specs.Driven.{IsHistory}
use Rattle.ring_work.proofs.Stops.{full_by_drive, tells_of_run}
use Rattle.ring_work.proofs.resuming.resume_as.Goals as goal

pub returns-in-Ok-clause-full : goal.returns-in-Ok-clause-full
returns-in-Ok-clause-full g c =
    IfErr-weaker c.resume_on.result _ _ (λ f h. full_by_drive f.refusal (length c.args.entries.now) h c.requires.few) c.resume_on.ensures.refusal

pub returns-in-Ok-clause-fault : goal.returns-in-Ok-clause-fault
returns-in-Ok-clause-fault g c =
    let a = c.args.job.now.approved.now in
    let entries = c.args.entries.now in
    let of_ring = subst (λ (ring : RingValue). IsHistory ring g.L.RunLedger.plan entries) (sym c.requires.ring) c.in-Ok.ensures.run in
    let run = subst (λ (plan : List Planned). IsHistory a.ring plan entries) (sym c.requires.plan) of_ring in
    IfErr-weaker c.resume_on.result _ _ (λ f h. tells_of_run a.ring a.plan entries f.refusal run) c.resume_on.ensures.refusal

pub returns-in-Ok-clause-empty : goal.returns-in-Ok-clause-empty
returns-in-Ok-clause-empty g c = IfErr-weaker c.resume_on.result _ _ (λ f h none. absurd (none h)) c.resume_on.ensures.refusal
