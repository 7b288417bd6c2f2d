use Rattle.std.proofs.Common.{◌≡◌, subst, IfErr}
use Rattle.ring_names.specs.declared.refusal.Refusal.TheVariants.{OutOfMemory}
use Rattle.history_text.specs.declared.reader.Stage.TheVariants.{Over}
use Rattle.history_watch.specs.declared.resting.Paused.{Paused}
use Rattle.history_watch.proofs.Judged.{ends_cut, ends_well}
use Rattle.history_watch.proofs.resting.finish.Goals as goal

pub returns-clause-ok : goal.returns-clause-ok
returns-clause-ok c = ends_well c.args.approved.now c.args.count c.args.paused c.resume-watch.result c.resume-watch.ensures.paused c.resume-watch.ensures.watching c.end-found.result c.end-found.ensures.ok

pub returns-clause-err : goal.returns-clause-err
returns-clause-err c = ends_cut c.args.approved.now c.args.count c.args.paused c.resume-watch.result c.resume-watch.ensures.watching c.end-found.result c.end-found.ensures.err

pub returns-clause-over : goal.returns-clause-over
returns-clause-over c =
    subst (λ (p : Paused). IfErr c.end-found.result (λ e. p.stage ≡ Over → e ≡ OutOfMemory)) c.resume-watch.ensures.paused c.end-found.ensures.over
