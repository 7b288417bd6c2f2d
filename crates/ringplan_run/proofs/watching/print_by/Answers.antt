use Rattle.std.proofs.Common.{refl}
use Rattle.ringplan_run.specs.Watch.{unread, watched}
use Rattle.ringplan_run.proofs.watching.print_by.Goals as goal

pub returns-in-Ok : goal.returns-in-Ok
returns-in-Ok g c = watched c.as_slice.result.now (g.W.Write.contents c.watch_bundle-found.new.output) c.watch_bundle-found.result c.watch_bundle-found.ensures c.tell.ensures

pub returns-in-Err : goal.returns-in-Err
returns-in-Err g c = unread c.in-Err.refusal refl c.tell-in-Err.ensures
