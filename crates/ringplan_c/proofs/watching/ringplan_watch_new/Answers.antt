use Rattle.std.proofs.Common.{[], refl, Ok, Err}
use Rattle.ringplan_c.proofs.watching.ringplan_watch_new.Goals as goal

pub returns-in-Ok : goal.returns-in-Ok
returns-in-Ok c = (Ok c.in-Ok.judge.value, c.in-Ok.ensures, c.put.ensures, (Ok [], refl, c.fill.ensures))

pub returns-in-Err : goal.returns-in-Err
returns-in-Err c = (Err c.in-Err.refusal, c.in-Err.ensures, c.requires, c.refuse.ensures)
