use Rattle.std.proofs.Common.{inl}
use Rattle.ringplan_run.proofs.watching.print_watch.Goals as goal

pub returns-in-Ok : goal.returns-in-Ok
returns-in-Ok g c = inl c.print_by.ensures
