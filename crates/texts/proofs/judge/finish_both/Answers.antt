use Rattle.std.proofs.Common.{sym, rules}
use Rattle.texts.specs.Judging.{end_at}
use Rattle.texts.proofs.Faults.{fault-of-both}
use Rattle.texts.proofs.judge.finish_both.Goals as goal

pub returns-in-Err : goal.returns-in-Err
returns-in-Err g c = sym (fault-of-both c.args.before c.args.first c.args.second (end_at c.args.fields.number c.args.fields.fields).0 c.in-Err.e (search rules))
