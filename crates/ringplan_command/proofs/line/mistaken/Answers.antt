use Rattle.std.proofs.Common.{refl}
use Rattle.ringplan_command.proofs.line.mistaken.Goals as goal

pub returns : goal.returns
returns c = record { mistaken = (c.in_ok-text.text, refl); away = tt }
