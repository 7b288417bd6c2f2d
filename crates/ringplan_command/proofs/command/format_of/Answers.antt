use Rattle.std.proofs.Common.{rules, codes}
use Rattle.ringplan_command.proofs.Commands.{texts_differ}
use Rattle.ringplan_command.proofs.command.format_of.Goals as goal

pub returns-else-eq-2 : goal.returns-else-eq-2
returns-else-eq-2 c = (c.in-Some.text.now, search rules, texts_differ c.in-Some.text.now (codes "json") (search rules))
