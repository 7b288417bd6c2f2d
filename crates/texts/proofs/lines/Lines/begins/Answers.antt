use Rattle.std.proofs.Common.{sym, ◌∙◌}
use Rattle.texts.proofs.Firsts.{begins_until}
use Rattle.texts.proofs.lines.Lines.begins.Goals as goal

pub returns : goal.returns
returns c = rw (← c.self.view_is) (c.stands_in_front.ensures ∙ sym (begins_until c.args.word.now c.self.inside.rest.now))
