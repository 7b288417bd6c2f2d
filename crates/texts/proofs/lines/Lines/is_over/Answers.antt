use Rattle.std.proofs.Common.{sym, ◌∙◌, ap}
use Rattle.texts.specs.Left.{is_over}
use Rattle.texts.proofs.Cuts.{over}
use Rattle.texts.proofs.lines.Lines.is_over.Goals as goal

pub returns : goal.returns
returns c = c.is_empty.ensures ∙ sym (over c.self.inside.rest.now) ∙ ap (λ s. is_over s) c.self.view_is
