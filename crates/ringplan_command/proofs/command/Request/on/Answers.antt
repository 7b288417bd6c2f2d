use Rattle.std.proofs.Common.{◌∙◌, ap, subst, sym}
use Rattle.ringplan_command.specs.Command.{Answers, asks_just, to_make}
use Rattle.ringplan_command.specs.declared.command.Request.{Request}
use Rattle.ringplan_command.specs.declared.word.Word.{Word}
use Rattle.ringplan_command.proofs.command.Request.on.Goals as goal

pub returns-in-Make : goal.returns-in-Make
returns-in-Make c = λ asked h.
    let asks = subst (λ (r : Request). Answers asked r) c.in-Make.is h in
    (asks.0, asks.1 ∙ ap (λ (w : Word). asks_just (to_make w asks.0)) (sym c.painted.ensures.word), c.painted.ensures.means asks.0 c.in-Make.options asks.2)
