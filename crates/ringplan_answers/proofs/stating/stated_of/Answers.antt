use Rattle.std.proofs.Common.{◌≡◌, false, sym, subst}
use Rattle.serde_json.specs.Data.{Data}
use Rattle.serde_json.specs.Written.{has_float}
use Rattle.ringplan_answers.specs.Answers.{texts_of}
use Rattle.ringplan_answers.proofs.Plain.{answer_plain}
use Rattle.ringplan_answers.proofs.stating.stated_of.Goals as goal

pub line_of-requires : goal.line_of-requires
line_of-requires c = subst (λ (d : Data). has_float d ≡ false) (sym c.in_ok-value.ensures) (answer_plain (texts_of c.args.found.now))
