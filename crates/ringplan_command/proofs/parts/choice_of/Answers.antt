use Rattle.std.proofs.Common.{◌∙◌, ap, sym}
use Rattle.std.specs.Prelude.{option_map}
use Rattle.clap.specs.Words.{found_of}
use Rattle.ringplan_command.specs.Parts.{texts_in}
use Rattle.ringplan_command.proofs.Commands.{share_means}
use Rattle.ringplan_command.proofs.parts.choice_of.Goals as goal

pub returns-in_default : goal.returns-in_default
returns-in_default c = share_means (texts_in (found_of c.args.options.now)) c.share_of.result (sym c.get_str.ensures ∙ ap (option_map (λ s. s.now)) c.in_default.is) c.share_of.ensures
