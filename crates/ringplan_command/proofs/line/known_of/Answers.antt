use Rattle.std.proofs.Common.{◌∙◌, codes, ap}
use Rattle.clap.specs.Words.{found_of}
use Rattle.clap.proofs.WalkLemmas.{first_value-rows}
use Rattle.ringplan_command.specs.Files.{but_dash}
use Rattle.ringplan_command.proofs.line.known_of.Goals as goal

pub returns : goal.returns
returns c = (c.in_ok-dead.ensures, c.in-Some.ensures, c.in_ok-layout_file.ensures ∙ ap but_dash (first_value-rows (found_of c.args.matches.now) (codes "layout")))
