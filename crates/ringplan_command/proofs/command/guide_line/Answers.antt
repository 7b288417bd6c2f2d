use Rattle.std.proofs.Common.{[]}
use Rattle.clap.specs.Words.{subcommand_rows_of}
use Rattle.ringplan_command.specs.Command.{asked_by}
use Rattle.ringplan_command.proofs.Commands.{guide_asked, of_guide}
use Rattle.ringplan_command.proofs.command.guide_line.Goals as goal

pub returns : goal.returns
returns c =
    let sub = subcommand_rows_of c.args.matches.now in
    of_guide (asked_by [] sub) c.args.guide c.write_guide.result (guide_asked sub c.args.guide c.requires) c.write_guide.ensures
