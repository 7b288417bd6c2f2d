use Rattle.std.proofs.Common.{[], List, ◌∙◌, ap}
use Rattle.clap.specs.Words.{Row, found_of, rows_of, subcommand_rows_of}
use Rattle.ringplan_command.specs.Command.{asked_by, to_make}
use Rattle.ringplan_command.proofs.Commands.{of_word, rows_there, word_asked}
use Rattle.ringplan_command.proofs.command.making_line.Goals as goal

pub returns : goal.returns
returns c =
    let sub = subcommand_rows_of c.args.matches.now in
    let rows = rows_of (found_of c.in-Some.options.now) in
    let there = rows_there sub rows c.in-Some.ensures.rows in
    of_word (asked_by [] sub) c.args.word rows c.make_line.result (word_asked sub c.args.word rows (c.requires ∙ ap (λ (x : List Row). to_make c.args.word x) there)) c.make_line.ensures
