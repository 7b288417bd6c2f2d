use Rattle.std.proofs.Common.{[], subst, inr, sym}
use Rattle.clap.specs.Words.{found_of, subcommand_rows_of}
use Rattle.ringplan_command.specs.Command.{asked_by, part_texts, to_part}
use Rattle.ringplan_command.specs.Parts.{MeansPart, PartTexts}
use Rattle.ringplan_command.proofs.Commands.{part_asked, refused_line, texts_same}
use Rattle.ringplan_command.proofs.command.part_line.Goals as goal

pub returns-in-Some-part_of : goal.returns-in-Some-part_of
returns-in-Some-part_of c =
    let sub = subcommand_rows_of c.args.matches.now in
    let same = texts_same sub (found_of c.in-Some.options.now) c.in-Some.ensures.rows in
    (part_texts sub, part_asked sub c.requires, subst (λ (t : PartTexts). MeansPart t c.in-Some-part_of.wish) same c.in-Some-part_of.ensures)

pub returns-in-None : goal.returns-in-None
returns-in-None c =
    let sub = subcommand_rows_of c.args.matches.now in
    let same = texts_same sub (found_of c.in-Some.options.now) c.in-Some.ensures.rows in
    refused_line (asked_by [] sub) c.mistaken.result
    (inr (inr (inr (to_part (part_texts sub), part_asked sub c.requires, λ wish means. c.in-None.ensures wish (subst (λ (t : PartTexts). MeansPart t wish) (sym same) means)))))
    c.mistaken.ensures.away
