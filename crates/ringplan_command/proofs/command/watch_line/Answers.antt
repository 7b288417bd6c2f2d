use Rattle.std.proofs.Common.{◌∙◌, [], ap, inr, subst, sym, codes, Some, None, refl}
use Rattle.clap.specs.Words.{found_of, rows_of, subcommand_rows_of}
use Rattle.ringplan_command.specs.Command.{asked_by, option_named, to_watch}
use Rattle.ringplan_command.specs.Numbers.{HasNoNumber}
use Rattle.ringplan_command.proofs.Commands.{named_there, refused_line, watch_asked}
use Rattle.ringplan_command.proofs.command.watch_line.Goals as goal

pub returns-in-Unnamed : goal.returns-in-Unnamed
returns-in-Unnamed c =
    let sub = subcommand_rows_of c.args.matches.now in
    let there = named_there sub (rows_of (found_of c.in-Some.options.now)) (codes "every") c.in-Some.ensures.rows in
    (None, watch_asked sub None (c.requires ∙ ap to_watch (there ∙ c.in-Unnamed.ensures)), refl)

pub returns-in-Many : goal.returns-in-Many
returns-in-Many c =
    let sub = subcommand_rows_of c.args.matches.now in
    let there = named_there sub (rows_of (found_of c.in-Some.options.now)) (codes "every") c.in-Some.ensures.rows in
    let (text, is, number) = c.in-Many.ensures in
    (Some text, watch_asked sub (Some text) (c.requires ∙ ap to_watch (there ∙ is)), number)

pub returns-in-NoNumber : goal.returns-in-NoNumber
returns-in-NoNumber c =
    let sub = subcommand_rows_of c.args.matches.now in
    let there = named_there sub (rows_of (found_of c.in-Some.options.now)) (codes "every") c.in-Some.ensures.rows in
    let named = option_named (codes "every") sub in
    refused_line (asked_by [] sub) c.mistaken.result (inr (inr (inr (to_watch named, watch_asked sub named c.requires, subst (HasNoNumber 4294967295) (sym there) c.in-NoNumber.ensures)))) c.mistaken.ensures.away
