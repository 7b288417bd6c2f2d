use Rattle.std.proofs.Common.{◌≡◌, ◌∙◌, sym, subst, codes, List, [], ℕ, refl}
use Rattle.std.specs.Prelude.{Option}
use Rattle.clap.specs.Words.{first_of, found_of, one_text, rows_of, subcommand_rows_of}
use Rattle.clap.proofs.WalkLemmas.{one_text-rows}
use Rattle.ringplan_command.specs.declared.command.Request.TheVariants.{Drive}
use Rattle.ringplan_command.specs.declared.form.Form.TheVariants.{History, Report}
use Rattle.ringplan_command.specs.Makings.{but_text}
use Rattle.ringplan_command.specs.Command.{IsMany, MeansFormat, asked_by, format_named, option_named, to_drive}
use Rattle.ringplan_command.specs.Numbers.{HasNoNumber}
use Rattle.ringplan_command.proofs.Commands.{bad_driven, bad_form, drive_given, format_there, formed, named_there, refused_line}
use Rattle.ringplan_command.proofs.command.drive_line.Goals as goal

pub returns-in-Unnamed : goal.returns-in-Unnamed
returns-in-Unnamed c =
    let sub = subcommand_rows_of c.args.matches.now in
    let found = found_of c.in-Some.options.now in
    let workers : option_named (codes "workers") sub ≡ one_text found (codes "workers") = named_there sub (rows_of found) (codes "workers") c.in-Some.ensures.rows ∙ sym (one_text-rows found (codes "workers")) in
    let json : but_text (first_of (codes "format") (rows_of found)) ≡ format_named sub = sym (format_there sub (rows_of found) c.in-Some.ensures.rows) in
    let means = subst (λ (o : Option (List ℕ)). MeansFormat o c.format_of-format.result) json c.format_of-format.ensures in
    let many = subst (λ (o : Option (List ℕ)). IsMany o 1) (sym (workers ∙ c.in-Unnamed.ensures)) refl in
    formed (asked_by [] sub) (format_named sub) c.format_of-format.result (Drive 1 History) (Drive 1 Report) c.drive_by.result means
    (λ is. (option_named (codes "workers") sub, format_named sub, drive_given sub c.requires, many, is)) (λ is. (option_named (codes "workers") sub, format_named sub, drive_given sub c.requires, many, is))
    (λ text is other. bad_form sub to_drive text c.requires is other) c.drive_by.ensures

pub returns-in-Many : goal.returns-in-Many
returns-in-Many c =
    let sub = subcommand_rows_of c.args.matches.now in
    let found = found_of c.in-Some.options.now in
    let workers : option_named (codes "workers") sub ≡ one_text found (codes "workers") = named_there sub (rows_of found) (codes "workers") c.in-Some.ensures.rows ∙ sym (one_text-rows found (codes "workers")) in
    let json : but_text (first_of (codes "format") (rows_of found)) ≡ format_named sub = sym (format_there sub (rows_of found) c.in-Some.ensures.rows) in
    let means = subst (λ (o : Option (List ℕ)). MeansFormat o c.format_of-format.result) json c.format_of-format.ensures in
    let read = c.in-Many.ensures in
    let k = c.in-Many.workers in
    let many = subst (λ (o : Option (List ℕ)). IsMany o k) (sym (workers ∙ read.1)) read.2 in
    formed (asked_by [] sub) (format_named sub) c.format_of-format.result (Drive k History) (Drive k Report) c.drive_by-in-Many.result means
    (λ is. (option_named (codes "workers") sub, format_named sub, drive_given sub c.requires, many, is)) (λ is. (option_named (codes "workers") sub, format_named sub, drive_given sub c.requires, many, is))
    (λ text is other. bad_form sub to_drive text c.requires is other) c.drive_by-in-Many.ensures

pub returns-in-NoNumber : goal.returns-in-NoNumber
returns-in-NoNumber c =
    let sub = subcommand_rows_of c.args.matches.now in
    let found = found_of c.in-Some.options.now in
    let workers : option_named (codes "workers") sub ≡ one_text found (codes "workers") = named_there sub (rows_of found) (codes "workers") c.in-Some.ensures.rows ∙ sym (one_text-rows found (codes "workers")) in
    refused_line (asked_by [] sub) c.mistaken.result (bad_driven sub c.requires (subst (λ (o : Option (List ℕ)). HasNoNumber 64 o) (sym workers) c.in-NoNumber.ensures)) c.mistaken.ensures.away
