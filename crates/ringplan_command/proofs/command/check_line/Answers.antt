use Rattle.std.proofs.Common.{◌≡◌, ◌∙◌, sym, subst, codes, List, [], ℕ}
use Rattle.std.specs.Prelude.{Option}
use Rattle.clap.specs.Words.{first_of, found_of, one_text, rows_of, subcommand_rows_of}
use Rattle.clap.proofs.WalkLemmas.{one_text-rows}
use Rattle.ringplan_request.specs.declared.job.Job.TheVariants.{Check}
use Rattle.ringplan_command.specs.declared.command.Request.TheVariants.{Do, CheckBy, State, StateBy}
use Rattle.ringplan_command.specs.Makings.{but_text}
use Rattle.ringplan_command.specs.Command.{MeansFormat, asked_by, format_named, option_named, to_do}
use Rattle.ringplan_command.specs.Numbers.{HasNoNumber}
use Rattle.ringplan_command.proofs.Commands.{bad_form, bad_given, format_there, formed, named_there, none_given, none_stated, refused_line, some_given, some_stated}
use Rattle.ringplan_command.proofs.command.check_line.Goals as goal

pub returns-in-Unnamed : goal.returns-in-Unnamed
returns-in-Unnamed c =
    let sub = subcommand_rows_of c.args.matches.now in
    let found = found_of c.in-Some.options.now in
    let named : option_named (codes "workers") sub ≡ one_text found (codes "workers") = named_there sub (rows_of found) (codes "workers") c.in-Some.ensures.rows ∙ sym (one_text-rows found (codes "workers")) in
    let json : but_text (first_of (codes "format") (rows_of found)) ≡ format_named sub = sym (format_there sub (rows_of found) c.in-Some.ensures.rows) in
    let means = subst (λ (o : Option (List ℕ)). MeansFormat o c.format_of-format.result) json c.format_of-format.ensures in
    let none = named ∙ c.in-Unnamed.ensures in
    formed (asked_by [] sub) (format_named sub) c.format_of-format.result (Do Check) (State Check) c.in_format.result means (none_given sub c.requires none) (none_stated sub c.requires none)
    (λ text is other. bad_form sub (to_do Check) text c.requires is other) c.in_format.ensures

pub returns-in-Many : goal.returns-in-Many
returns-in-Many c =
    let sub = subcommand_rows_of c.args.matches.now in
    let found = found_of c.in-Some.options.now in
    let named : option_named (codes "workers") sub ≡ one_text found (codes "workers") = named_there sub (rows_of found) (codes "workers") c.in-Some.ensures.rows ∙ sym (one_text-rows found (codes "workers")) in
    let json : but_text (first_of (codes "format") (rows_of found)) ≡ format_named sub = sym (format_there sub (rows_of found) c.in-Some.ensures.rows) in
    let means = subst (λ (o : Option (List ℕ)). MeansFormat o c.format_of-format.result) json c.format_of-format.ensures in
    let read = c.in-Many.ensures in
    let some = named ∙ read.1 in
    formed (asked_by [] sub) (format_named sub) c.format_of-format.result (CheckBy c.in-Many.workers) (StateBy c.in-Many.workers) c.in_format-in-Many.result means
    (λ is. (read.0, some_given sub read.0 c.requires some is, read.2)) (λ is. (read.0, some_stated sub read.0 c.requires some is, read.2))
    (λ text is other. bad_form sub (to_do Check) text c.requires is other) c.in_format-in-Many.ensures

pub returns-in-NoNumber : goal.returns-in-NoNumber
returns-in-NoNumber c =
    let sub = subcommand_rows_of c.args.matches.now in
    let found = found_of c.in-Some.options.now in
    let named : option_named (codes "workers") sub ≡ one_text found (codes "workers") = named_there sub (rows_of found) (codes "workers") c.in-Some.ensures.rows ∙ sym (one_text-rows found (codes "workers")) in
    refused_line (asked_by [] sub) c.mistaken.result (bad_given sub c.requires (subst (λ (o : Option (List ℕ)). HasNoNumber 64 o) (sym named) c.in-NoNumber.ensures)) c.mistaken.ensures.away
