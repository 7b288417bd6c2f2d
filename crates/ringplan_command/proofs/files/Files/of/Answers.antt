use Rattle.std.proofs.Common.{◌≡◌, ◌∙◌, ℕ, List, codes, sym, ap}
use Rattle.clap.specs.Words.{first_value, found_of, rows_of, subcommand_rows_of}
use Rattle.clap.proofs.WalkLemmas.{first_value-rows}
use Rattle.ringplan_command.specs.Files.{but_dash, but_dashes, text_named}
use Rattle.ringplan_command.proofs.Commands.{text_there, texts_there}
use Rattle.ringplan_command.proofs.files.Files.of.Goals as goal

pub returns : goal.returns
returns c =
    let sub = subcommand_rows_of c.args.matches.now in
    let found = found_of c.in-Some.options.now in
    let there : (id : List ℕ) → first_value found id ≡ text_named id sub = λ id. first_value-rows found id ∙ sym (text_there sub (rows_of found) id c.in-Some.ensures.rows) in
    let inputs = c.in_ok-inputs.ensures ∙ ap but_dashes (sym (texts_there sub (rows_of found) (codes "file") c.in-Some.ensures.rows)) in
    let output = c.in_ok-output.ensures ∙ ap but_dash (there (codes "output")) in
    λ i. record { inputs = inputs i; output = output i }
