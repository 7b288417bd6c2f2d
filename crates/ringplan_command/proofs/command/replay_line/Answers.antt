use Rattle.std.proofs.Common.{◌≡◌, sym, subst, codes, List, [], ℕ}
use Rattle.std.specs.Prelude.{Option}
use Rattle.clap.specs.Words.{first_of, found_of, rows_of, subcommand_rows_of}
use Rattle.ringplan_request.specs.declared.job.Job.TheVariants.{Replay}
use Rattle.ringplan_command.specs.declared.command.Request.TheVariants.{Do, State}
use Rattle.ringplan_command.specs.Makings.{but_text}
use Rattle.ringplan_command.specs.Command.{MeansFormat, asked_by, format_named, to_do}
use Rattle.ringplan_command.proofs.Commands.{bad_form, format_there, formed, replay_given, replay_stated}
use Rattle.ringplan_command.proofs.command.replay_line.Goals as goal

pub returns : goal.returns
returns c =
    let sub = subcommand_rows_of c.args.matches.now in
    let found = found_of c.in-Some.options.now in
    let json : but_text (first_of (codes "format") (rows_of found)) ≡ format_named sub = sym (format_there sub (rows_of found) c.in-Some.ensures.rows) in
    let means = subst (λ (o : Option (List ℕ)). MeansFormat o c.format_of-format.result) json c.format_of-format.ensures in
    formed (asked_by [] sub) (format_named sub) c.format_of-format.result (Do Replay) (State Replay) c.in_format.result means (replay_given sub c.requires) (replay_stated sub c.requires)
    (λ text is other. bad_form sub (to_do Replay) text c.requires is other) c.in_format.ensures
