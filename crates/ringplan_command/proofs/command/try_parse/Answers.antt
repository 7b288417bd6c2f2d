use Rattle.std.proofs.Common.{◌≡◌, ◌⊎◌, ◌∙◌, sym, subst, map, Ok, Err, IfOk, List, ℕ, Option, inl, inr}
use Rattle.clap.specs.Words.{Row, app_of, kind_of}
use Rattle.clap.specs.declared.parser.matches.ArgMatches.{ArgMatches}
use Rattle.ringplan_command.specs.declared.command.Request.{Request}
use Rattle.ringplan_command.specs.declared.command.Request.TheVariants.{Mistaken}
use Rattle.ringplan_command.specs.Command.{Answers, asked}
use Rattle.ringplan_command.specs.Files.{IsJob, files_in, files_named, no_files}
use Rattle.ringplan_command.proofs.Commands.{answers_words, asks_help, entered_by, helped, mistaken, no_job, parsed, turned_away}
use Rattle.ringplan_command.proofs.command.try_parse.Goals as goal

pub returns-in-Ok-clause-kinds : goal.returns-in-Ok-clause-kinds
returns-in-Ok-clause-kinds g c =
    let words = map g.S.AsStr.text c.args.words.now in
    let none = parsed (app_of c.in_ok-command.field-0) words (Ok c.in-Ok.matches) c.in_ok-command.ensures.0 c.in-Ok.ensures.kinds in
    let met = entered_by (app_of c.in_ok-command.field-0) words c.in-Ok.matches c.in_ok-command.ensures.0 c.in-Ok.ensures.matches in
    answers_words (λ line. line.request) words c.in-Ok.matches c.line_of.result none met c.line_of.ensures.kinds

pub returns-in-Ok-clause-files : goal.returns-in-Ok-clause-files
returns-in-Ok-clause-files g c =
    let words = map g.S.AsStr.text c.args.words.now in
    let met = entered_by (app_of c.in_ok-command.field-0) words c.in-Ok.matches c.in_ok-command.ensures.0 c.in-Ok.ensures.matches in
    subst (λ (sub : Option (List ℕ × List Row)). IfOk c.line_of.result (λ line. (files_in line.files ≡ files_named sub) ⊎ ((files_in line.files ≡ no_files) × (IsJob line.request → ⊥)))) met c.line_of.ensures.files

pub returns-in-DisplayHelp-clause-kinds : goal.returns-in-DisplayHelp-clause-kinds
returns-in-DisplayHelp-clause-kinds g c =
    let words = map g.S.AsStr.text c.args.words.now in
    let among = parsed {T = ArgMatches} (app_of c.in_ok-command.field-0) words (Err c.in-Err.error) c.in_ok-command.ensures.0 c.in-Err.ensures.kinds in
    let is = asks_help _ _ c.kind.ensures c.in-DisplayHelp.is in
    subst (λ (r : Request). Answers (asked words) r) (sym c.alone-in-DisplayHelp.ensures.request) (helped _ (kind_of c.in-Err.error) is among)

pub returns : goal.returns
returns g c =
    let words = map g.S.AsStr.text c.args.words.now in
    let among = parsed {T = ArgMatches} (app_of c.in_ok-command.field-0) words (Err c.in-Err.error) c.in_ok-command.ensures.0 c.in-Err.ensures.kinds in
    let wrong = mistaken _ (kind_of c.in-Err.error) (λ e. c.in_default.not-DisplayHelp (c.kind.ensures ∙ e)) (λ e. c.in_default.not-DisplayVersion (c.kind.ensures ∙ e)) (λ e. c.in_default.not-OutOfMemory (c.kind.ensures ∙ e)) among in
    let is = c.alone-in_default.ensures.request in
    record {
      kinds = subst (λ (r : Request). Answers (asked words) r) (sym is) (turned_away (asked words) (Mistaken c.in_ok-text-in-Err.text) (inl wrong) tt);
      files = inr (c.alone-in_default.ensures.files, λ job. no_job (Mistaken c.in_ok-text-in-Err.text) tt (subst IsJob is job));
    }
