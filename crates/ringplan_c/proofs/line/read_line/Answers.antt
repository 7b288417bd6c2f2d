use Rattle.std.proofs.Common.{◌≡◌, ◌∙◌, List, ℕ, ap, map, subst, ⊎_elim}
use Rattle.std.specs.Borrow.{Bor}
use Rattle.ringplan_c.specs.Line.{line_of}
use Rattle.ringplan_command.specs.Command.{Answers, asked}
use Rattle.ringplan_command.specs.Files.{files_of}
use Rattle.ringplan_c.proofs.line.read_line.Goals as goal

pub returns : goal.returns
returns c =
    let texts = map (λ (x : Bor (List ℕ)). x.now) in
    let same : texts c.as_slice.result.now ≡ line_of c.args.command.now c.args.options.now = ap texts c.as_slice.ensures.value ∙ c.in_ok-words.ensures in
    record {
      asks = subst (λ (ws : List (List ℕ)). Answers (asked ws) c.parse.result.request) same c.parse.ensures.kinds;
      files = λ job. ⊎_elim (λ found. found ∙ ap files_of same) (λ none. absurd (none.1 job)) c.parse.ensures.files;
    }
