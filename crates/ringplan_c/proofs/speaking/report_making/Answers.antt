use Rattle.std.proofs.Common.{◌≤◌, arith, length, rules}
use Rattle.std.proofs.lemmas.Grind.{common_steps}
use Rattle.ringplan_command.specs.Files.{files_in}
use Rattle.ringplan_answers.specs.Io.{max_input}
use Rattle.ringplan_reports.proofs.Kept.{weaker}
use Rattle.ringplan_c.specs.Speaking.{NamesNone, read}
use Rattle.ringplan_c.proofs.speaking.report_making.Goals as goal

pub returns : goal.returns
returns c =
    let none : NamesNone (files_in c.args.files.now) c.args.options.now = first_of (search rules, grind (arith, common_steps)) in
    let few : length c.args.input.now ≤ max_input = omega arith in
    weaker c.report_bundle.result c.report_bundle.ensures (λ r p. read none few p)
