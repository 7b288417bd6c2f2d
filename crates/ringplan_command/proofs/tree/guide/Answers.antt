use Rattle.std.proofs.Common.{rules}
use Rattle.clap.specs.Words.{new_app, rule_of}
use Rattle.ringplan_command.specs.Tree.{IsApp, output_option}
use Rattle.ringplan_command.proofs.Trees.{has_rule}
use Rattle.ringplan_command.proofs.tree.guide.Goals as goal

pub returns : goal.returns
returns c =
    let word = c.args.word.now in
    let plain : IsApp (new_app word) c.after_long_help-command.result = (search rules, search rules) in
    has_rule c.with_arg.result (new_app word) (rule_of c.output.result) output_option c.output.ensures.rule (c.with_arg.ensures (new_app word) plain)
