use Rattle.std.proofs.Common.{rules, codes}
use Rattle.clap.specs.Words.{new_app, rule_of, with_rule}
use Rattle.ringplan_command.specs.Tree.{IsApp, needed_argument, number_option, watch_word}
use Rattle.ringplan_command.proofs.Trees.{has_rule}
use Rattle.ringplan_command.proofs.tree.watch.Goals as goal

pub returns : goal.returns
returns c =
    let plain : IsApp (new_app watch_word) c.after_long_help-command.result = (search rules, search rules) in
    let filed = has_rule c.with_arg-command.result (new_app watch_word) (rule_of c.needed.result) (needed_argument (codes "file")) c.needed.ensures.rule (c.with_arg-command.ensures (new_app watch_word) plain) in
    let app = with_rule (new_app watch_word) (needed_argument (codes "file")) in
    has_rule c.with_arg.result app (rule_of c.every.result) (number_option (codes "every") 1 4294967295) c.every.ensures.rule (c.with_arg.ensures app filed)
