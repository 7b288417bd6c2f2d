use Rattle.std.proofs.Common.{codes}
use Rattle.clap.specs.Words.{rule_of, with_rule}
use Rattle.ringplan_command.specs.Tree.{list_option, text_option}
use Rattle.ringplan_command.proofs.Trees.{has_rule}
use Rattle.ringplan_command.proofs.tree.known.Goals as goal

pub returns : goal.returns
returns c = λ app h.
    let one = with_rule app (text_option (codes "layout")) in
    let two = with_rule one (list_option (codes "dead")) in
    let first = has_rule c.with_arg-command.result app (rule_of c.option.result) (text_option (codes "layout")) c.option.ensures.rule (c.with_arg-command.ensures app h) in
    let second = has_rule c.with_arg-command-2.result one (rule_of c.dead.result) (list_option (codes "dead")) c.dead.ensures.rule (c.with_arg-command-2.ensures one first) in
    has_rule c.with_arg.result two (rule_of c.option-2.result) (text_option (codes "racks-behind")) c.option-2.ensures.rule (c.with_arg.ensures two second)
