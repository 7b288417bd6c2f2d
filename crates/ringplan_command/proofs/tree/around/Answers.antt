use Rattle.std.proofs.Common.{codes}
use Rattle.clap.specs.Words.{rule_of, with_rule}
use Rattle.ringplan_command.specs.Tree.{changed_app, flag_option, job_app, known_app}
use Rattle.ringplan_command.proofs.Trees.{has_rule}
use Rattle.ringplan_command.proofs.tree.around.Goals as goal

pub returns : goal.returns
returns c =
    let plain = job_app (codes "around") in
    let one = changed_app (known_app plain) in
    let two = with_rule one (flag_option (codes "back")) in
    let first = c.changed.ensures (known_app plain) (c.known-command.ensures plain c.job.ensures) in
    let second = has_rule c.with_arg-command.result one (rule_of c.flag.result) (flag_option (codes "back")) c.flag.ensures.rule (c.with_arg-command.ensures one first) in
    has_rule c.with_arg.result two (rule_of c.flag-2.result) (flag_option (codes "all")) c.flag-2.ensures.rule (c.with_arg.ensures two second)
