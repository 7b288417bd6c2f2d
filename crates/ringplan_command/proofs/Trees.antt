-- How commands are put together.
use Rattle.std.proofs.Common.{◌≡◌, IfOk, Result, subst}
use Rattle.clap.specs.Words.{App, Rule, with_rule}
use Rattle.clap.specs.declared.builder.command.Command.{Command}
use Rattle.ringplan_command.specs.Tree.{IsApp}

-- the command has a rule that is another one
pub has_rule : {E : Type 0} (r : Result Command E) (app : App) (one other : Rule) → one ≡ other → IfOk r (IsApp (with_rule app one)) → IfOk r (IsApp (with_rule app other))
has_rule r app one other e h = subst (λ (rule : Rule). IfOk r (IsApp (with_rule app rule))) e h
