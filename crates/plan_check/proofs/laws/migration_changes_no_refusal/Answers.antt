use Rattle.plan_check.proofs.Migrating.{refusal-migrated}
use Rattle.plan_check.proofs.laws.migration_changes_no_refusal.Goals as goal

pub returns : goal.returns
returns c = refusal-migrated
