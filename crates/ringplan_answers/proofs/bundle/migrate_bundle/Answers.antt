use Rattle.ringplan_answers.proofs.Verdicts.{gives-migration, migration-bad}
use Rattle.ringplan_answers.proofs.bundle.migrate_bundle.Goals as goal

pub returns-in-Ok-clause-read : goal.returns-in-Ok-clause-read
returns-in-Ok-clause-read c = gives-migration c.args.bytes.now c.in-Ok.bundle c.write_migrated.result c.in-Ok.ensures.read c.write_migrated.ensures.text c.write_migrated.ensures.memory

pub returns-in-Err-clause-read : goal.returns-in-Err-clause-read
returns-in-Err-clause-read c = λ other. migration-bad c.args.bytes.now c.in-Err.e (c.in-Err.ensures.read other)
