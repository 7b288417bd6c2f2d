use Rattle.store_events.proofs.EventTests.{abort_tested}
use Rattle.store_events.proofs.copies.abort_refusal.Goals as goal

pub returns : goal.returns
returns c = abort_tested c.args.parts.now c.args.step c.not_open.result c.not_open.ensures
