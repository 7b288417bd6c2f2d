use Rattle.plan_runs.specs.declared.event.Event.TheVariants.{StartPut}
use Rattle.ring_work.proofs.Attempts.{put_alone}
use Rattle.ring_work.proofs.putting.put_all.Goals as goal

pub returns-clause-block : goal.returns-clause-block
returns-clause-block g c =
    put_alone (StartPut c.args.writer c.args.key c.args.value c.args.seen) c.new-receipts.result.items c.put_on-refusal.new.receipts.items c.put_on-refusal.result c.new-receipts.ensures.items c.put_on-refusal.ensures.block
