use Rattle.store_events.proofs.LeastKeeperDown.{least_in_slots}
use Rattle.store_events.proofs.chunk_keepers.least_keeper.Goals as goal

pub returns-in-Slots : goal.returns-in-Slots
returns-in-Slots c = least_in_slots c.args.parts.now c.args.chunk c.args.slot c.as_slice.result.now c.in-Slots.from c.args.source.now c.with_slots.result c.as_slice.ensures c.in-Slots.is c.with_slots.ensures
