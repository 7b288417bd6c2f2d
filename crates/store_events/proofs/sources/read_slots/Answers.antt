use Rattle.store_maps.specs.Held.{held}
use Rattle.store_maps.specs.Ids.{of_chunk}
use Rattle.store_parts.specs.Numbers.{in_part}
use Rattle.store_parts.proofs.Numbers.{nothing_at, placed_nothing, nothing_of_chunk}
use Rattle.store_events.proofs.ChunkSources.{from_slots}
use Rattle.store_events.proofs.sources.read_slots.Goals as goal

pub returns-clause-shows : goal.returns-clause-shows
returns-clause-shows c =
    let a = c.args.parts.now in
    let none = nothing_of_chunk a.keys c.args.chunk (held c.new-read.result) c.new-read.ensures.versions in
    from_slots a c.args.chunk c.args.slot c.args.from.now (in_part a.keys c.args.chunk (held c.new-read.result)) (in_part a.keys c.args.chunk (held c.add_slots.new.read)) (nothing_at a.keys (of_chunk c.args.chunk (held c.new-read.result)) none) (c.in_ok-add_slots.ensures).ok.0

pub returns-clause-placed : goal.returns-clause-placed
returns-clause-placed c =
    let a = c.args.parts.now in
    let none = nothing_of_chunk a.keys c.args.chunk (held c.new-read.result) c.new-read.ensures.versions in
    (c.in_ok-add_slots.ensures).ok.1 (placed_nothing a.keys (of_chunk c.args.chunk (held c.new-read.result)) none)
