use Rattle.store_maps.specs.Holders.{holds}
use Rattle.store_maps.proofs.HoldersChanged.{chunks_none, chunks_more, chunk_below}
use Rattle.store_maps.proofs.holders.Holders.forget.Goals as goal

pub chunks-init : goal.chunks-init
chunks-init c = chunks_none c.args.node.0 (holds c.args.self.now) c.args.map.now

pub chunks-preserved : goal.chunks-preserved
chunks-preserved c =
    chunks_more c.args.node.0 (holds c.args.self.now) (holds c.chunks.self) (holds c.forget_map.new.self) c.args.map.now c.chunks.chunk c.chunk.result.now
    c.chunk.ensures.places c.forget_map.ensures.others c.forget_map.ensures.gone c.forget_map.ensures.stays c.chunks.invariant

pub returns-clause-others : goal.returns-clause-others
returns-clause-others c = c.chunks.invariant.others

pub returns-clause-gone : goal.returns-clause-gone
returns-clause-gone c k there = c.chunks.invariant.gone k there (chunk_below c.args.map.now k c.chunks.chunk there c.chunks-test.false)

pub returns-clause-stays : goal.returns-clause-stays
returns-clause-stays c = c.chunks.invariant.stays
