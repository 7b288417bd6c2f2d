use Rattle.std.proofs.Common.{ap}
use Rattle.ring_versions.specs.Chunks.{all_of}
use Rattle.ring_versions.specs.Shared.{looked_at, all_left}
use Rattle.ring_versions.proofs.Merging.{next_apart, sift_more}
use Rattle.ring_versions.proofs.left.left_of.Goals as goal

pub keep-requires-clause-apart : goal.keep-requires-clause-apart
keep-requires-clause-apart c = next_apart (looked_at c.args.fresh) (all_of c.args.chunks.now) (all_of c.chunks.rest.now) (all_left c.chunks.left) c.in-Some.chunk.now (all_of c.in-Some.later.now) c.requires.apart (ap all_of (c.in-Some.ensures).cases.0) c.chunks.invariant

pub chunks-preserved : goal.chunks-preserved
chunks-preserved c =
    let out = (c.in_ok-keep.ensures).ok in
    sift_more (looked_at c.args.fresh) (all_of c.args.chunks.now) (all_of c.chunks.rest.now) (all_left c.chunks.left) c.in-Some.chunk.now (all_of c.in-Some.later.now) out.0 (all_left c.keep.new.left) c.requires.apart (ap all_of (c.in-Some.ensures).cases.0) out.1 out.2 c.chunks.invariant
