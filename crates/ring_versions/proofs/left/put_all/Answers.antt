use Rattle.ring_versions.specs.Chunks.{all_of}
use Rattle.ring_versions.specs.Shared.{looked_at}
use Rattle.std.proofs.Common.{◌++◌}
use Rattle.ring_versions.proofs.Reordered.{put_more}
use Rattle.ring_versions.proofs.left.put_all.Goals as goal

pub versions-preserved : goal.versions-preserved
versions-preserved c =
    put_more (all_of c.args.made.now.items ++ looked_at c.args.versions) (all_of c.versions.made.items) c.versions.walk c.next.new.self (all_of c.put.new.made.items) c.in-Some.version.now (c.in-Some.ensures) (c.in_ok-put.ensures).ok c.versions.invariant
