use Rattle.std.proofs.Common.{◌≢◌, [], rules}
use Rattle.ring_versions.proofs.versions.Versions.absorb.Goals as goal

pub returns-then-not-is_empty : goal.returns-then-not-is_empty
returns-then-not-is_empty c other f = let filled : c.args.fresh.merged ≢ [] = search rules in f.merge filled
