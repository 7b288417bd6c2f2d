use Rattle.std.proofs.Common.{◌∷◌, ◌++◌, [], rules}
use Rattle.ring_versions.proofs.Merging.{merge_one}
use Rattle.ring_versions.proofs.Reordered.{as_they_were}
use Rattle.ring_versions.proofs.merge.add_beside.Goals as goal

pub returns-clause-added : goal.returns-clause-added
returns-clause-added c = λ yes.
    let was = c.args.list.now.items in
    let x = c.args.version.now in
    let made = c.push_reserved.new.self.items in
    merge_one was made x c.requires (search rules) (as_they_were (was ++ x ∷ []) made (search rules))
