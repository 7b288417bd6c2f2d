use Rattle.std.proofs.Common.{◌≡◌, ◌++◌}
use Rattle.ring_versions.proofs.left.chunks_of.Given as goal

-- those of the parts so far are behind the others
abbrev pub invariant-loop-part : goal.invariant-loop-part
invariant-loop-part l = l.kept.items ≡ l.initial.kept.items ++ l.yielded
