use Rattle.std.proofs.Common.{◌≡◌, ◌++◌, map, length}
use Rattle.std.specs.Fmt.{decimal}
use Rattle.texts.specs.Parts.{spaced}
use Rattle.texts.proofs.plain.plain_numbers.Given as goal

abbrev pub invariant-numbers : goal.invariant-numbers
invariant-numbers l = l.text ≡ spaced (map decimal l.out.items) ++ l.rest

abbrev pub decreases-numbers : goal.decreases-numbers
decreases-numbers l = length l.rest
