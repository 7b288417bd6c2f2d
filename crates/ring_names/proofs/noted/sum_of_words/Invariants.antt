use Rattle.std.proofs.Common.{◌≡◌, length}
use Rattle.ring_names.specs.Noted.{sum_of_words}
use Rattle.ring_names.proofs.noted.sum_of_words.Given as goal

abbrev pub invariant-words : goal.invariant-words
invariant-words l = sum_of_words l.sum l.rest ≡ sum_of_words 0 l.bytes

abbrev pub decreases-words : goal.decreases-words
decreases-words l = length l.rest
