use Rattle.std.proofs.Common.{◌≡◌, ℕ, ◌<◌, ◌≤◌, eqb, false, ◌++◌, get_or, drop}
use Rattle.texts.specs.Parts.{fields_of}
use Rattle.texts.specs.Kept.{fields_left}
use Rattle.texts.proofs.Halves.{AreOther}
use Rattle.texts.proofs.cursor.Cursor.split.Given as goal

abbrev pub invariant-loop-at : goal.invariant-loop-at
invariant-loop-at l = record {
  ordered : l.start ≤ l.at;
  plain : (k : ℕ) → l.start ≤ k → k < l.at → eqb (get_or l.bytes k 0) 32 ≡ false;
  whole : fields_left l.front ++ fields_of (drop l.start l.bytes) ≡ fields_of l.bytes;
  other : AreOther l.word (fields_left l.front);
}
