use Rattle.std.proofs.Common.{◌≡◌, ◌/◌, length, take}
use Rattle.script_text.specs.Digits.{bytes_of}
use Rattle.script_text.proofs.words.bytes_of.Given as goal

abbrev pub invariant-loop-place : goal.invariant-loop-place
invariant-loop-place l = record {
  room : length l.out.items ≡ length l.digits / 2;
  bytes : take l.place l.out.items ≡ take l.place (bytes_of l.digits);
}
