use Rattle.std.proofs.Common.{◌≡◌, take}
use Rattle.std.specs.List.{list_all}
use Rattle.script_text.specs.Digits.{is_digit}
use Rattle.script_text.proofs.words.are_digits.Given as goal

abbrev pub invariant-loop-byte : goal.invariant-loop-byte
invariant-loop-byte l = l.found ≡ list_all is_digit (take l.byte-index l.bytes)
