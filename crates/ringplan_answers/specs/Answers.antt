-- The answer that the program gives to what a job found.
use Rattle.std.specs.Prelude.{ℕ, List, ◌&&◌, Result, Ok, Err, if◌then◌else◌, nat_le}
use Rattle.std.specs.Global.{Vec}
use Rattle.ring_names.specs.declared.refusal.Refusal.{Refusal}
use Rattle.ring_names.specs.Refusals.{line_of, number_of}
use Rattle.texts.specs.Judging.{map_ok}

-- the bytes of a text that was found
abbrev pub texts_of : Result (Vec ℕ) Refusal → Result (List ℕ) Refusal
texts_of = map_ok (λ v. v.items)

-- the text, or the refusal's line
abbrev pub output_of : Result (List ℕ) Refusal → List ℕ
output_of (Ok text) = text
output_of (Err e) = line_of e

-- the exit status at a refusal of this number: a text, then memory, input and output, then a plan
abbrev pub refused_status : ℕ → ℕ
refused_status number = if nat_le number 20 then 2 else (if nat_le 60 number && nat_le number 62 then 3 else 1)

-- the exit status at what was found
abbrev pub status_of : Result (List ℕ) Refusal → ℕ
status_of (Ok text) = 0
status_of (Err e) = refused_status (number_of e)
