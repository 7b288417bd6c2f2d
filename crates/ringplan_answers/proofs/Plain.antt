-- An answer has no float.
use Rattle.std.proofs.Common.{◌≡◌, ℕ, false, List, [], ◌∷◌, map, Result, Ok, Err, refl}
use Rattle.serde_json.specs.View.{items_of}
use Rattle.serde_json.specs.Written.{has_float, items_have_float}
use Rattle.ring_names.specs.declared.refusal.Refusal.{Refusal}
use Rattle.ring_names.specs.Refusals.{values_of}
use Rattle.ringplan_answers.specs.Stated.{answer_value, number_data}

numbers_plain : (ns : List ℕ) → items_have_float (items_of (map number_data ns)) ≡ false
numbers_plain [] = refl
numbers_plain (n ∷ ns) = numbers_plain ns

pub answer_plain : (r : Result (List ℕ) Refusal) → has_float (answer_value r) ≡ false
answer_plain (Ok text) = refl
answer_plain (Err e) = rw (numbers_plain (values_of e)) refl
