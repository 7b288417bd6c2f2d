use Rattle.std.proofs.Common.{◌∙◌, false, true, ◌≡◌, length, nat_le, Bool, sym, ap}
use Rattle.std.specs.Prelude.{is_some}
use Rattle.script_text.proofs.DigitLaws.{few_bytes}
use Rattle.script_text.proofs.words.ValueWord.to_value.Goals as goal

pub unreachable-requires : goal.unreachable-requires
unreachable-requires c =
    let few : nat_le (length c.in_ok-bytes.bytes.items) 1024 ≡ true = rw (c.in_ok-bytes.ensures.ok) (few_bytes c.self.inside.digits.now c.self.invariant.1) in
    let none : is_some c.in_ok-made.made ≡ false = ap {B = Bool} is_some c.in-None.is in
    (let e : false ≡ true = sym none ∙ c.in_ok-made.ensures.some ∙ few in absurd cc)
