use Rattle.std.proofs.Common.{◌≡◌, ℕ, ◌+◌, ◌-◌, ◌*◌, ◌<◌, List, length, get_or, take, min, refl, ◌∙◌, arith}
use Rattle.std.proofs.lemmas.List.{take_more}
use Rattle.texts.specs.Number.{value_from}
use Rattle.texts.proofs.NumberLaws.{value-push}
use Rattle.change_text.proofs.number.value_of.Goals as goal

capped-step : (a d : ℕ) → min (10 * min a 281474976710656 + d) 281474976710656 ≡ min (10 * a + d) 281474976710656
capped-step a d = omega arith

-- the value of one more digit
value-step : (ds : List ℕ) (i v : ℕ) → i < length ds → v ≡ min (value_from 0 (take i ds)) 281474976710656
    → min (10 * v + (get_or ds i 0 - 48)) 281474976710656 ≡ min (value_from 0 (take (i + 1) ds)) 281474976710656
value-step ds i v h e = rw (e, capped-step (value_from 0 (take i ds)) (get_or ds i 0 - 48), take_more ds i 0 h, value-push 0 (take i ds) (get_or ds i 0)) refl

pub loop-at-preserved : goal.loop-at-preserved
loop-at-preserved c =
    let within : c.loop-at.at < length c.args.digits.now = omega arith in
    rw c.saturating_sub.ensures at c.min-value.ensures ∙ value-step c.args.digits.now c.loop-at.at c.loop-at.value within c.loop-at.invariant
