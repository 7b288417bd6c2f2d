use Rattle.std.proofs.Common.{◌≡◌, ℕ, Bool, true, false, List, refl, rules}
use Rattle.std.specs.Str.{IsUtf8, is_utf8}
use Rattle.std.proofs.lemmas.Str.{is_utf8-from_IsUtf8, IsUtf8-from_is_utf8}
use Rattle.change_text.proofs.field.is_alias.Goals as goal

not-utf8 : (bs : List ℕ) (is : Bool) → is_utf8 bs ≡ is → (IsUtf8 bs → ⊥) → is ≡ false
not-utf8 bs true e none = absurd (none (IsUtf8-from_is_utf8 bs e))
not-utf8 bs false e none = refl

pub returns-in-Ok : goal.returns-in-Ok
returns-in-Ok c = let utf8 = is_utf8-from_IsUtf8 c.args.bytes.now c.in-Ok.ensures.cases.1 in search (rules, utf8)

pub returns-in-Err : goal.returns-in-Err
returns-in-Err c = let utf8 = not-utf8 c.args.bytes.now (is_utf8 c.args.bytes.now) refl c.in-Err.ensures.cases.0 in search (rules, utf8)
