-- The ring and the plan with which a text begins, and facts of what a call returns.
use Rattle.std.proofs.Common.{ap, IfOk, Result, Ok, Err}
use Rattle.ring_names.specs.declared.refusal.Refusal.{Refusal}
use Rattle.texts.specs.Judging.{Gives, map_ok}
use Rattle.texts.specs.Left.{Left, Reads}
use Rattle.plan_goal.specs.Certs.{parts}
use Rattle.plan_goal.specs.declared.cert.Front.{Front}

-- what was read of the two sections is what reading the text gives, whatever is left
pub gives-front : (r : Result Front Refusal) (left : Left) (read : Result (Front × Left) Refusal)
    → Reads r left read → Gives (map_ok parts r) (map_ok (λ x. parts x.0) read)
gives-front (Ok front) left read is = ap (map_ok (λ x. parts x.0)) is
gives-front (Err e) left read is = λ other. ap (map_ok (λ x. parts x.0)) (is other)

-- a fact of a value that two others give
pub of_both : {T E : Type 0} {P Q S : T → Type 0} (r : Result T E) → IfOk r P → IfOk r Q → ((x : T) → P x → Q x → S x) → IfOk r S
of_both (Ok x) p q f = f x p q
of_both (Err e) p q f = tt
