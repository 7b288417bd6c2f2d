use Rattle.std.proofs.Common.{◌∙◌, sym, refl}
use Rattle.store_events.proofs.copies.not_open.Goals as goal

pub returns-then-not-has_copy : goal.returns-then-not-has_copy
returns-then-not-has_copy c = let e = sym c.has_copy.ensures ∙ c.if-not-has_copy.true in rw e refl

pub returns-then-not-is_open : goal.returns-then-not-is_open
returns-then-not-is_open c = let e = sym c.has_copy.ensures ∙ c.if-not-has_copy.false in let f = sym c.is_open.ensures ∙ c.if-not-is_open.true in rw (e, f) refl

pub returns : goal.returns
returns c = let e = sym c.has_copy.ensures ∙ c.if-not-has_copy.false in let f = sym c.is_open.ensures ∙ c.if-not-is_open.false in rw (e, f) refl
