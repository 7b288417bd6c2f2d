use Rattle.std.proofs.Common.{◌∙◌, sym, refl}
use Rattle.store_events.proofs.EventTests.{up_tested}
use Rattle.store_events.proofs.nodes.up_refusal.Goals as goal

pub returns-then-not-is_member : goal.returns-then-not-is_member
returns-then-not-is_member c = up_tested c.args.parts.now c.args.node _ (let e = sym c.is_member.ensures ∙ c.if-not-is_member.true in rw e refl)

pub returns-then-is_up : goal.returns-then-is_up
returns-then-is_up c = up_tested c.args.parts.now c.args.node _ (let e = sym c.is_member.ensures ∙ c.if-not-is_member.false in let f = sym c.is_up.ensures ∙ c.if-is_up.true in rw (e, f) refl)

pub returns : goal.returns
returns c = up_tested c.args.parts.now c.args.node _ (let e = sym c.is_member.ensures ∙ c.if-not-is_member.false in let f = sym c.is_up.ensures ∙ c.if-is_up.false in rw (e, f) refl)
