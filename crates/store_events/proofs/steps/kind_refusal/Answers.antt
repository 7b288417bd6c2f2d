use Rattle.std.proofs.Common.{◌∙◌, sym, refl}
use Rattle.store_events.proofs.EventTests.{mirror_tested, retire_tested}
use Rattle.store_events.proofs.steps.kind_refusal.Goals as goal

pub returns-then-keeps_other : goal.returns-then-keeps_other
returns-then-keeps_other c =
    let e = sym c.is_up.ensures ∙ c.if-not-is_up.false in
    let f = c.if-keeps_other.true in
    mirror_tested c.args.parts.now c.args.step.now c.in-Mirror.slot c.in-Mirror.node c.keeps_other.result _ c.requires c.in-Mirror.is c.keeps_other.ensures (rw (e, f) refl)

pub returns-else-keeps_other : goal.returns-else-keeps_other
returns-else-keeps_other c =
    let e = sym c.is_up.ensures ∙ c.if-not-is_up.false in
    let f = c.if-keeps_other.false in
    mirror_tested c.args.parts.now c.args.step.now c.in-Mirror.slot c.in-Mirror.node c.keeps_other.result _ c.requires c.in-Mirror.is c.keeps_other.ensures (rw (e, f) refl)

pub returns-then-keeps_any : goal.returns-then-keeps_any
returns-then-keeps_any c = (let f = c.if-keeps_any.true in retire_tested c.args.parts.now c.args.step.now c.in-Retire.node c.keeps_any.result _ c.requires c.in-Retire.is c.keeps_any.ensures (rw f refl))

pub returns-else-keeps_any : goal.returns-else-keeps_any
returns-else-keeps_any c = (let f = c.if-keeps_any.false in retire_tested c.args.parts.now c.args.step.now c.in-Retire.node c.keeps_any.result _ c.requires c.in-Retire.is c.keeps_any.ensures (rw f refl))
