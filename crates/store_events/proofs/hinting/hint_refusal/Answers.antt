use Rattle.std.proofs.Common.{◌∙◌, refl, not, sym, ap, []}
use Rattle.plan_runs.specs.World.{keeps_other}
use Rattle.ring_names.specs.declared.refusal.Refusal.TheVariants.{KeeperTaken}
use Rattle.store_parts.specs.Parts.{ring_of, plan_of, kept_of}
use Rattle.store_events.proofs.EventTests.{other_kept}
use Rattle.store_events.proofs.FirstRefusal.{hint_of_none, hint_no_member, hint_down, hint_serves, hint_last, fails, passes_on}
use Rattle.store_events.proofs.hinting.hint_refusal.Goals as goal

pub returns-in_default : goal.returns-in_default
returns-in_default c w m =
    let a = c.args.parts.now in
    hint_of_none (ring_of a) (plan_of a) (kept_of a) w m c.args.put c.args.index c.args.node (c.in_default.ensures w m)

pub returns-then-not-is_member : goal.returns-then-not-is_member
returns-then-not-is_member c w m =
    let a = c.args.parts.now in
    let s = c.in-Some.ensures w m in
    hint_no_member (ring_of a) (plan_of a) (kept_of a) w m c.args.put c.args.index c.args.node c.in-Some.slot (keeps_other (ring_of a) w c.args.node.0 c.in-Some.slot) s.0 s.1 s.2 refl (sym c.is_member.ensures ∙ c.if-not-is_member.true)

pub returns-then-not-is_up : goal.returns-then-not-is_up
returns-then-not-is_up c w m =
    let a = c.args.parts.now in
    let s = c.in-Some.ensures w m in
    hint_down (ring_of a) (plan_of a) (kept_of a) w m c.args.put c.args.index c.args.node c.in-Some.slot (keeps_other (ring_of a) w c.args.node.0 c.in-Some.slot) s.0 s.1 s.2 refl (sym c.is_member.ensures ∙ c.if-not-is_member.false) (sym c.is_up.ensures ∙ c.if-not-is_up.true)

pub returns-then-serves_in : goal.returns-then-serves_in
returns-then-serves_in c w m =
    let a = c.args.parts.now in
    let s = c.in-Some.ensures w m in
    hint_serves (ring_of a) (plan_of a) (kept_of a) w m c.args.put c.args.index c.args.node c.in-Some.slot (keeps_other (ring_of a) w c.args.node.0 c.in-Some.slot) s.0 s.1 s.2 refl (sym c.is_member.ensures ∙ c.if-not-is_member.false) (sym c.is_up.ensures ∙ c.if-not-is_up.false) (sym c.serves_in.ensures ∙ c.if-serves_in.true)

pub returns-then-keeps_other : goal.returns-then-keeps_other
returns-then-keeps_other c w m =
    let a = c.args.parts.now in
    let s = c.in-Some.ensures w m in
    let taken = other_kept a c.args.node.0 c.in-Some.slot c.keeps_other.result c.requires.sized c.keeps_other.ensures w m in
    fails (not c.keeps_other.result) KeeperTaken [] (ap not c.if-keeps_other.true)
    ∙ hint_last (ring_of a) (plan_of a) (kept_of a) w m c.args.put c.args.index c.args.node c.in-Some.slot c.keeps_other.result s.0 s.1 s.2 taken (sym c.is_member.ensures ∙ c.if-not-is_member.false) (sym c.is_up.ensures ∙ c.if-not-is_up.false) (sym c.serves_in.ensures ∙ c.if-serves_in.false)

pub returns : goal.returns
returns c w m =
    let a = c.args.parts.now in
    let s = c.in-Some.ensures w m in
    let taken = other_kept a c.args.node.0 c.in-Some.slot c.keeps_other.result c.requires.sized c.keeps_other.ensures w m in
    passes_on (not c.keeps_other.result) KeeperTaken [] (ap not c.if-keeps_other.false)
    ∙ hint_last (ring_of a) (plan_of a) (kept_of a) w m c.args.put c.args.index c.args.node c.in-Some.slot c.keeps_other.result s.0 s.1 s.2 taken (sym c.is_member.ensures ∙ c.if-not-is_member.false) (sym c.is_up.ensures ∙ c.if-not-is_up.false) (sym c.serves_in.ensures ∙ c.if-serves_in.false)
