use Rattle.std.proofs.Common.{◌∙◌, sym, ap, subst}
use Rattle.std.specs.Prelude.{Some, option_and_then}
use Rattle.plan_text.specs.declared.step.Step.{Step}
use Rattle.plan_check.specs.Approval.{Approval}
use Rattle.store_parts.specs.declared.slots.SlotNow.{SlotNow}
use Rattle.store_parts.specs.Kept.{Tells}
use Rattle.store_parts.specs.Parts.{ring_of, plan_of, kept_of}
use Rattle.store_events.proofs.RequiresMet.{copy_there, is_no_other}
use Rattle.store_events.proofs.StepsOn.{read_at, read_within}
use Rattle.store_events.proofs.ChunkCopies.{copy_known, chunk_few, slot_known, source_known, kept_there, given, copied_nowhere}
use Rattle.store_events.proofs.chunks.chunk_copy.Goals as goal

pub step-requires : goal.step-requires
step-requires c =
    let a = c.args.parts.now in
    read_within (plan_of a) c.plan.result.now c.args.step c.plan.ensures.value (copy_there (plan_of a) c.args.step (copy_known a c.requires.sound c.args.step c.args.chunk c.requires.passes))

pub unreachable-requires : goal.unreachable-requires
unreachable-requires c =
    let a = c.args.parts.now in
    is_no_other (plan_of a) c.args.step c.step.result.now (copy_known a c.requires.sound c.args.step c.args.chunk c.requires.passes)
    (read_at (plan_of a) c.plan.result.now c.args.step c.step.result.now c.plan.ensures.value c.step.ensures.value) c.in_default.not-Copy

pub unreachable-requires-in_default-at : goal.unreachable-requires-in_default-at
unreachable-requires-in_default-at c =
    let a = c.args.parts.now in
    let at = read_at (plan_of a) c.plan.result.now c.args.step c.step.result.now c.plan.ensures.value c.step.ensures.value ∙ ap (λ (s : Step). Some s) c.in-Copy.is in
    kept_there a.slots c.in-Copy.slot (slot_known a c.requires.sound c.args.step c.in-Copy.slot c.in-Copy.source at) (sym c.at.ensures ∙ c.in_default-at.is)

pub give_source-requires-clause-chunk : goal.give_source-requires-clause-chunk
give_source-requires-clause-chunk c = chunk_few c.args.parts.now c.requires.sound c.args.step c.args.chunk c.requires.passes

pub give_source-requires-clause-kept : goal.give_source-requires-clause-kept
give_source-requires-clause-kept c =
    let a = c.args.parts.now in
    let at = read_at (plan_of a) c.plan.result.now c.args.step c.step.result.now c.plan.ensures.value c.step.ensures.value ∙ ap (λ (s : Step). Some s) c.in-Copy.is in
    source_known a c.requires.sound c.args.step c.in-Copy.slot c.in-Copy.source at

pub give_source-requires-clause-mirror : goal.give_source-requires-clause-mirror
give_source-requires-clause-mirror c = ap (option_and_then (λ (x : SlotNow). x.mirror)) (sym c.at.ensures ∙ c.in-Some.is) ∙ c.in-Some-mirror.is

pub mark-requires : goal.mark-requires
mark-requires c = chunk_few c.args.parts.now c.requires.sound c.args.step c.args.chunk c.requires.passes

pub mark-requires-2 : goal.mark-requires-2
mark-requires-2 c = chunk_few c.args.parts.now c.requires.sound c.args.step c.args.chunk c.requires.passes

pub returns-in_default-mirror-clause-ok : goal.returns-in_default-mirror-clause-ok
returns-in_default-mirror-clause-ok c w m =
    let a = c.args.parts.now in
    let at = read_at (plan_of a) c.plan.result.now c.args.step c.step.result.now c.plan.ensures.value c.step.ensures.value ∙ ap (λ (s : Step). Some s) c.in-Copy.is in
    copied_nowhere (ring_of a) (plan_of a) (kept_of a) w m c.args.step c.args.chunk (sym (c.requires.passes w m)) c.in-Copy.slot c.in-Copy.source at c.in-Some.served (sym c.at.ensures ∙ c.in-Some.is)
    c.mark.new.self c.mark.ensures.steps c.mark.ensures.marks c.in_default-mirror.is

pub returns-clause-ok : goal.returns-clause-ok
returns-clause-ok c w m =
    let a = c.args.parts.now in
    let at = read_at (plan_of a) c.plan.result.now c.args.step c.step.result.now c.plan.ensures.value c.step.ensures.value ∙ ap (λ (s : Step). Some s) c.in-Copy.is in
    let k = kept_of c.give_source.new.parts in
    let gives = (c.in_ok-give_source.ensures).ok in
    let on = given (ring_of a) (plan_of a) (kept_of a) w m c.args.step c.args.chunk (sym (c.requires.passes w m)) c.in-Copy.slot c.in-Copy.source at c.in-Some.served (sym c.at.ensures ∙ c.in-Some.is)
    c.in-Some-mirror.mirror gives.versions k c.mark-2.new.self c.in-Some-mirror.is (gives.shows w m) gives.others gives.merged gives.rest c.mark-2.ensures.steps c.mark-2.ensures.marks in
    (on.0, on.1, subst (λ (both : Approval). Tells both.ring both.plan (record k { steps = c.mark-2.new.self }) on.0) (sym (c.in_ok-give_source.ensures).follows.approved) on.2)
