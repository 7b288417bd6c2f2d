use Rattle.std.proofs.Common.{◌∙◌, sym, ap}
use Rattle.std.specs.Prelude.{Option, Some, option_map}
use Rattle.ring_names.specs.declared.ids.NodeId.{NodeId}
use Rattle.ring_names.specs.declared.refusal.Refusal.TheVariants.{NodeDown}
use Rattle.plan_text.specs.declared.step.Step.{Step}
use Rattle.store_parts.specs.Parts.{ring_of, plan_of, kept_of}
use Rattle.store_events.proofs.RequiresMet.{known_copy, copy_there, is_no_other}
use Rattle.store_events.proofs.StepsOn.{read_at, read_within}
use Rattle.store_events.proofs.PartiesDown.{party_tested}
use Rattle.store_events.proofs.parties.party_refusal.Goals as goal

pub step-requires : goal.step-requires
step-requires c =
    let a = c.args.parts.now in
    read_within (plan_of a) c.plan.result.now c.args.step c.plan.ensures.value (copy_there (plan_of a) c.args.step (known_copy a c.requires.sound c.args.step (λ w m. (c.requires.ready w m).0)))

pub unreachable-requires : goal.unreachable-requires
unreachable-requires c =
    let a = c.args.parts.now in
    is_no_other (plan_of a) c.args.step c.step.result.now (known_copy a c.requires.sound c.args.step (λ w m. (c.requires.ready w m).0))
    (read_at (plan_of a) c.plan.result.now c.args.step c.step.result.now c.plan.ensures.value c.step.ensures.value) c.in_default.not-Copy

pub returns-in-Some : goal.returns-in-Some
returns-in-Some c w m =
    let a = c.args.parts.now in
    let at = read_at (plan_of a) c.plan.result.now c.args.step c.step.result.now c.plan.ensures.value c.step.ensures.value ∙ ap (λ (s : Step). Some s) c.in-Copy.is in
    let r = c.requires.ready w m in
    party_tested (ring_of a) (plan_of a) (kept_of a) w m c.args.step c.in-Copy.slot c.in-Copy.source at r.1 r.2 _ (ap (λ (o : Option NodeId). option_map (λ (x : NodeId). NodeDown x.0) o) (sym c.in-Some.is ∙ c.least_party.ensures))

pub returns-in-None : goal.returns-in-None
returns-in-None c w m =
    let a = c.args.parts.now in
    let at = read_at (plan_of a) c.plan.result.now c.args.step c.step.result.now c.plan.ensures.value c.step.ensures.value ∙ ap (λ (s : Step). Some s) c.in-Copy.is in
    let r = c.requires.ready w m in
    party_tested (ring_of a) (plan_of a) (kept_of a) w m c.args.step c.in-Copy.slot c.in-Copy.source at r.1 r.2 _ (ap (λ (o : Option NodeId). option_map (λ (x : NodeId). NodeDown x.0) o) (sym c.in-None.is ∙ c.least_party.ensures))
