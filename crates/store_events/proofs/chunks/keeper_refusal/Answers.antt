use Rattle.std.proofs.Common.{◌∙◌, sym, ap}
use Rattle.std.specs.Prelude.{Option, Some, option_map}
use Rattle.ring_names.specs.declared.ids.NodeId.{NodeId}
use Rattle.ring_names.specs.declared.refusal.Refusal.TheVariants.{NodeDown}
use Rattle.plan_text.specs.declared.step.Step.{Step}
use Rattle.store_parts.specs.Parts.{plan_of}
use Rattle.store_events.proofs.RequiresMet.{copy_there, is_no_other}
use Rattle.store_events.proofs.StepsOn.{read_at, read_within}
use Rattle.store_events.proofs.ChunkTests.{keepers_tested}
use Rattle.store_events.proofs.chunks.keeper_refusal.Goals as goal

pub step-requires : goal.step-requires
step-requires c =
    let a = c.args.parts.now in
    read_within (plan_of a) c.plan.result.now c.args.step c.plan.ensures.value (copy_there (plan_of a) c.args.step c.requires.copy)

pub unreachable-requires : goal.unreachable-requires
unreachable-requires c =
    let a = c.args.parts.now in
    is_no_other (plan_of a) c.args.step c.step.result.now c.requires.copy
    (read_at (plan_of a) c.plan.result.now c.args.step c.step.result.now c.plan.ensures.value c.step.ensures.value) c.in_default.not-Copy

pub returns-in-Some : goal.returns-in-Some
returns-in-Some c w m =
    let a = c.args.parts.now in
    let at = read_at (plan_of a) c.plan.result.now c.args.step c.step.result.now c.plan.ensures.value c.step.ensures.value ∙ ap (λ (s : Step). Some s) c.in-Copy.is in
    ap (λ (o : Option NodeId). option_map (λ (x : NodeId). NodeDown x.0) o) (sym c.in-Some.is)
    ∙ keepers_tested a c.args.step c.args.chunk c.in-Copy.slot c.in-Copy.source at w m c.least_keeper.result (c.least_keeper.ensures w m)

pub returns-in-None : goal.returns-in-None
returns-in-None c w m =
    let a = c.args.parts.now in
    let at = read_at (plan_of a) c.plan.result.now c.args.step c.step.result.now c.plan.ensures.value c.step.ensures.value ∙ ap (λ (s : Step). Some s) c.in-Copy.is in
    ap (λ (o : Option NodeId). option_map (λ (x : NodeId). NodeDown x.0) o) (sym c.in-None.is)
    ∙ keepers_tested a c.args.step c.args.chunk c.in-Copy.slot c.in-Copy.source at w m c.least_keeper.result (c.least_keeper.ensures w m)
