use Rattle.std.proofs.Common.{◌∙◌, ℕ, List, sym, ap}
use Rattle.std.specs.List.{list_any}
use Rattle.plan_text.specs.declared.step.Source.{Source}
use Rattle.plan_stage.specs.Parties.{source_slots}
use Rattle.plan_runs.specs.World.{slot_at}
use Rattle.ring_core.specs.Transfers.{owns_kept}
use Rattle.ring_core.proofs.OpenCopies.{any_index}
use Rattle.ring_core.proofs.world.World.gives.Goals as goal

pub returns-in-Slots : goal.returns-in-Slots
returns-in-Slots c =
    let owns = owns_kept c.args.self.now.parts.slots c.args.node.0 in
    c.owns_some.ensures
    ∙ (ap (λ (is : List ℕ). list_any (λ i. owns (slot_at c.args.slot.partition i)) is) c.as_slice.ensures
    ∙ (sym (any_index owns c.args.slot.partition c.in-Slots.indexes)
    ∙ ap (λ (from : Source). list_any owns (source_slots c.args.slot from)) (sym c.in-Slots.is)))
