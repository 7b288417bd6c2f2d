use Rattle.std.proofs.Common.{List, subst}
use Rattle.std.proofs.Math.Logic.{∥∥₁_map}
use Rattle.ring_table.specs.Value.{RingValue}
use Rattle.plan_text.specs.declared.step.Planned.{Planned}
use Rattle.plan_runs.specs.declared.event.Entry.{Entry}
use Rattle.ring_core.specs.Replays.{IsHistory}
use Rattle.plan_around.specs.Around.{GoesAround}
use Rattle.plan_around.specs.Chosen.{GoesBy}
use Rattle.plan_around.proofs.around.around_read.Goals as goal

pub go_by_any-requires : goal.go_by_any-requires
go_by_any-requires c = record {
  ring = c.in_ok-store.ensures.ring;
  plan = c.in_ok-store.ensures.plan;
  replays = c.in_ok-store.ensures.ok;
}

pub returns-in-Ok : goal.returns-in-Ok
returns-in-Ok c =
    let read = c.args.halted.replay in
    let asked = c.args.asked in
    let text = c.in-Ok.text.items in
    let approved = c.in_ok-approved.approved in
    let entries = c.as_slice-entries.result.now in
    let same = c.in_ok-approved.ensures.same in
    let run = ∥∥₁_map c.in_ok-store.ensures.ok (λ x. (x.0, x.2)) in (
      subst (λ (h : List Entry). GoesAround asked.detour.extent asked.detour.back read.ring asked.dead.now asked.left.now read.writers read.plan h text) c.as_slice-entries.ensures.value
          (subst (λ (p : List Planned). GoesAround asked.detour.extent asked.detour.back read.ring asked.dead.now asked.left.now read.writers p entries text) same.1
          (subst (λ (r : RingValue). GoesAround asked.detour.extent asked.detour.back r asked.dead.now asked.left.now read.writers approved.plan entries text) same.0 c.in-Ok.ensures.around)),
      subst (λ (h : List Entry). IsHistory read.ring read.plan h) c.as_slice-entries.ensures.value
          (subst (λ (p : List Planned). IsHistory read.ring p entries) same.1 (subst (λ (r : RingValue). IsHistory r approved.plan entries) same.0 run)),
      subst (λ (r : RingValue). GoesBy r c.args.halted.chosen text) same.0 c.in-Ok.ensures.by,
    )
