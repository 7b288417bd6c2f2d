use Rattle.std.specs.Global.{Vec}
use Rattle.std.proofs.Common.{ℕ, ◌∙◌, List, Some, map, sym, ap, subst}
use Rattle.std.proofs.lemmas.Result.{IfOk-weaker}
use Rattle.ring_names.specs.Names.{place}
use Rattle.ring_names.specs.declared.ids.NodeId.{NodeId}
use Rattle.ring_names.specs.declared.ids.Slot.{Slot}
use Rattle.ring_table.specs.Value.{names_of}
use Rattle.plan_runs.specs.declared.back.Back.{Back}
use Rattle.history_text.specs.Replays.{parts_of}
use Rattle.ringplan_request.specs.declared.making.Extent.{Extent}
use Rattle.plan_around.specs.Around.{GoesAround}
use Rattle.plan_around.proofs.around.around_bundle.Goals as goal

pub returns : goal.returns
returns c =
    let read = c.in_ok-halted.halted.replay in
    let asked = c.asked_for-asked.result in
    let options = c.args.options.now in
    let names = ap (λ (xs : List (Vec ℕ)). map (λ name. name.items) xs) c.as_slice.ensures.value ∙ c.in_ok-names.ensures in
    let dead = c.asked_for-asked.ensures.dead ∙ c.as_slice-3.ensures.value in
    let named = ap (λ (ns : List (List ℕ)). map (place (names_of read.ring)) ns) (sym names) ∙ c.in_ok-nodes.ensures ∙ ap (λ (xs : List NodeId). map (λ x. Some x.0) xs) (sym dead) in
    let around = λ (text : List ℕ) (h : GoesAround asked.detour.extent asked.detour.back read.ring asked.dead.now asked.left.now read.writers read.plan read.history.items text).
    subst (λ (extent : Extent). GoesAround extent c.args.detour.back read.ring asked.dead.now options.left.items read.writers read.plan read.history.items text)
    c.asked_for-asked.ensures.extent
    (subst (λ (back : Back). GoesAround asked.detour.extent back read.ring asked.dead.now options.left.items read.writers read.plan read.history.items text) c.asked_for-asked.ensures.back
    (subst (λ (left : List Slot). GoesAround asked.detour.extent asked.detour.back read.ring asked.dead.now left read.writers read.plan read.history.items text) c.asked_for-asked.ensures.left h)) in
    record {
      around = IfOk-weaker c.around_read.result _ _
          (λ v is. record {
            parts = parts_of read;
            chosen = c.in_ok-halted.halted.chosen;
            read = c.in_ok-halted.ensures.read;
            by = is.2;
            dead = asked.dead.now;
            named = named;
            earlier = is.1;
            around = around v.items is.0;
          })
          c.around_read.ensures;
    }
