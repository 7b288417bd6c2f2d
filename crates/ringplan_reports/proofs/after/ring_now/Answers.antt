use Rattle.std.proofs.Common.{◌≡◌, List, length, ◌∙◌, ap}
use Rattle.std.proofs.Math.Logic.{∥∥₁_map}
use Rattle.std.proofs.lemmas.Result.{IfOk-weaker}
use Rattle.ring_names.specs.declared.ids.NodeId.{NodeId}
use Rattle.ring_table.specs.Value.{RingValue}
use Rattle.ring_table.specs.Changed.{changed}
use Rattle.ring_table.specs.Spelling.{ring_text}
use Rattle.plan_text.specs.declared.step.Planned.{Planned}
use Rattle.ring_core.specs.Tables.{owners_now}
use Rattle.ring_core.specs.World.{plan_of, ring_of}
use Rattle.ringplan_reports.specs.Studies.{members_now}
use Rattle.ringplan_reports.proofs.after.ring_now.Goals as goal

pub returns : goal.returns
returns c =
    let store = c.in_ok-store.store in
    let like = c.ring-ring.result.now in
    let ring = c.args.approved.now.ring in
    let plan = c.args.approved.now.plan in
    let is : like ≡ ring = c.ring-ring.ensures.value in
    let of : ring_of store ≡ ring = c.in_ok-store.ensures.ring in
    let by : plan_of store ≡ plan = c.in_ok-store.ensures.plan in
    IfOk-weaker c.write_ring.result _ _ (λ text left. ∥∥₁_map c.in_ok-store.ensures.ok (λ x.
    let rows = c.as_slice.ensures.value ∙ c.in_ok-rows.ensures.now x.0 x.1 ∙ ap (λ (r : RingValue). owners_now r (plan_of store) x.0) of ∙ ap (λ (p : List Planned). owners_now ring p x.0) by in
    let members = c.as_slice-2.ensures.value ∙ c.in_ok-members.ensures x.0 x.1 ∙ ap (λ (r : RingValue). members_now r (plan_of store) x.0 (length like.nodes)) of
    ∙ ap (λ (p : List Planned). members_now ring p x.0 (length like.nodes)) by ∙ ap (λ (r : RingValue). members_now ring plan x.0 (length r.nodes)) is in
    let same = c.in_ok-left.ensures.ok ∙ ap (λ (r : RingValue). changed r c.as_slice.result.now c.as_slice-2.result.now) is ∙ ap (λ (rs : List (List NodeId)). changed ring rs c.as_slice-2.result.now) rows
    ∙ ap (changed ring (owners_now ring plan x.0)) members in
    (x.0, x.2, left ∙ ap ring_text same))) c.write_ring.ensures.text
