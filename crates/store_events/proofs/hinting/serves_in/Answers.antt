use Rattle.std.proofs.Common.{◌∙◌, ◌<◌, sym, ap, subst}
use Rattle.plan_runs.specs.World.{slot_at}
use Rattle.plan_runs.proofs.Passing.{some_is}
use Rattle.store_parts.specs.GuardsKept.{is_served_kept}
use Rattle.store_parts.specs.Parts.{ring_of}
use Rattle.store_events.proofs.hinting.serves_in.Goals as goal

pub returns-then-is_served : goal.returns-then-is_served
returns-then-is_served c =
    let a = c.args.parts.now in
    sym (some_is (ring_of a).n (λ i. is_served_kept a.slots (slot_at c.args.partition i) c.args.node.0) c.indexes.index
    (subst (λ n. c.indexes.index < n) (c.n-index-end.ensures.value ∙ ap (λ r. r.n) c.ring.ensures.value) c.indexes-test.true) (sym c.is_served.ensures ∙ c.if-is_served.true))
