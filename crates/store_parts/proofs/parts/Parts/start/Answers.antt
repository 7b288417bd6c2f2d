use Rattle.std.proofs.Common.{◌∙◌, ℕ, List, length, map, refl, sym, ap, subst}
use Rattle.std.specs.Prelude.{option_map, replicate}
use Rattle.ring_table.specs.Value.{RingValue, owner_of}
use Rattle.ring_table.specs.Valid.{IsRing}
use Rattle.plan_text.specs.declared.step.Planned.{Planned}
use Rattle.plan_text.specs.Valid.{IsPlan}
use Rattle.store_parts.specs.KeyTable.{KeyTable}
use Rattle.store_parts.specs.Nodes.{node_at_start}
use Rattle.store_parts.specs.Slots.{slot_at_start}
use Rattle.store_parts.specs.Steps.{step_at_start}
use Rattle.ring_store.specs.Stores.{held_at}
use Rattle.ring_hints.specs.Hints.{hinted_at}
use Rattle.store_parts.specs.PutsMeet.{AreNumbered}
use Rattle.store_parts.proofs.Numbers.{nothing_at, placed_nothing}
use Rattle.store_parts.proofs.PutsLists.{none_numbered}
use Rattle.store_parts.proofs.TellsStart.{tells_start}
use Rattle.store_parts.proofs.parts.Parts.start.Goals as goal

-- src/parts.rt:37:5
pub returns-clause-opening : goal.returns-clause-opening
returns-clause-opening c =
    let e = c.ring-ring.ensures.value in
    let f = c.plan.ensures.value in
    tells_start c.args.approved.now.ring c.args.approved.now.plan _
    (subst (λ (r : RingValue). IsRing r) e c.q-q.ensures.valid)
    (subst (λ (p : List Planned). IsPlan p) f c.len.ensures.valid)
    c.ring-ring.ensures.approved
    (c.in_ok-nodes.ensures.start ∙ ap (λ (r : RingValue). map node_at_start r.nodes) e)
    (c.in_ok-steps.ensures.start ∙ ap (λ (n : ℕ). replicate n step_at_start) (c.len.ensures.value ∙ ap (λ (p : List Planned). length p) f))
    (λ t. c.in_ok-slots.ensures.start t ∙ ap (λ (r : RingValue). option_map slot_at_start (owner_of r t)) e)
    (ap (λ (k : KeyTable). k.keys) c.new.ensures)
    c.new-2.ensures
    c.new-3.ensures
    c.new-4.ensures
    refl
    (λ x s. nothing_at c.new.result (held_at c.in_ok-stores.stores x s) (c.in_ok-stores.ensures.versions x s))
    (λ x s. nothing_at c.new.result (hinted_at c.new-5.result x s) (c.new-5.ensures x s))

pub returns-clause-sized : goal.returns-clause-sized
returns-clause-sized c =
    let q = c.q-q.ensures.value ∙ ap (λ (r : RingValue). r.q) c.ring-ring.ensures.value in
    record {
      space = c.in_ok-stores.ensures.space ∙ q;
      keys = ap (λ (t : KeyTable). t.q) c.new.ensures ∙ q;
      numbered = subst (λ (t : KeyTable). AreNumbered t.keys) (sym c.new.ensures) none_numbered;
      stored = λ x s. placed_nothing c.new.result (held_at c.in_ok-stores.stores x s) (c.in_ok-stores.ensures.versions x s);
      hinted = λ x s. placed_nothing c.new.result (hinted_at c.new-5.result x s) (c.new-5.ensures x s);
    }
