use Rattle.std.proofs.Common.{◌≡◌, ◌∙◌, ℕ, ◌+◌, ap, sym, subst, arith}
use Rattle.ring_table.specs.Value.{RingValue}
use Rattle.ring_core.specs.World.{ring_of}
use Rattle.ring_core.proofs.Masks.{Masked, mask_with, mask_without}
use Rattle.ring_core.proofs.RunPromises.{mask_meets}
use Rattle.ring_core.proofs.world.World.held_slots.Goals as goal
use Rattle.ring_core.proofs.world.World.held_slots.Goals.{then-holds, else-holds}

-- src/reads.rt:164:9
pub loop-index-preserved : goal.loop-index-preserved
loop-index-preserved c =
    let few = c.n-n.ensures.valid.slots in
    let n = ap (λ (r : RingValue). r.n) c.ring.ensures.value in
    elim c.if-holds.branch [
      | then-holds w ↦ subst (λ (mask : ℕ). Masked c.args.self.now c.args.put mask (c.loop-index.index + 1)) (sym w.mask-is)
          (mask_with c.args.self.now c.args.put c.loop-index.mask c.loop-index.index (let t = c.loop-index-test.true in let v = c.n-n.ensures.value in omega arith) (λ u m. sym (c.holds.ensures u m) ∙ w.if-holds.true) c.loop-index.invariant)
      | else-holds w ↦ subst (λ (mask : ℕ). Masked c.args.self.now c.args.put mask (c.loop-index.index + 1)) (sym w.mask-is)
          (mask_without c.args.self.now c.args.put c.loop-index.mask c.loop-index.index (λ u m. sym (c.holds.ensures u m) ∙ w.if-holds.false) c.loop-index.invariant)
    ]

-- what the mask says once all slots were looked at
masked : (c : goal.After-loop-index) → Masked c.args.self.now c.args.put c.loop-index.mask (ring_of c.args.self.now).n
masked c =
    let n : c.loop-index.index ≡ (ring_of c.args.self.now).n =
    (let a = c.loop-index-test.false in let b = c.loop-index.auto.index-end in omega arith) ∙ (c.n-n.ensures.value ∙ ap (λ (r : RingValue). r.n) c.ring.ensures.value) in
    subst (λ (k : ℕ). Masked c.args.self.now c.args.put c.loop-index.mask k) n c.loop-index.invariant

pub returns-clause-now : goal.returns-clause-now
returns-clause-now c = masked c

pub returns-clause-acknowledged : goal.returns-clause-acknowledged
returns-clause-acknowledged c w m acked = mask_meets c.args.self.now c.args.put c.loop-index.mask m.approved.keeps m.is_ring.slots (masked c) w m acked
