use Rattle.std.proofs.Common.{◌∙◌, ◌≡◌, false, true, nat_lt, sym, ap, refl, arith, le-ltb, lt-ltb}
use Rattle.ring_table.specs.Value.{RingValue}
use Rattle.store_parts.specs.Parts.{ring_of}
use Rattle.store_events.proofs.EventTests.{lose_tested}
use Rattle.store_events.proofs.nodes.lose_refusal.Goals as goal

pub returns-then-not-is_member : goal.returns-then-not-is_member
returns-then-not-is_member c = lose_tested c.args.parts.now c.args.node _ (let e = sym c.is_member.ensures ∙ c.if-not-is_member.true in rw e refl)

pub returns-then-parts-loss : goal.returns-then-parts-loss
returns-then-parts-loss c =
    let a = c.args.parts.now in
    let e = sym c.is_member.ensures ∙ c.if-not-is_member.false in
    let same : c.loss.result ≡ (ring_of a).loss = c.loss.ensures.value ∙ ap (λ (r : RingValue). r.loss) c.ring.ensures.value in
    let f : nat_lt a.losses (ring_of a).loss ≡ false = le-ltb a.losses (ring_of a).loss (let l = c.if-parts-loss.true in omega arith) in
    lose_tested a c.args.node _ (rw (e, f) refl)

pub returns : goal.returns
returns c =
    let a = c.args.parts.now in
    let e = sym c.is_member.ensures ∙ c.if-not-is_member.false in
    let same : c.loss.result ≡ (ring_of a).loss = c.loss.ensures.value ∙ ap (λ (r : RingValue). r.loss) c.ring.ensures.value in
    let f : nat_lt a.losses (ring_of a).loss ≡ true = lt-ltb a.losses (ring_of a).loss (let l = c.if-parts-loss.false in omega arith) in
    lose_tested a c.args.node _ (rw (e, f) refl)
