use Rattle.std.proofs.Common.{◌≡◌, ◌∙◌, ◌+◌, ◌*◌, ◌<◌, inl, inr, length, ap, arith}
use Rattle.std.proofs.lemmas.Bool.{cases_eq}
use Rattle.ring_store.specs.Seats.{seat_of}
use Rattle.ring_store.specs.Stores.{map_of}
use Rattle.ring_store.proofs.Changes.{row_becomes, other_stays}
use Rattle.ring_store.proofs.stores.Stores.drop_slot.Goals as goal

pub chunks-preserved : goal.chunks-preserved
chunks-preserved c =
    let a = c.chunks.self in
    let i = 16 * c.args.slot.partition + c.chunks.chunk in
    let row = c.index_mut-maps.result.now in
    let w = c.drop_seat.new.self in
    let seat = seat_of c.args.node.0 c.args.slot in
    let less : i < length a.rows.items = (let all = a.whole in let space = c.chunks.invariant.space in omega arith) in
    let stays = other_stays a i row w less c.index_mut-maps.ensures.value seat c.drop_seat.ensures.others in
    record {
      space = c.chunks.invariant.space;
      gone = λ d l. elim (cases_eq d c.chunks.chunk) [
        | inl e ↦ (let same : 16 * c.args.slot.partition + d ≡ i = omega arith in rw same (ap (λ o. map_of o seat) (row_becomes a i row w less c.index_mut-maps.ensures.value) ∙ c.drop_seat.ensures.gone))
        | inr ne ↦ stays (16 * c.args.slot.partition + d) seat (λ e t. ne (omega arith)) ∙ c.chunks.invariant.gone d (omega arith)
      ];
      others = λ j t apart. stays j t (λ e u. apart c.chunks.chunk (omega arith) e u) ∙ c.chunks.invariant.others j t apart;
    }
