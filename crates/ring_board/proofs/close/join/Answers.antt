-- Each seat that is taken belongs to the table, and its view is taken over.
use Rattle.std.proofs.Common.{◌≡◌, List, [], ◌∷◌, ◌++◌, length, refl, sym, ap, ◌∙◌, subst, append_assoc, arith}
use Rattle.std.specs.List.{AllByRecursion}
use Rattle.std.proofs.lemmas.List.Elements.{recursion_from_All}
use Rattle.atomic_table.specs.Seated.{TableId}
use Rattle.ring_board.specs.Seats.{SeatView}
use Rattle.ring_board.specs.Views.{view_of, together, joined, IsSeat}
use Rattle.ring_board.specs.Kept.{Knower}
use Rattle.ring_board.proofs.Closing.{within}
use Rattle.ring_board.proofs.Steps.{joining}
use Rattle.ring_board.proofs.close.join.Goals as goal

-- a seat in the list is one of the table's
ours : (id : TableId) (all xs zs : List SeatView) (s : SeatView) → AllByRecursion (λ s. s.board ≡ id) all → all ≡ xs ++ s ∷ zs → s.board ≡ id
ours id all xs zs s h e = within (λ (s : SeatView). s.board ≡ id) xs zs s (subst (AllByRecursion (λ (s : SeatView). s.board ≡ id)) e h)

pub loop-next-init : goal.loop-next-init
loop-next-init c = (
  c.in-Some.last ∷ [],
  c.in-Some.ensures.items,
  ap (λ (z : SeatView). z.board) c.last.view_is
      ∙ ours c.args.shared.now.table_id c.args.seats.items c.pop.new.self.items [] c.in-Some.last (recursion_from_All (λ (s : SeatView). s.board ≡ c.args.shared.now.table_id) c.args.seats.items c.requires.boards) c.in-Some.ensures.items,
  c.last.invariant.own ∙ ap (λ (z : SeatView). let m : Knower = (view_of z, []) in m) c.last.view_is,
  (subst IsSeat c.last.view_is c.last.invariant.seat, tt),
)

pub join_seat-requires : goal.join_seat-requires
join_seat-requires c =
    let before = c.loop-next.invariant in
    let items : c.args.seats.items ≡ c.pop-in-loop-next.new.self.items ++ c.in-Some-pop.next ∷ before.0 =
    before.1 ∙ ap (λ (l : List SeatView). l ++ before.0) c.in-Some-pop.ensures.items ∙ append_assoc c.pop-in-loop-next.new.self.items (c.in-Some-pop.next ∷ []) before.0 in (
      before.2,
      ap (λ (z : SeatView). z.board) c.next.view_is
          ∙ ours c.args.shared.now.table_id c.args.seats.items c.pop-in-loop-next.new.self.items before.0 c.in-Some-pop.next (recursion_from_All (λ (s : SeatView). s.board ≡ c.args.shared.now.table_id) c.args.seats.items c.requires.boards) items,
      ap (λ (m : Knower). m.1) c.next.invariant.own,
      c.requires.words,
      joining c.args.shared.now.key c.loop-next.seat.id c.loop-next.seat.me.0 c.next.inside.seat.id c.next.inside.seat.me.0,
    )

pub loop-next-preserved : goal.loop-next-preserved
loop-next-preserved c =
    let before = c.loop-next.invariant in (
      c.in-Some-pop.next ∷ before.0,
      before.1 ∙ ap (λ (l : List SeatView). l ++ before.0) c.in-Some-pop.ensures.items ∙ append_assoc c.pop-in-loop-next.new.self.items (c.in-Some-pop.next ∷ []) before.0,
      c.join_seat.ensures.0 ∙ before.2,
      (let own : c.next.inside.seat.me ≡ (view_of c.in-Some-pop.next, []) = c.next.invariant.own ∙ ap (λ (z : SeatView). let m : Knower = (view_of z, []) in m) c.next.view_is in
          c.join_seat.ensures.2 ∙ (λ i. (together (before.3 i).0 (own i).0, (before.3 i).1))),
      (subst IsSeat c.next.view_is c.next.invariant.seat, before.4),
    )

empty : (xs : List SeatView) → length xs ≡ 0 → xs ≡ []
empty [] e = refl
empty (x ∷ xs) e = absurd (omega arith)

pub returns : goal.returns
returns c =
    let before = c.loop-next.invariant in
    let none_left = c.in_default-pop.ensures.cases.0 in
    let counted = c.loop-next.seats.ok in
    let count : length c.loop-next.seats.items ≡ 0 = omega arith in
    let all : before.0 ≡ c.args.seats.items = sym (before.1 ∙ ap (λ (l : List SeatView). l ++ before.0) (empty c.loop-next.seats.items count)) in
    record {
      seat = (before.2, before.3 ∙ ap (λ (l : List SeatView). let m : Knower = (joined l, []) in m) all);
      seats = subst (AllByRecursion IsSeat) all before.4;
    }
