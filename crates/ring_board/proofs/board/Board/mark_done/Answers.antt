-- A step that is marked done is finished by its worker, as the rule asks of a store.
use Rattle.std.proofs.Common.{Some, refl, sym, ap, ◌∙◌}
use Rattle.ring_board.proofs.Seats.{on, may-finish, after-finish}
use Rattle.ring_board.proofs.board.Board.mark_done.Goals as goal

pub store-requires : goal.store-requires
store-requires c =
    let here = on c.seat.inside c.args.seat.now c.self.inside c.args.self.now c.args.step c.seat.view_is c.seat.invariant c.self.view_is c.self.invariant c.requires.board c.requires.step in
    may-finish c.seat.inside c.args.seat.now c.self.inside c.args.self.now c.args.step here c.from-word.result (sym here.worker ∙ c.in-Some.is ∙ ap Some (sym c.from-word.ensures)) c.requires.held

pub invariant_of-seat : goal.invariant_of-seat
invariant_of-seat c =
    let here = on c.seat.inside c.args.seat.now c.self.inside c.args.self.now c.args.step c.seat.view_is c.seat.invariant c.self.view_is c.self.invariant c.requires.board c.requires.step in
    (after-finish c.seat.inside c.args.seat.now c.self.inside c.args.self.now c.args.step here (record { seat = c.store.new.seat; worker = c.seat.inside.worker }) c.store.ensures.0 refl c.from-word.result (sym here.worker ∙ c.in-Some.is ∙ ap Some (sym c.from-word.ensures)) c.store.ensures.2).1

pub returns : goal.returns
returns c =
    let here = on c.seat.inside c.args.seat.now c.self.inside c.args.self.now c.args.step c.seat.view_is c.seat.invariant c.self.view_is c.self.invariant c.requires.board c.requires.step in
    (after-finish c.seat.inside c.args.seat.now c.self.inside c.args.self.now c.args.step here (record { seat = c.store.new.seat; worker = c.seat.inside.worker }) c.store.ensures.0 refl c.from-word.result (sym here.worker ∙ c.in-Some.is ∙ ap Some (sym c.from-word.ensures)) c.store.ensures.2).0
