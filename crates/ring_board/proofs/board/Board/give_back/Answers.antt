-- A step that is given back is free, as the rule asks of a store.
use Rattle.std.proofs.Common.{refl}
use Rattle.ring_board.proofs.Seats.{on, whose, may-give, after-give}
use Rattle.ring_board.proofs.board.Board.give_back.Goals as goal

pub store-requires : goal.store-requires
store-requires c =
    let here = on c.seat.inside c.args.seat.now c.self.inside c.args.self.now c.args.step c.seat.view_is c.seat.invariant c.self.view_is c.self.invariant c.requires.board c.requires.step in
    let mine = whose c.args.seat.now c.args.step here.is c.requires.held in
    may-give c.seat.inside c.args.seat.now c.self.inside c.args.self.now c.args.step here mine.0 mine.1 c.requires.held

pub invariant_of-seat : goal.invariant_of-seat
invariant_of-seat c =
    let here = on c.seat.inside c.args.seat.now c.self.inside c.args.self.now c.args.step c.seat.view_is c.seat.invariant c.self.view_is c.self.invariant c.requires.board c.requires.step in
    let mine = whose c.args.seat.now c.args.step here.is c.requires.held in
    (after-give c.seat.inside c.args.seat.now c.self.inside c.args.self.now c.args.step here (record { seat = c.store.new.seat; worker = c.seat.inside.worker }) c.store.ensures.0 refl mine.0 mine.1 c.store.ensures.2).1

pub returns : goal.returns
returns c =
    let here = on c.seat.inside c.args.seat.now c.self.inside c.args.self.now c.args.step c.seat.view_is c.seat.invariant c.self.view_is c.self.invariant c.requires.board c.requires.step in
    let mine = whose c.args.seat.now c.args.step here.is c.requires.held in
    (after-give c.seat.inside c.args.seat.now c.self.inside c.args.self.now c.args.step here (record { seat = c.store.new.seat; worker = c.seat.inside.worker }) c.store.ensures.0 refl mine.0 mine.1 c.store.ensures.2).0
