-- A look tells whether the step is finished, as the rule has it of a load.
use Rattle.std.proofs.Common.{refl, arith}
use mathlib.Core.Logic.{dite}
use native.Mathlib.Decide.{dec_le}
use Rattle.ring_board.proofs.Seats.{on, may-look, after-look, looked-known, looked-done, looked-held}
use Rattle.ring_board.proofs.board.Board.is_done.Goals as goal

pub load-requires : goal.load-requires
load-requires c = may-look c.seat.inside c.args.seat.now c.self.inside c.args.self.now c.args.step (on c.seat.inside c.args.seat.now c.self.inside c.args.self.now c.args.step c.seat.view_is c.seat.invariant c.self.view_is c.self.invariant c.requires.board c.requires.step)

pub invariant_of-seat : goal.invariant_of-seat
invariant_of-seat c =
    let here = on c.seat.inside c.args.seat.now c.self.inside c.args.self.now c.args.step c.seat.view_is c.seat.invariant c.self.view_is c.self.invariant c.requires.board c.requires.step in
    let after = after-look c.seat.inside c.args.seat.now c.self.inside c.args.self.now c.args.step here (record { seat = c.load.new.seat; worker = c.seat.inside.worker }) c.load.ensures.0 refl c.load.result c.load.ensures.2 in
    dite (dec_le 128 c.load.result) (λ h. (after.0 h).1) (λ h. (after.1 (omega (arith, h))).1)

pub returns-clause-known : goal.returns-clause-known
returns-clause-known c =
    let here = on c.seat.inside c.args.seat.now c.self.inside c.args.self.now c.args.step c.seat.view_is c.seat.invariant c.self.view_is c.self.invariant c.requires.board c.requires.step in
    let after = after-look c.seat.inside c.args.seat.now c.self.inside c.args.self.now c.args.step here (record { seat = c.load.new.seat; worker = c.seat.inside.worker }) c.load.ensures.0 refl c.load.result c.load.ensures.2 in
    looked-known (record { seat = c.load.new.seat; worker = c.seat.inside.worker }) c.args.seat.now _ c.load.result (λ h. (after.0 h).0) (λ h. (after.1 h).0)

pub returns-clause-for_good : goal.returns-clause-for_good
returns-clause-for_good c =
    let here = on c.seat.inside c.args.seat.now c.self.inside c.args.self.now c.args.step c.seat.view_is c.seat.invariant c.self.view_is c.self.invariant c.requires.board c.requires.step in
    looked-done c.args.seat.now c.args.step c.load.result here.is (after-look c.seat.inside c.args.seat.now c.self.inside c.args.self.now c.args.step here (record { seat = c.load.new.seat; worker = c.seat.inside.worker }) c.load.ensures.0 refl c.load.result c.load.ensures.2).2

pub returns-clause-held : goal.returns-clause-held
returns-clause-held c =
    let here = on c.seat.inside c.args.seat.now c.self.inside c.args.self.now c.args.step c.seat.view_is c.seat.invariant c.self.view_is c.self.invariant c.requires.board c.requires.step in
    looked-held c.args.seat.now c.args.step c.load.result here.is (after-look c.seat.inside c.args.seat.now c.self.inside c.args.self.now c.args.step here (record { seat = c.load.new.seat; worker = c.seat.inside.worker }) c.load.ensures.0 refl c.load.result c.load.ensures.2).2
