-- A claim asks what the rule asks of a compare-exchange, and tells what it told.
use Rattle.std.proofs.Common.{◌≡◌, ◌≢◌, ◌∷◌, Some, sym, ap, ◌∙◌, subst, refl}
use mathlib.Core.Logic.{dite}
use native.Mathlib.Decide.{ℕ_discrete}
use Rattle.ring_board.proofs.Seats.{on, may-claim, after-claim}
use Rattle.ring_board.specs.Words.{IsWord}
use Rattle.ring_board.specs.Seats.{Fits, sight}
use Rattle.ring_board.specs.Seated.{shown}
use Rattle.ring_board.proofs.board.Board.claim.Goals as goal
use Rattle.ring_board.proofs.board.Board.claim.Goals.{then-found-eq0, else-found-eq0}

pub compare_exchange-found-requires : goal.compare_exchange-found-requires
compare_exchange-found-requires c =
    let here = on c.seat.inside c.args.seat.now c.self.inside c.args.self.now c.args.step c.seat.view_is c.seat.invariant c.self.view_is c.self.invariant c.requires.board c.requires.step in
    may-claim c.seat.inside c.args.seat.now c.self.inside c.args.self.now c.args.step here c.from-word.result (sym here.worker ∙ c.in-Some.is ∙ ap Some (sym c.from-word.ensures))

pub invariant_of-seat : goal.invariant_of-seat
invariant_of-seat c =
    let here = on c.seat.inside c.args.seat.now c.self.inside c.args.self.now c.args.step c.seat.view_is c.seat.invariant c.self.view_is c.self.invariant c.requires.board c.requires.step in
    let after = after-claim c.seat.inside c.args.seat.now c.self.inside c.args.self.now c.args.step here (record { seat = c.compare_exchange-found.new.seat; worker = c.seat.inside.worker }) c.compare_exchange-found.ensures.0 refl c.from-word.result c.compare_exchange-found.result (sym here.worker ∙ c.in-Some.is ∙ ap Some (sym c.from-word.ensures)) c.compare_exchange-found.ensures.2 in
    dite (ℕ_discrete c.compare_exchange-found.result 0) (λ e. (after.0 e).1) (λ e. (after.1 e).1)

pub returns-clause-won : goal.returns-clause-won
returns-clause-won c = λ won.
    let here = on c.seat.inside c.args.seat.now c.self.inside c.args.self.now c.args.step c.seat.view_is c.seat.invariant c.self.view_is c.self.invariant c.requires.board c.requires.step in
    let after = after-claim c.seat.inside c.args.seat.now c.self.inside c.args.self.now c.args.step here (record { seat = c.compare_exchange-found.new.seat; worker = c.seat.inside.worker }) c.compare_exchange-found.ensures.0 refl c.from-word.result c.compare_exchange-found.result (sym here.worker ∙ c.in-Some.is ∙ ap Some (sym c.from-word.ensures)) c.compare_exchange-found.ensures.2 in
    elim c.if-found-eq0.branch [
      | then-found-eq0 w ↦ (let free : c.compare_exchange-found.result ≡ 0 = w.if-found-eq0.true in ((after.0 free).0, subst (Fits c.args.seat.now c.args.step) free after.2))
      | else-found-eq0 w ↦ absurd cc
    ]

pub returns-clause-read : goal.returns-clause-read
returns-clause-read c = λ word taken.
    let here = on c.seat.inside c.args.seat.now c.self.inside c.args.self.now c.args.step c.seat.view_is c.seat.invariant c.self.view_is c.self.invariant c.requires.board c.requires.step in
    let after = after-claim c.seat.inside c.args.seat.now c.self.inside c.args.self.now c.args.step here (record { seat = c.compare_exchange-found.new.seat; worker = c.seat.inside.worker }) c.compare_exchange-found.ensures.0 refl c.from-word.result c.compare_exchange-found.result (sym here.worker ∙ c.in-Some.is ∙ ap Some (sym c.from-word.ensures)) c.compare_exchange-found.ensures.2 in
    elim c.if-found-eq0.branch [
      | then-found-eq0 w ↦ absurd cc
      | else-found-eq0 w ↦ (
          let is : c.compare_exchange-found.result ≡ word = cc in
          let not_free : c.compare_exchange-found.result ≢ 0 = w.if-found-eq0.false in
          subst (λ n. shown (record { seat = c.compare_exchange-found.new.seat; worker = c.seat.inside.worker }) ≡ record c.args.seat.now { seen = sight c.args.step n ∷ c.args.seat.now.seen }) is
          (after.1 not_free).0
          )
    ]

pub returns-clause-taken : goal.returns-clause-taken
returns-clause-taken c = λ word taken.
    let here = on c.seat.inside c.args.seat.now c.self.inside c.args.self.now c.args.step c.seat.view_is c.seat.invariant c.self.view_is c.self.invariant c.requires.board c.requires.step in
    let after = after-claim c.seat.inside c.args.seat.now c.self.inside c.args.self.now c.args.step here (record { seat = c.compare_exchange-found.new.seat; worker = c.seat.inside.worker }) c.compare_exchange-found.ensures.0 refl c.from-word.result c.compare_exchange-found.result (sym here.worker ∙ c.in-Some.is ∙ ap Some (sym c.from-word.ensures)) c.compare_exchange-found.ensures.2 in
    elim c.if-found-eq0.branch [
      | then-found-eq0 w ↦ absurd cc
      | else-found-eq0 w ↦ (
          let is : c.compare_exchange-found.result ≡ word = cc in
          let not_free : c.compare_exchange-found.result ≢ 0 = w.if-found-eq0.false in
          subst (λ n. (n ≢ 0) × IsWord c.args.self.now.workers n × Fits c.args.seat.now c.args.step n) is
          (not_free, after.3, after.2)
          )
    ]
