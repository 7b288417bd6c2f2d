-- What the table's last state says about words and seats.
use Rattle.std.proofs.Common.{◌≡◌, ◌≤◌, ap, ◌∙◌, arith}
use Rattle.std.specs.Slots.{slots_items}
use Rattle.ring_board.specs.Seats.{BoardView}
use Rattle.ring_board.proofs.Closing.{both-ok, held-once, finished-once, told, proper, known-words}
use Rattle.ring_board.proofs.board.Board.close.Goals as goal

pub returns-clause-known : goal.returns-clause-known
returns-clause-known c =
    let steps : c.self.inside.size.steps ≡ c.args.self.steps = ap (λ (z : BoardView). z.steps) c.self.view_is in
    let few : c.self.inside.table.shared.key.workers ≤ 65 = (let most = c.self.invariant.few in let same = ap (λ z. z.workers) c.self.invariant.key in omega arith) in
    both-ok _ _ _ c.step_words-words.result
    (λ v len copied are_all. known-words c.self.inside.table.shared.key c.join-seat.result.id c.join-seat.result.me (slots_items c.close_with-closed.result.words) (slots_items c.close_with-closed.result.slots) c.close_with-closed.ensures.values.2 c.args.seats.items c.join-seat.ensures.seats c.join-seat.ensures.seat.1 few are_all c.args.self.steps v.items (λ k below. copied k (omega arith)))
    c.step_words-words.ensures.len c.step_words-words.ensures.words

pub returns-clause-words : goal.returns-clause-words
returns-clause-words c =
    let steps : c.self.inside.size.steps ≡ c.args.self.steps = ap (λ (z : BoardView). z.steps) c.self.view_is in
    let workers : c.self.inside.table.shared.key.workers ≡ c.args.self.workers = ap (λ z. z.workers) c.self.invariant.key ∙ ap (λ (z : BoardView). z.workers) c.self.view_is in
    both-ok _ _ _ c.step_words-words.result
    (λ v len copied. (
      len ∙ steps,
      proper c.self.inside.table.shared.key c.join-seat.result.id c.join-seat.result.me (slots_items c.close_with-closed.result.words) (slots_items c.close_with-closed.result.slots) c.close_with-closed.ensures.values.2 c.args.seats.items c.join-seat.ensures.seats c.join-seat.ensures.seat.1 c.args.self.steps v.items (λ k below. copied k (omega arith)) c.args.self.workers workers (let counted = v.ok in omega arith),
    ))
    c.step_words-words.ensures.len c.step_words-words.ensures.words

pub returns-clause-told : goal.returns-clause-told
returns-clause-told c =
    let steps : c.self.inside.size.steps ≡ c.args.self.steps = ap (λ (z : BoardView). z.steps) c.self.view_is in
    both-ok _ _ _ c.step_words-words.result
    (λ v len copied. told c.self.inside.table.shared.key c.join-seat.result.id c.join-seat.result.me (slots_items c.close_with-closed.result.words) (slots_items c.close_with-closed.result.slots) c.close_with-closed.ensures.values.2 c.args.seats.items c.join-seat.ensures.seats c.join-seat.ensures.seat.1 c.args.self.steps v.items (λ k below. copied k (omega arith)))
    c.step_words-words.ensures.len c.step_words-words.ensures.words

pub returns-clause-held_once : goal.returns-clause-held_once
returns-clause-held_once c = held-once c.self.inside.table.shared.key c.join-seat.result.id c.join-seat.result.me (slots_items c.close_with-closed.result.words) (slots_items c.close_with-closed.result.slots) c.close_with-closed.ensures.values.2 c.args.seats.items c.join-seat.ensures.seats c.join-seat.ensures.seat.1

pub returns-clause-finished_once : goal.returns-clause-finished_once
returns-clause-finished_once c = finished-once c.self.inside.table.shared.key c.join-seat.result.id c.join-seat.result.me (slots_items c.close_with-closed.result.words) (slots_items c.close_with-closed.result.slots) c.close_with-closed.ensures.values.2 c.args.seats.items c.join-seat.ensures.seats c.join-seat.ensures.seat.1
