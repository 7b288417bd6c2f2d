use Rattle.std.proofs.Common.{[], arith}
use Rattle.plan_cert.specs.Front.{front_at}
use Rattle.texts.proofs.PartLaws.{late-first, late-second, bad-second, good-second, handed-on, on-after}
use Rattle.history_text.specs.Reading.{history_at}
use Rattle.history_text.specs.Replays.{parts_of, replay_of, replay_at}
use Rattle.history_text.proofs.HistoryLates.{history-on}
use Rattle.history_text.proofs.bundle.read_replay_section.Goals as goal

pub returns-in_err-front-clause-late : goal.returns-in_err-front-clause-late
unfolding replay_at
returns-in_err-front-clause-late c = late-first replay_of front_at (λ front. history_at front.ring []) 4 c.from_residual.result c.in_err-front.field-0.0 c.args.lines.now c.read_front_section.new.lines
    c.from_residual.ensures.1 (λ front. history-on front.ring []) c.in_err-front.ensures.late

pub returns-in_err-history-clause-late : goal.returns-in_err-history-clause-late
unfolding replay_at
returns-in_err-history-clause-late c =
    let far = c.in_ok-front.ensures.far in
    let on = on-after 2 c.read_front_section.new.lines.line in
    let late = rw c.new-writers.ensures at c.in_err-history.ensures.late in
    late-second replay_of front_at (λ front. history_at front.ring []) 4 2 c.from_residual-in_err-history.result c.in_err-history.field-0.0 c.args.lines.now c.read_front_section.new.lines c.read_history_section.new.lines c.in_ok-front.front
    c.from_residual-in_err-history.ensures.1 c.in_ok-front.ensures.read (omega arith) late

pub returns-in_err-history-clause-read : goal.returns-in_err-history-clause-read
unfolding replay_at
returns-in_err-history-clause-read c =
    let read = rw c.new-writers.ensures at c.in_err-history.ensures.read in
    handed-on c.from_residual-in_err-history.result c.in_err-history.field-0.0 parts_of c.read_history_section.new.lines _ c.from_residual-in_err-history.ensures.1
    (λ other. bad-second replay_of front_at (λ front. history_at front.ring []) c.args.lines.now c.read_front_section.new.lines c.in_ok-front.front c.in_ok-front.ensures.read c.in_err-history.field-0.0 (read other))

pub returns-clause-read : goal.returns-clause-read
unfolding replay_at
returns-clause-read c =
    let read = rw c.new-writers.ensures at c.in_ok-history.ensures.read in
    good-second replay_of front_at (λ front. history_at front.ring []) c.args.lines.now c.read_front_section.new.lines c.in_ok-front.front c.in_ok-front.ensures.read
    c.read_history_section.new.lines (c.in_ok-history.history.items, c.read_history_section.new.writers) read
