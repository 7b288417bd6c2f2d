use Rattle.std.proofs.Common.{arith}
use Rattle.texts.proofs.PartLaws.{late-first, late-second, on-after}
use Rattle.ring_table.specs.Reading.{ring_at}
use Rattle.ring_table.proofs.RingLates.{ring-on}
use Rattle.plan_goal.specs.Goals.{goal_of, goal_at}
use Rattle.plan_goal.proofs.reading.read_both.Goals as goal

pub returns-in_err-ring-clause-late : goal.returns-in_err-ring-clause-late
unfolding goal_at
returns-in_err-ring-clause-late c = late-first goal_of ring_at (λ _. ring_at) 4 c.from_residual.result c.in_err-ring.field-0.0 c.args.lines.now c.read_ring_section.new.lines c.from_residual.ensures.1 (λ _. ring-on) c.in_err-ring.ensures.late

pub returns-in_err-wanted-clause-late : goal.returns-in_err-wanted-clause-late
unfolding goal_at
returns-in_err-wanted-clause-late c =
    let far = c.in_ok-ring.ensures.far in
    let on = on-after 4 c.read_ring_section.new.lines.line in
    late-second goal_of ring_at (λ _. ring_at) 4 4 c.from_residual-in_err-wanted.result c.in_err-wanted.field-0.0 c.args.lines.now c.read_ring_section.new.lines c.read_ring_section-2.new.lines c.in_ok-ring.ring
    c.from_residual-in_err-wanted.ensures.1 c.in_ok-ring.ensures.read (omega arith) c.in_err-wanted.ensures.late
