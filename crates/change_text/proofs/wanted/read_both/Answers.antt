use Rattle.std.proofs.Common.{arith}
use Rattle.texts.proofs.PartLaws.{late-first, late-second, on-after}
use Rattle.ring_table.specs.Reading.{ring_at}
use Rattle.change_text.specs.Reading.{change_at}
use Rattle.change_text.specs.Wanted.{wanted_of, wanted_at}
use Rattle.change_text.proofs.ChangeLates.{change-on}
use Rattle.change_text.proofs.wanted.read_both.Goals as goal

pub returns-in_err-ring-clause-late : goal.returns-in_err-ring-clause-late
unfolding wanted_at
returns-in_err-ring-clause-late c = late-first wanted_of ring_at change_at 4 c.from_residual.result c.in_err-ring.field-0.0 c.args.lines.now c.read_ring_section.new.lines c.from_residual.ensures.1 change-on c.in_err-ring.ensures.late

pub returns-in_err-change-clause-late : goal.returns-in_err-change-clause-late
unfolding wanted_at
returns-in_err-change-clause-late c =
    let far = c.in_ok-ring.ensures.far in
    let on = on-after 2 c.read_ring_section.new.lines.line in
    late-second wanted_of ring_at change_at 4 2 c.from_residual-in_err-change.result c.in_err-change.field-0.0 c.args.lines.now c.read_ring_section.new.lines c.read_change_section.new.lines c.in_ok-ring.ring
    c.from_residual-in_err-change.ensures.1 c.in_ok-ring.ensures.read (omega arith) c.in_err-change.ensures.late
