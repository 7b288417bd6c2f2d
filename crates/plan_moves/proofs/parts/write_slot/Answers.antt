use Rattle.plan_moves.proofs.Goings.{on-more}
use Rattle.plan_moves.proofs.parts.write_slot.Goals as goal

pub returns : goal.returns
returns c = on-more c.args.line.now c.write_number.new.line c.write_number-2.new.line _ _ c.in_ok-write_number.ensures c.in_ok-write_number-2.ensures
