use Rattle.ring_table.specs.Value.{names_of}
use Rattle.plan_text.proofs.WriteLaws.{line-written}
use Rattle.plan_text.proofs.writing.push_step.Goals as goal

pub returns : goal.returns
returns c = line-written (names_of c.args.ring.now) (record { step = c.args.step.now; after = c.args.after.now }) c.args.out.now.items c.push_kind.new.out.items c.push_after.new.out.items c.push.new.self.items c.in_ok-push_kind.ensures c.in_ok-push_after.ensures c.in_ok-push.ensures.items
