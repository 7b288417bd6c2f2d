use Rattle.std.proofs.Common.{arith, None}
use Rattle.history_laws.proofs.Marked.{found_mark}
use Rattle.history_laws.proofs.marks.Marks.number.Goals as goal

pub returns-in-Some : goal.returns-in-Some
returns-in-Some c = found_mark c.self.inside.numbers.items c.deref.result.now c.args.self.now c.args.whole c.in-Some.number.now c.self.invariant.0 c.self.view_is c.deref.ensures.value (c.in-Some.ensures.lookup.4 (omega arith) None)

pub returns-in-None : goal.returns-in-None
returns-in-None c = found_mark c.self.inside.numbers.items c.deref.result.now c.args.self.now c.args.whole None c.self.invariant.0 c.self.view_is c.deref.ensures.value (c.in-None.ensures.lookup.4 (omega arith) None)
