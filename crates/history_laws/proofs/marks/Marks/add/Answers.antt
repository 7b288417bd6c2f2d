use Rattle.std.proofs.Common.{arith, sym}
use Rattle.history_laws.proofs.Marked.{size_fits, mine_more, other_more}
use Rattle.history_laws.proofs.marks.Marks.add.Goals as goal

pub overflow_add-self : goal.overflow_add-self
overflow_add-self c = let l = size_fits c.self.inside.numbers.items c.args.self.now c.self.inside.size c.self.invariant.1 (sym c.self.view_is) c.requires in omega (arith, l)

pub invariant_of-self-then-is_mine : goal.invariant_of-self-then-is_mine
invariant_of-self-then-is_mine c = mine_more c.self.inside.numbers.items c.push.new.self.items c.self.inside.size c.self.invariant.0 c.self.invariant.1 c.in_ok-push.ensures.items

pub invariant_of-self-in-Continue-branch-2 : goal.invariant_of-self-in-Continue-branch-2
invariant_of-self-in-Continue-branch-2 c = other_more c.self.inside.numbers.items c.push-else-is_mine.new.self.items c.self.inside.size c.self.invariant.0 c.self.invariant.1 c.in_ok-push-2.ensures.items
