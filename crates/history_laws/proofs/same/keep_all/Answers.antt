use Rattle.std.proofs.Common.{arith}
use Rattle.history_laws.proofs.Numbered.{keep-more, keep-beyond}
use Rattle.history_laws.proofs.same.keep_all.Goals as goal

pub loop-step-preserved : goal.loop-step-preserved
loop-step-preserved c = keep-more c.args.old.now c.args.new.now c.args.numbers.now c.args.olds.now c.loop-step.step c.loop-step.invariant (c.keeps.ensures c.if-not-keeps.false)

pub returns : goal.returns
returns c = λ t. keep-beyond c.args.old.now c.args.new.now c.args.numbers.now c.args.olds.now (λ k l. c.loop-step.invariant k (omega (arith, c.loop-step-test.false)))
