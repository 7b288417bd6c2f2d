use Rattle.std.proofs.Common.{◌-◌, arith}
use Rattle.plan_goal.proofs.InWindows.{keeps-fewer, keeps-this}
use Rattle.plan_goal.proofs.windows.Asked.pass.Goals as goal

pub returns-then-left-eq0 : goal.returns-then-left-eq0
returns-then-left-eq0 c = λ only texts h. keeps-this only texts c.args.text c.args.left (omega (arith, c.if-left-eq0.true)) h

pub returns : goal.returns
returns c = λ only texts h. keeps-fewer only texts c.args.text.items c.args.left (c.args.left - 1) (omega (arith, c.if-left-eq0.false)) h
