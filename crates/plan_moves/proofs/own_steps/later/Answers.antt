use Rattle.std.proofs.Common.{◌∙◌, ◌+◌, ◌-◌, length, drop, length-drop, arith}
use Rattle.plan_cover.proofs.Counting.{take-all}
use Rattle.plan_moves.proofs.Ascending.{found-greater, missed-greater}
use Rattle.plan_moves.proofs.own_steps.later.Goals as goal

pub returns-in-Ok : goal.returns-in-Ok
returns-in-Ok c =
    let xs = c.args.steps.now in
    let i = c.in-Ok.place in
    take-all (drop (i + 1) xs) (length xs - (i + 1)) (omega (arith, length-drop (i + 1) xs)) ∙ found-greater c.args.number xs i c.in-Ok.ensures.position c.requires

pub returns-in-Err : goal.returns-in-Err
returns-in-Err c =
    let xs = c.args.steps.now in
    let i = c.in-Err.place in
    take-all (drop i xs) (length xs - i) (omega (arith, length-drop i xs)) ∙ missed-greater c.args.number xs i c.in-Err.ensures.position c.requires
