use Rattle.std.proofs.Common.{◌≡◌, ◌<◌, ap, ◌∙◌, true, length, nat_lt, subst, take, List, ℕ, arith}
use Rattle.std.specs.List.{list_all}
use Rattle.std.proofs.Math.Seq.{take-length}
use Rattle.plan_text.proofs.Below.{below_all}
use Rattle.plan_text.proofs.PlainLaws.{ascends-more}
use Rattle.plan_text.proofs.plain.ascend_below.Goals as goal

pub loop-number-preserved : goal.loop-number-preserved
loop-number-preserved c =
    let v = c.loop-number.invariant in
    let within : c.loop-number.number-index < length c.args.numbers.now = omega arith in
    let more = ascends-more c.args.numbers.now c.loop-number.number-index c.loop-number.least within c.if-number-least.false v.ascending v.below in
    record { ascending = more.0; below = more.1; within = omega arith }

pub returns-clause-below : goal.returns-clause-below
returns-clause-below c = λ _.
    let v = c.loop-number.invariant in
    let end : c.loop-number.number-index ≡ length c.args.numbers.now = omega arith in
    let whole = ap (λ n. take n c.args.numbers.now) end ∙ take-length c.args.numbers.now in
    below_all c.args.limit c.loop-number.least c.args.numbers.now v.within (subst (λ (xs : List ℕ). list_all (λ x. nat_lt x c.loop-number.least) xs ≡ true) whole v.below)
