use Rattle.std.proofs.Common.{◌≤◌, length, sym, ◌∙◌, arith}
use Rattle.std.proofs.lemmas.Bool.{le-leb, leb-true}
use Rattle.plan_text.proofs.Below.{below_all}
use Rattle.plan_text.proofs.kind.indexes.Goals as goal

pub unreachable-requires : goal.unreachable-requires
unreachable-requires c =
    let few : length c.args.row.now ≤ 7 = leb-true (length c.args.row.now) 7 (sym c.is_at_most.ensures ∙ c.if-not-is_at_most.false) in
    let short = le-leb (length c.args.row.now) 8 (omega arith) in
    let small = below_all 4294967296 c.from.result c.args.row.now (omega (arith, c.from.ensures)) (sym c.are_below.ensures ∙ c.if-not-are_below.false) in
    let none = c.in_default.ensures.some in
    let some = rw (short, small) at none in
    absurd cc

pub unreachable-requires-in-None : goal.unreachable-requires-in-None
unreachable-requires-in-None c =
    let few : length c.args.row.now ≤ 7 = leb-true (length c.args.row.now) 7 (sym c.is_at_most.ensures ∙ c.if-not-is_at_most.false) in
    let small = below_all 256 c.from.result c.args.row.now (omega (arith, c.from.ensures)) (sym c.are_below.ensures ∙ c.if-not-are_below.false) in
    let same = c.in-Some.ensures.same in
    let none = c.in-None.ensures.none in
    rw same at none few small
