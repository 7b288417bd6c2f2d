use Rattle.std.proofs.Common.{rules, ◌≡◌, ◌∙◌}
use Rattle.std.specs.Prelude.{count_by}
use Rattle.ring_table.specs.Value.{is_side}
use Rattle.plan_cover.specs.Looking.Guards.{side_at}
use Rattle.plan_cover.proofs.Guarded.{count-chains}
use Rattle.plan_cover.proofs.check.count_of.Goals as goal

pub returns : goal.returns
returns c =
    let counted : c.count.result ≡ count_by (λ k. is_side c.args.side (side_at c.args.chains.now k)) c.args.numbers.now = search rules in
    counted ∙ count-chains c.args.chains.now c.args.side c.args.numbers.now
