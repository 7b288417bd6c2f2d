use Rattle.std.proofs.Common.{rules, ◌∙◌, map}
use Rattle.ring_table.specs.declared.allowance.Side.TheVariants.{Give}
use Rattle.plan_stage.specs.Occupancy.{is_node}
use Rattle.plan_cover.specs.Looking.Numbers.{copies_kept}
use Rattle.plan_cover.specs.Looking.Serving.{serving_at, owns_some, counts_at}
use Rattle.plan_cover.proofs.Counting.{with_last-more}
use Rattle.plan_cover.proofs.cover.add_owners.Goals as goal

pub slots-preserved : goal.slots-preserved
slots-preserved c = record {
  within = search rules;
  added = λ y.
      let ring = c.args.served.now.ring.now in
      let owner = c.at.result.owner in
      let at = rw c.from.ensures at c.at.ensures in
      let more = with_last-more (counts_at ring Give y) (is_node y.node owner) (owns_some (serving_at ring c.args.served.now.present.now) (map (λ i. record { partition = c.args.partition; index = i }) c.in-Some.later.now) y.node) c.args.number (copies_kept c.slots.copies y) (copies_kept c.add_copy.new.copies y) (c.in_ok-add_copy.ensures.ok y) in
      more ∙ (search (rules, at));
}
