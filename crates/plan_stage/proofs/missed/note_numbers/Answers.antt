use Rattle.std.proofs.Common.{◌≡◌, true, ◌∷◌, length, None, rules, ◌∙◌}
use Rattle.std.specs.Prelude.{nat_lt}
use Rattle.std.specs.List.{list_all}
use Rattle.std.proofs.lemmas.Bool.{and_parts}
use Rattle.plan_order.specs.Order.{order}
use Rattle.plan_stage.specs.Clauses.{first_failing}
use Rattle.plan_stage.specs.Partition.{step_clauses}
use Rattle.plan_stage.specs.Looking.Looked.{clauses_at, clauses_of}
use Rattle.plan_stage.proofs.Below.{first-split}
use Rattle.plan_stage.proofs.Noted.{noted-more}
use Rattle.plan_stage.proofs.missed.note_numbers.Goals as goal

pub numbers-preserved : goal.numbers-preserved
numbers-preserved c =
    let plan = c.args.context.now.plan.now in
    let f = step_clauses c.args.context.now.ring.now plan (order c.args.context.now) c.args.partition in
    let inv = c.numbers.invariant in
    let e : c.numbers.rest.now ≡ c.in-Some.number.now ∷ c.in-Some.later.now = search rules in
    let w : list_all (λ n. nat_lt n (length plan)) (c.in-Some.number.now ∷ c.in-Some.later.now) ≡ true = rw e at inv.within in
    let stays = c.in_ok-note_step.ensures.stays in
    record {
      within = (and_parts (nat_lt c.in-Some.number.now (length plan)) (list_all (λ n. nat_lt n (length plan)) c.in-Some.later.now) w).1;
      stays = λ r h. stays r (inv.stays r h);
      clean = λ none. (
          let before = inv.clean none in
          let left : first_failing (clauses_of f plan (c.in-Some.number.now ∷ c.in-Some.later.now)) ≡ None = rw e at before.0 in
          let parts = first-split (clauses_at f plan c.in-Some.number.now) (clauses_of f plan c.in-Some.later.now) left in
          (parts.1, c.in_ok-note_step.ensures.clean parts.0 ∙ before.1));
      held = noted-more f plan c.numbers.missed c.note_step.new.missed c.args.numbers.now c.in-Some.later.now c.in-Some.number.now stays c.in_ok-note_step.ensures.holds (rw e at inv.held);
    }
