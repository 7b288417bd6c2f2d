use Rattle.std.proofs.Common.{◌∙◌, ap}
use Rattle.ring_table.specs.Value.{RingValue}
use Rattle.plan_goal.specs.Rings.{ring_left}
use Rattle.plan_goal.proofs.windows.window_over.Goals as goal

pub returns-in-Ok : goal.returns-in-Ok
returns-in-Ok c =
    let same = c.in-Ok.ensures.same in
    record {
      window = record { cert = c.in_ok-found.found.cert; text_is = c.in_ok-text.ensures.text; certified = c.in-Ok.ensures.certified; keeps = c.in-Ok.ensures.approved.keeps };
      next = c.in_ok-next-in-Ok.ensures ∙ ap (λ (r : RingValue). ring_left r c.in-Ok.approved.plan) same.0 ∙ ap (ring_left c.args.ring) same.1;
    }
