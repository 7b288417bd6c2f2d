use Rattle.std.proofs.Common.{◌∙◌, List, sym, subst}
use Rattle.plan_runs.specs.declared.event.Entry.{Entry}
use Rattle.ring_core.specs.Replays.{Replays}
use Rattle.plan_around.proofs.Leading.{leads_more}
use Rattle.plan_around.proofs.led.Led.happen.Goals as goal

pub returns : goal.returns
returns c = λ ring plan it.
    let old = c.args.self.now in
    let new = c.happen.new.store in
    let x : Entry = record { event = c.args.event; reply = c.in_ok-reply.reply } in
    record {
      ring = c.happen.ensures.ring ∙ it.ring;
      plan = c.happen.ensures.plan ∙ it.plan;
      replays = subst (λ (xs : List Entry). Replays ring plan new xs) (sym c.in_ok-push.ensures.items) (leads_more ring plan old.store new old.entries.items x it.ring it.plan it.replays c.in_ok-reply.ensures.answers);
    }
