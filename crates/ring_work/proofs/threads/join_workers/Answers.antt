use Rattle.std.proofs.Common.{◌≡◌, ◌<◌, List, Some, length, subst, inl, inr}
use Rattle.std.proofs.lemmas.List.Elements.{All-pop}
use Rattle.std.specs.declared.thread.PromisedHandle.{PromisedHandle}
use Rattle.plan_text.specs.declared.step.Planned.{Planned}
use Rattle.ring_work.specs.declared.done.Sat.{Sat}
use Rattle.ring_work.specs.declared.threads.AtBoard.{AtBoard}
use Rattle.ring_work.proofs.threads.join_workers.Goals as goal

pub loop-handle-preserved : goal.loop-handle-preserved
loop-handle-preserved g c =
    let is_ours = λ (h : PromisedHandle (Sat g.row.L.Denot) AtBoard). (h.promise.0.value.id ≡ c.args.site.now.board.now.id) × (h.promise.1.value ≡ c.args.site.now.plan.now) in
    let popped = All-pop is_ours c.loop-handle.handles.items c.pop.new.self.items (Some c.in-Some.handle) c.in-Some.ensures.items c.loop-handle.invariant.handles in
    record {
      handles = popped.0;
      seats = c.take_seat.ensures.seats;
      spent = λ s. elim (c.take_seat.ensures.spent s) [
        | inl old ↦ c.loop-handle.invariant.spent old
        | inr new ↦ inr (subst (λ (plan : List Planned). 0 < length plan) popped.1.1 (c.join.ensures.1 new))
      ];
      complete = λ s. c.loop-handle.invariant.complete (c.take_seat.ensures.complete s);
    }
