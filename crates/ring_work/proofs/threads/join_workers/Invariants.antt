use Rattle.std.proofs.Common.{◌≡◌, ◌<◌, All, length, vec_len}
use Rattle.std.specs.Prelude.{◌⊎◌, IsTrue}
use Rattle.ring_work.specs.Driven.{IsSpent}
use Rattle.ring_work.proofs.threads.join_workers.Given as goal

abbrev pub invariant-loop-handle : goal.invariant-loop-handle
invariant-loop-handle g l = record {
  handles : All (λ h. (h.promise.0.value.id ≡ l.fn.site.board.now.id) × (h.promise.1.value ≡ l.fn.site.plan.now)) l.handles.items;
  seats : All (λ s. s.board ≡ l.fn.site.board.now.id) l.left.seats.items;
  spent : IsSpent l.left.refusal → IsSpent l.fn.left.refusal ⊎ (0 < length l.fn.site.plan.now);
  complete : IsTrue l.left.complete → IsTrue l.fn.left.complete;
}

abbrev pub decreases-loop-handle : goal.decreases-loop-handle
decreases-loop-handle g l = vec_len l.handles
