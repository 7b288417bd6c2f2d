use Rattle.std.proofs.Common.{◌≡◌, ◌<◌, ◌≤◌, ◌+◌, ℕ, All, length, vec_len}
use Rattle.std.specs.Prelude.{Any, IsTrue}
use Rattle.ring_work.specs.Driven.{IsSpent, MayStop}
use Rattle.ring_work.proofs.threads.join_clients.Given as goal

abbrev pub invariant-loop-handle : goal.invariant-loop-handle
invariant-loop-handle g l = record {
  handles : All (λ h. (h.promise.0.value ≡ l.fn.site.job.now.gate.now) × (64 ≤ h.promise.1) × (h.promise.1 < 64 + length l.fn.site.job.now.scripts.now)) l.handles.items;
  seats : l.left.seats ≡ l.fn.left.seats;
  spent : IsSpent l.left.refusal → MayStop (g.G.Gate.may_refuse l.fn.site.job.now.gate.now) l.fn.site.plan.now (length l.fn.site.job.now.scripts.now);
  complete : IsTrue l.left.complete → IsTrue l.fn.left.complete;
  passed : IsTrue l.left.complete → (client line : ℕ) → Any (λ h. (h.promise.1 ≡ client) × (line < h.promise.2)) l.fn.handles.items → g.G.Gate.must_refuse l.fn.site.job.now.gate.now client line
      → Any (λ h. (h.promise.1 ≡ client) × (line < h.promise.2)) l.handles.items;
}

abbrev pub decreases-loop-handle : goal.decreases-loop-handle
decreases-loop-handle g l = vec_len l.handles
