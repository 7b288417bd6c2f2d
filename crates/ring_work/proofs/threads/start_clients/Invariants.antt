use Rattle.std.proofs.Common.{◌≡◌, ◌+◌, ◌<◌, ◌≤◌, ℕ, false, All, [], length, slice_index_or}
use Rattle.std.specs.Prelude.{Any}
use Rattle.ring_work.proofs.threads.start_clients.Given as goal

abbrev pub invariant-loop-started : goal.invariant-loop-started
invariant-loop-started g l =
    (l.root.token.parts + l.started ≡ l.fn.root.token.parts)
    × All (λ h. (h.promise.0.value ≡ l.fn.site.job.now.gate.now) × (64 ≤ h.promise.1) × (h.promise.1 < 64 + length l.fn.site.job.now.scripts.now)) l.handles.items
    × (l.refused ≡ false → (s line : ℕ) → length l.fn.site.job.now.scripts.now ≤ s + l.started → s < length l.fn.site.job.now.scripts.now → line < length (slice_index_or l.fn.site.job.now.scripts.now s [])
    → Any (λ h. (h.promise.1 ≡ 64 + s) × (line < h.promise.2)) l.handles.items)
