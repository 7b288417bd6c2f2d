use Rattle.std.proofs.Common.{◌≡◌, ◌+◌, All}
use Rattle.ring_work.proofs.threads.start_workers.Given as goal

abbrev pub invariant-loop-started : goal.invariant-loop-started
invariant-loop-started g l =
    (l.first.board ≡ l.fn.site.board.now.id)
    × (l.root.token.parts + l.started ≡ l.fn.root.token.parts)
    × All (λ h. (h.promise.0.value.id ≡ l.fn.site.board.now.id) × (h.promise.1.value ≡ l.fn.site.plan.now)) l.handles.items
