-- The token and the shares that are left count and have together what all of them did.
use Rattle.std.proofs.Common.{◌≡◌, ◌+◌, ◌≤◌, ◌<◌, vec_len}
use Rattle.std.specs.List.{sum_by}
use Rattle.ring_exec.proofs.share.count_of.Given as goal

abbrev pub invariant-loop-next : goal.invariant-loop-next
invariant-loop-next g l =
    (l.count + sum_by (λ s. s.count) l.shares.items ≡ sum_by (λ s. s.count) l.fn.shares.items)
    × (l.token.parts + sum_by (λ s. s.token.parts) l.shares.items ≡ sum_by (λ s. s.token.parts) l.fn.shares.items)
    × (l.token.amount ≡ l.count)
    × (l.count ≤ 1000000)
    × (l.book.total ≡ l.fn.book.total)
    × (0 < g.L.Ledger.parts → l.token.parts ≡ g.L.Ledger.parts → l.count ≡ l.book.total)

abbrev pub decreases-loop-next : goal.decreases-loop-next
decreases-loop-next g l = vec_len l.shares
