use Rattle.std.proofs.Common.{rules, ◌≡◌, ◌∙◌, [], arith}
use Rattle.ring_exec.proofs.Sums.{sum_last, sum_none}
use Rattle.ring_exec.proofs.share.count_of.Goals as goal

pub loop-next-init : goal.loop-next-init
loop-next-init g c =
    let first = c.in-Some.first in
    let all = c.args.shares.items in
    let rest = c.pop.new.self.items in
    let counts = sum_last (λ s. s.count) all rest first c.in-Some.ensures.items in
    let parts = sum_last (λ s. s.token.parts) all rest first c.in-Some.ensures.items in
    let e = c.audit.ensures in
    let few = c.requires in
    let counted = first.counted in (
      counts,
      (let p = e.parts in omega arith),
      e.amount ∙ counted,
      (let a = e.bound in omega arith),
      e.total,
      λ some whole. (let p = e.parts in let t = e.total in let w = e.whole (omega arith) in omega arith),
    )

pub loop-next-preserved : goal.loop-next-preserved
loop-next-preserved g c =
    let i = c.loop-next.invariant in
    let next = c.in-Some-pop.next in
    let rest = c.pop-in-loop-next.new.self.items in
    let counts = sum_last (λ s. s.count) c.loop-next.shares.items rest next c.in-Some-pop.ensures.items in
    let parts = sum_last (λ s. s.token.parts) c.loop-next.shares.items rest next c.in-Some-pop.ensures.items in
    let one = c.audit-in-Some-pop.ensures in
    let both = c.merge.ensures in
    let all = c.audit-in-Some-pop-2.ensures in
    let few = c.requires in
    let counted = next.counted in
    let i0 = i.0 in
    let i1 = i.1 in
    let i2 = i.2 in
    let i4 = i.4 in
    let a0 = one.total in
    let a1 = one.amount in
    let a2 = one.parts in
    let b0 = both.parts in
    let b1 = both.amount in
    let d0 = all.total in
    let d1 = all.amount in
    let d2 = all.parts in
    let d3 = all.bound in (
      omega arith,
      omega arith,
      omega arith,
      omega arith,
      omega arith,
      λ some whole. (let w = all.whole (omega arith) in omega arith),
    )

pub returns-clause-count : goal.returns-clause-count
returns-clause-count g c =
    let i = (c.loop-next.invariant).0 in
    let empty : c.loop-next.shares.items ≡ [] = search rules in
    let n = sum_none (λ s. s.count) c.loop-next.shares.items empty in
    omega arith

pub returns-clause-whole : goal.returns-clause-whole
returns-clause-whole g c some whole =
    let i = c.loop-next.invariant in
    let i1 = i.1 in
    let i4 = i.4 in
    let empty : c.loop-next.shares.items ≡ [] = search rules in
    let n = sum_none (λ s. s.token.parts) c.loop-next.shares.items empty in
    let w = i.5 some (omega arith) in
    omega arith
