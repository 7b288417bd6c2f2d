use Rattle.std.proofs.Common.{ℕ, List, sym, subst}
use Rattle.ring_versions.specs.Puts.{ArePuts}
use Rattle.ring_versions.proofs.Numbers.{puts_in_order}
use Rattle.ring_versions.proofs.puts.puts_of.Goals as goal

pub returns-clause-ok : goal.returns-clause-ok
returns-clause-ok c = subst (λ (ns : List ℕ). ArePuts c.args.versions ns) (sym c.from_vec.ensures)
    (puts_in_order c.args.versions c.in_ok-numbers.numbers.items c.sort_unstable.new.self.items c.dedup.new.self.items (c.in_ok-numbers.ensures).ok c.sort_unstable.ensures.permutation c.sort_unstable.ensures.sorted c.dedup.ensures.filtered)
