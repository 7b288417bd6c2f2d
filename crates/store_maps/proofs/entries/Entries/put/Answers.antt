use Rattle.std.proofs.Common.{◌∙◌, sym, ap}
use Rattle.store_maps.specs.Entries.{entries_of}
use Rattle.store_maps.specs.Places.{value_in}
use Rattle.store_maps.proofs.Sorted.{number_order, puts_at, put_after}
use Rattle.store_maps.proofs.entries.Entries.put.Goals as goal

pub returns-in_ok-insert-in-Many-clause-ok : goal.returns-in_ok-insert-in-Many-clause-ok
returns-in_ok-insert-in-Many-clause-ok c =
    put_after (entries_of c.args.self.now) c.in-Many.tree.entries c.insert.new.self.entries c.args.key c.args.versions (λ k. sym (ap (λ a. value_in (entries_of a) k) c.in-Many.is) ∙ c.widen.ensures.same k)
    (puts_at number_order c.args.key c.in-Many.tree c.insert.new.self c.args.versions (c.in_ok-insert-in-Many.ensures).updates)
