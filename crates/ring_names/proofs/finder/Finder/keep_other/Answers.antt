use Rattle.std.proofs.Common.{ℕ, List, Result, Ok, Err, refl, subst}
use Rattle.std.specs.Result.{OnErr}
use Rattle.ring_names.specs.AtBytes.{Puts}
use Rattle.ring_names.proofs.AtBytes.{puts}
use Rattle.ring_names.proofs.finder.Finder.keep_other.Goals as goal

on_err : {T E P : Type 0} (r : Result T E) → P → OnErr r P
on_err (Ok _) p = tt
on_err (Err _) p = p

pub returns-in_err-insert-clause-err : goal.returns-in_err-insert-clause-err
returns-in_err-insert-clause-err c = on_err c.from_residual-in_err-insert.result (record { table = refl; others = c.in_err-insert.ensures.err })

pub returns-clause-ok : goal.returns-clause-ok
returns-clause-ok c = record {
  table = refl;
  puts = subst (λ (bs : List ℕ). Puts c.args.self.now.others c.insert.new.self bs c.args.number) c.in_ok-key.ensures.items
      (puts c.in_ok-key.key.items c.args.self.now.others c.insert.new.self c.args.number c.in_ok-insert.ensures.updates);
}
