use Rattle.std.proofs.Common.{◌≡◌, ℕ, drop}
use Rattle.std.specs.Prelude.{◌||◌}
use Rattle.plan_order.specs.Facts.{has_ends, some_leads}
use Rattle.plan_order.proofs.facts.add_all_ends.Given as goal

abbrev pub invariant-loop-place : goal.invariant-loop-place
invariant-loop-place l = (a b : ℕ) → (some_leads a b (drop l.place l.paths) || has_ends a b l.ends.items) ≡ (some_leads a b l.paths || has_ends a b l.fn.ends.items)
