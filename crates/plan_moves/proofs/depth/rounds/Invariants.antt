use Rattle.std.proofs.Common.{◌≡◌, ℕ, ◌+◌, ◌<◌, true, length, Some}
use Rattle.std.specs.Prelude.{nat_le, slice_get}
use Rattle.std.specs.List.{list_all}
use Rattle.plan_text.specs.declared.step.Planned.{Planned}
use Rattle.plan_moves.specs.Rounds.{greatest, copies}
use Rattle.plan_moves.proofs.depth.rounds.Given as goal

abbrev pub invariant-loop-number : goal.invariant-loop-number
invariant-loop-number l = record {
  len : length l.found.items ≡ l.number;
  each : (n : ℕ) (x : Planned) → n < l.number → slice_get l.plan n ≡ Some x → slice_get l.found.items n ≡ Some (greatest l.found.items x.after + copies x.step);
  low : list_all (λ r. nat_le r l.number) l.found.items ≡ true;
}
