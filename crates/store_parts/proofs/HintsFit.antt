-- Hints are kept only for slot indexes of the ring, in every run.
use Rattle.std.proofs.Common.{◌≡◌, inl, inr, List, ap, subst, arith, ltb-true}
use Rattle.std.specs.Prelude.{nat_lt, length, Ok}
use Rattle.std.proofs.lemmas.Bool.{and_parts}
use Rattle.ring_names.specs.declared.ids.Slot.{Slot}
use Rattle.ring_table.specs.Value.{RingValue}
use Rattle.plan_text.specs.declared.step.Planned.{Planned}
use Rattle.plan_runs.specs.declared.event.Event.{Event}
use Rattle.plan_runs.specs.declared.event.Reply.{Reply}
use Rattle.plan_runs.specs.World.{World, opening_world}
use Rattle.plan_runs.specs.Guards.{guards}
use Rattle.plan_runs.specs.Effects.{effect}
use Rattle.plan_runs.specs.Answers.{answer}
use Rattle.plan_runs.proofs.Answered.{answered}
use Rattle.plan_runs.proofs.Frames.{hinted_was}
use Rattle.plan_runs.proofs.Passed.{AllMet, all_met}
use Rattle.store_parts.specs.HintsFit.{HintsFit}

-- at the start there are none
pub hints_open : (ring : RingValue) → HintsFit ring (opening_world ring)
hints_open ring x slot v e = absurd cc

hints_after : (ring : RingValue) (plan : List Planned) (w : World) (e : Event) → AllMet (guards ring plan w e) → HintsFit ring w → HintsFit ring (effect ring plan w e)
unfolding guards
hints_after ring plan w e met fit x slot v h = elim (hinted_was ring plan w e x slot v h) [
  | inl f ↦ fit x slot v f
  | inr f ↦ (
      let hint = subst (λ (q : Event). AllMet (guards ring plan w q)) f.2 met in
      let l = ltb-true f.0 ring.n (and_parts (nat_lt v (length w.puts)) (nat_lt f.0 ring.n) hint.0).1 in
      let i = ap (λ (s : Slot). s.index) f.4 in
      omega arith)
]

-- and each event leaves it so
pub hints_stay : (ring : RingValue) (plan : List Planned) (w u : World) (e : Event) (r : Reply) → answer ring plan w e ≡ Ok (u, r) → HintsFit ring w → HintsFit ring u
hints_stay ring plan w u e r h fit =
    let a = answered ring plan w u e r h in
    subst (λ (z : World). HintsFit ring z) a.1 (hints_after ring plan w e (all_met (guards ring plan w e) a.0) fit)
