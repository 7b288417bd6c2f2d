-- What a replay of a bundle prints, by its parts.
use Rattle.std.proofs.Common.{◌≡◌, ℕ, List, Option, None, Result, Ok, Err, sym, subst}
use Rattle.ring_names.specs.declared.refusal.Refusal.{Refusal}
use Rattle.ring_table.specs.Value.{RingValue}
use Rattle.plan_text.specs.declared.step.Planned.{Planned}
use Rattle.plan_runs.specs.declared.event.Entry.{Entry}
use Rattle.plan_check.specs.First.{first_refusal}
use Rattle.history_text.specs.Replays.{Parts}
use Rattle.ringplan_answers.specs.Replays.{IsJudged, IsJudgedIf, IsReplayBy, IsReplayOf, ReplaysOfIf}

-- the parts are those that were judged
there : (x : Parts) (ring : RingValue) (plan : List Planned) (r : Result (List ℕ) Refusal) → (ring ≡ x.0) × (plan ≡ x.1.0) → IsJudged ring plan x.1.1.1.0 r → IsJudged x.0 x.1.0 x.1.1.1.0 r
there x ring plan r same j =
    subst (λ (g : RingValue). IsJudged g x.1.0 x.1.1.1.0 r) same.0 (subst (λ (p : List Planned). IsJudged ring p x.1.1.1.0 r) same.1 j)

-- where the checker has no refusal
accepted_there : (x : Parts) (r : Result (List ℕ) Refusal) → first_refusal x.0 x.1.0 x.1.1.0 ≡ None → IsJudged x.0 x.1.0 x.1.1.1.0 r → IsReplayOf x r
accepted_there x r accepted j = subst (λ (o : Option Refusal). IsReplayBy o x.0 x.1.0 x.1.1.1.0 r) (sym accepted) j

-- what was judged of a plan that was accepted is the replay
pub judged_there : (x : Parts) (ring : RingValue) (plan : List Planned) (r : Result (List ℕ) Refusal) → first_refusal x.0 x.1.0 x.1.1.0 ≡ None → (ring ≡ x.0) × (plan ≡ x.1.0)
    → IsJudgedIf ring plan x.1.1.1.0 r → ReplaysOfIf x r
judged_there x ring plan (Ok text) accepted same j = accepted_there x (Ok text) accepted (there x ring plan (Ok text) same j)
judged_there x ring plan (Err e) accepted same j = λ other. accepted_there x (Err e) accepted (there x ring plan (Err e) same (j other))
