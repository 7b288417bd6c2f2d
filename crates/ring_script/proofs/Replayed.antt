-- What a replay prints, by the store behind the history.
use Rattle.std.proofs.Common.{◌≡◌, ◌∙◌, ℕ, List, Result, Ok, Err, IfOk, ap}
use Rattle.std.specs.Global.{Vec}
use Rattle.std.proofs.Math.Logic.{∥∥₁_map}
use Rattle.ring_names.specs.declared.refusal.Refusal.{Refusal}
use Rattle.ring_table.specs.Value.{RingValue}
use Rattle.plan_text.specs.declared.step.Planned.{Planned}
use Rattle.plan_runs.specs.declared.event.Entry.{Entry}
use Rattle.plan_runs.specs.World.{World as TheWorld}
use Rattle.ring_core.specs.declared.world.World.{World}
use Rattle.ring_core.specs.World.{plan_of, Meets}
use Rattle.ring_core.specs.Replays.{Replays}
use Rattle.ring_script.specs.Replay.{ending_text, IsReplayed}

pub is_replayed : (ring by : RingValue) (plan : List Planned) (a : World) (history : List Entry) (r : Result (Vec ℕ) Refusal) → Replays ring plan a history → by ≡ ring → plan_of a ≡ plan
    → IfOk r (λ v. (w : TheWorld) → Meets a w → v.items ≡ ending_text by (plan_of a) w) → IfOk r (λ v. IsReplayed ring plan history v.items)
is_replayed ring by plan a history (Ok v) replays same_ring same_plan text =
    ∥∥₁_map replays (λ x. (x.0, x.2, text x.0 x.1 ∙ (ap (λ (g : RingValue). ending_text g (plan_of a) x.0) same_ring ∙ ap (λ (p : List Planned). ending_text ring p x.0) same_plan)))
is_replayed ring by plan a history (Err e) replays same_ring same_plan text = tt
