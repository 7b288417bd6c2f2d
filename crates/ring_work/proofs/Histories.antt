-- What the end of a store says of its history.
use Rattle.std.proofs.Common.{List}
use Rattle.std.proofs.Math.Logic.{∥∥₁_map}
use Rattle.std.specs.Prelude.{◌↔◌, Bool, IsTrue}
use Rattle.ring_table.specs.Value.{RingValue}
use Rattle.plan_text.specs.declared.step.Planned.{Planned}
use Rattle.plan_runs.specs.declared.event.Entry.{Entry}
use Rattle.plan_runs.specs.World.{World as TheWorld}
use Rattle.ring_exec.specs.Kept.{World}
use Rattle.ring_exec.specs.World.{Meets}
use Rattle.ring_exec.specs.Tables.{AllDone}
use Rattle.ring_exec.specs.Replays.{Replays}
use Rattle.ring_work.specs.Driven.{IsHistory, IsWhole}

-- a history that a store replays is a run
pub history : (ring : RingValue) (plan : List Planned) (a : World) (h : List Entry) → Replays ring plan a h → IsHistory ring plan h
history ring plan a h replays = ∥∥₁_map replays (λ x. (x.0, x.2))

-- and finishes every step where the store has
pub whole : (ring : RingValue) (plan : List Planned) (a : World) (h : List Entry) (b : Bool) → Replays ring plan a h → ((w : TheWorld) → Meets a w → IsTrue b ↔ AllDone plan w)
    → IsTrue b → IsWhole ring plan h
whole ring plan a h b replays done finished = ∥∥₁_map replays (λ x. (x.0, x.2, (done x.0 x.1).0 finished))
