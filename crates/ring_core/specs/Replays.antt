-- What a history leads to.
use Rattle.std.specs.Prelude.{◌≡◌, ◌+◌, ◌≤◌, List, length}
use Rattle.ring_table.specs.Value.{RingValue}
use Rattle.plan_text.specs.declared.step.Planned.{Planned}
use Rattle.plan_runs.specs.declared.event.Entry.{Entry}
use Rattle.plan_runs.specs.Runs.{Leads, IsRun}
use Rattle.plan_runs.specs.World.{World as TheWorld}
pub use Rattle.ring_core.specs.declared.world.World.{World}
use Rattle.ring_core.specs.World.{ring_of, plan_of, Meets, put_count, get_count}

-- the history is a run of the plan, which leads to a world that the store is in
abbrev pub Replays : RingValue → List Planned → World → List Entry → Type 0
Replays ring plan a history = ∥ ((w : TheWorld) × Meets a w × IsRun ring plan history w) ∥₁

-- the history is a run of the plan
abbrev pub IsHistory : RingValue → List Planned → List Entry → Type 0
IsHistory ring plan history = ∥ ((w : TheWorld) × IsRun ring plan history w) ∥₁

-- the entries lead from each world in which the store was to a world in which the store is now
pub record Follows (old : World) (entries : List Entry) (new : World) : Type 0 where
  pub ring : ring_of new ≡ ring_of old
  pub plan : plan_of new ≡ plan_of old
  pub puts : put_count new ≤ put_count old + length entries
  pub gets : get_count new ≤ get_count old + length entries
  pub world : (w : TheWorld) → Meets old w → (u : TheWorld) × Leads (ring_of old) (plan_of old) w entries u × Meets new u
