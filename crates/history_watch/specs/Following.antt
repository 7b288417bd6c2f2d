-- What following entries does to a store.
use Rattle.std.specs.Prelude.{◌≡◌, ◌⊎◌, ℕ, ◌+◌, ◌<◌, ◌≤◌, List, length, take}
use Rattle.ring_names.specs.declared.refusal.Refusal.{Refusal}
use Rattle.ring_names.specs.declared.refusal.Refusal.TheVariants.{TooLarge}
use Rattle.plan_runs.specs.declared.event.Entry.{Entry}
use Rattle.plan_runs.specs.Runs.{Leads}
use Rattle.plan_runs.specs.World.{World as TheWorld}
use Rattle.ring_core.specs.declared.world.World.{World}
use Rattle.ring_core.specs.World.{ring_of, plan_of, Meets}
use Rattle.ring_core.specs.Replays.{Follows}
use Rattle.ring_core.specs.Faults.{IsFirstFault}

-- the most entries that are counted
abbrev pub most : ℕ
most = 4294967294

-- all entries were followed and counted
pub record FollowsAll (old new : World) (before after : ℕ) (entries : List Entry) : Type 0 where
  pub follows : Follows old entries new
  pub counted : after ≡ before + length entries

-- an entry is the first fault, or there are more than are counted
abbrev pub FailsIn : World → ℕ → ℕ → List Entry → Refusal → Type 0
FailsIn old before line entries e = ((w : TheWorld) → Meets old w → IsFirstFault (ring_of old) (plan_of old) w before entries e)
    ⊎ ((e ≡ TooLarge line) × (most < before + length entries))

-- as many entries were followed as are counted now
pub record Reaches (old : World) (before after : ℕ) (entries : List Entry) : Type 0 where
  pub followed : ℕ
  pub counted : after ≡ before + followed
  pub few : followed ≤ length entries
  pub leads : (w : TheWorld) → Meets old w → (u : TheWorld) × Leads (ring_of old) (plan_of old) w (take followed entries) u
