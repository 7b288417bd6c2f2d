-- Whose the ring and the plan of a bundle are.
use Rattle.std.specs.Prelude.{◌≡◌, ℕ, Bool, List, Ok, length}
use Rattle.texts.specs.Left.{whole_text}
use Rattle.ring_table.specs.Value.{RingValue}
use Rattle.ring_table.specs.Spelling.{ring_text}
use Rattle.ring_table.specs.Changed.{changed}
use Rattle.plan_text.specs.declared.step.Planned.{Planned}
use Rattle.plan_runs.specs.declared.event.Entry.{Entry}
use Rattle.change_text.specs.declared.options.Options.{Options}
use Rattle.plan_goal.specs.declared.proposed.Proposed.{Proposed}
use Rattle.plan_goal.specs.GoalsReached.{IsWishReached}
use Rattle.history_text.specs.Replays.{Parts, replay_at}
use Rattle.plan_check.specs.Approval.{IsApproved}
use Rattle.ring_core.specs.Replays.{IsHistory}
use Rattle.ring_script.specs.Bundles.{bundle_at}
use Rattle.ring_script.specs.declared.bundle.Bundle.{Bundle}
use Rattle.ring_script.specs.declared.bundle.Kind.TheVariants as kind
use Rattle.plan_runs.specs.Runs.{IsRun}
use Rattle.plan_runs.specs.World.{World, is_member_now}
use Rattle.ring_core.specs.Tables.{owners_now}
use Rattle.plan_goal.specs.Rings.{flags, ring_left}

-- the ring and the plan of a bundle without a history. They are those of the texts. Or they are the ring and a
-- plan that leads to the ring that the change wishes for, by some options
pub data IsPlanOf (bytes : List ℕ) (ring : RingValue) (plan : List Planned) : Type 0 where
  of_plan : (b : Bundle) → whole_text (bundle_at kind.Check) bytes ≡ Ok b → b.ring ≡ ring → b.plan ≡ plan → IsPlanOf bytes ring plan
  of_change : (options : Options) → (p : Proposed) → IsWishReached bytes options p → p.approved.ring ≡ ring → p.approved.plan ≡ plan → IsPlanOf bytes ring plan

-- the ring and the plan of a bundle, which may have a history that is a run of the plan
pub data IsStudyOf (bytes : List ℕ) (ring : RingValue) (plan : List Planned) : Type 0 where
  unbegun : IsPlanOf bytes ring plan → IsStudyOf bytes ring plan
  of_history : (p : Parts) → whole_text replay_at bytes ≡ Ok p → p.0 ≡ ring → p.1.0 ≡ plan → IsHistory ring plan p.1.1.1.0 → IsStudyOf bytes ring plan

-- the checker accepts the bundle's plan, so the plan keeps its promises
abbrev pub HasApproved : List ℕ → Type 0
HasApproved bytes = (ring : RingValue) × (plan : List Planned) × IsStudyOf bytes ring plan × IsApproved ring plan

-- the bytes are the text of a ring, and nothing more
abbrev pub IsRingText : List ℕ → Type 0
IsRingText bytes = (ring : RingValue) × (bytes ≡ ring_text ring)

-- what a summary is of: a plan that the checker accepts, or only a ring
pub data IsShown (bytes : List ℕ) : Type 0 where
  of_approved : HasApproved bytes → IsShown bytes
  of_ring : IsRingText bytes → IsShown bytes

-- the bytes are the texts of this ring, this plan, its certificate and this history, which is a run of the plan
pub record IsRecorded (bytes : List ℕ) (ring : RingValue) (plan : List Planned) (history : List Entry) : Type 0 where
  pub parts : Parts
  pub read : whole_text replay_at bytes ≡ Ok parts
  pub ring_is : parts.0 ≡ ring
  pub plan_is : parts.1.0 ≡ plan
  pub history_is : parts.1.1.1.0 ≡ history
  pub run : IsHistory ring plan history

-- whether each of the first nodes is a member in that world
abbrev pub members_now : RingValue → List Planned → World → ℕ → List Bool
members_now ring plan w = flags (is_member_now ring plan w)

-- the text is that of the ring, with the owners and the members of the world to which the history leads
abbrev pub IsLeftAt : RingValue → List Planned → List Entry → List ℕ → Type 0
IsLeftAt ring plan history text = ∥ ((w : World) × IsRun ring plan history w
    × (text ≡ ring_text (changed ring (owners_now ring plan w) (members_now ring plan w (length ring.nodes))))) ∥₁

-- the same of a bundle with a history
abbrev pub IsLeftNow : List ℕ → List ℕ → Type 0
IsLeftNow bytes text = (ring : RingValue) × (plan : List Planned) × (history : List Entry) × IsRecorded bytes ring plan history × IsLeftAt ring plan history text

-- the text is that of the ring of a bundle without a history. The owners are those after the last step of its
-- plan. The members are those that were or joined, and did not retire
abbrev pub IsLeftBy : List ℕ → List ℕ → Type 0
IsLeftBy bytes text = (ring : RingValue) × (plan : List Planned) × IsPlanOf bytes ring plan × IsApproved ring plan × (text ≡ ring_text (ring_left ring plan))
