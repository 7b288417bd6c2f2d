-- What a sound plan promises of every run of it.
use Rattle.std.specs.Prelude.{◌≡◌, ◌↔◌, ℕ, ◌<◌, true, List, ◌∷◌, length, get_or, Ok}
use Rattle.ring_names.specs.Lists.{has}
use Rattle.ring_names.specs.declared.ids.Slot.{Slot}
use Rattle.ring_table.specs.Value.{RingValue}
use Rattle.plan_text.specs.declared.step.Planned.{Planned}
use Rattle.plan_text.specs.Steps.{steps_of}
use Rattle.plan_runs.specs.declared.event.Entry.{Entry}
use Rattle.plan_runs.specs.declared.event.Event.TheVariants.{StartGet, EndGet}
use Rattle.plan_runs.specs.declared.event.Reply.TheVariants as reply
use Rattle.plan_runs.specs.declared.words.Key.{Key}
use Rattle.plan_runs.specs.World.{World, count, is_acked, is_of_key}
use Rattle.plan_runs.specs.Succession.{Succeeds}
use Rattle.plan_runs.specs.Answers.{answer}
use Rattle.plan_runs.specs.Runs.{Always, Leads, IsRun}
use Rattle.plan_check.specs.Safe.{Safe}

-- the put or a successor is among the puts that the get answers
abbrev pub IsAnswered : World → ℕ → List ℕ → Type 0
IsAnswered w v found = (u : ℕ) × (has u found ≡ true) × Succeeds w u v

-- a get that starts in a world sees each put of its key that is acknowledged there
abbrev pub GetsAreFresh : RingValue → List Planned → Type 0
GetsAreFresh ring plan = (before between : List Entry) (start mid w : World) (key : Key) (g : ℕ) (found : List ℕ)
    → IsRun ring plan before start
    → Leads ring plan start (record { event = StartGet key; reply = reply.Get g } ∷ between) mid
    → answer ring plan mid (EndGet g) ≡ Ok (w, reply.Answer found)
    → (v : ℕ) → is_of_key start key v ≡ true → is_acked start v ≡ true → IsAnswered w v found

-- the headline: at every moment the store is safe, and gets see the puts that were acknowledged before they started
pub record KeepsPromises (ring : RingValue) (plan : List Planned) : Type 0 where
  pub safe : Always ring plan (Safe ring plan)
  pub fresh : GetsAreFresh ring plan

-- the finished steps of a slot are its first ones
abbrev pub AreFinishedFirst : List Planned → World → Type 0
AreFinishedFirst plan w = (slot : Slot) (i : ℕ) → i < length (steps_of plan slot)
    → (w.done (get_or (steps_of plan slot) i 0) ≡ true) ↔ (i < count w.done (steps_of plan slot))
