-- A judge that borrows nothing.
use Rattle.std.specs.Prelude.{◌≡◌, ℕ, List}
use Rattle.ring_names.specs.declared.refusal.Refusal.{Refusal}
use Rattle.ring_table.specs.Value.{RingValue}
use Rattle.plan_text.specs.declared.step.Planned.{Planned}
use Rattle.history_watch.specs.declared.judge.Judge.{Judge}
use Rattle.history_watch.specs.declared.resting.State.TheVariants.{Refused}
use Rattle.history_watch.specs.Pausing.{IsAt, IsOverAt}

-- these bytes have come, and all entries that their lines say are a run
abbrev pub IsJudging : RingValue → List Planned → List ℕ → Judge → Type 0
IsJudging ring plan bytes j = IsAt ring plan bytes j.approved j.count j.state

-- the line `end` has come
abbrev pub IsOver : Judge → Type 0
IsOver j = IsOverAt j.state

-- the judge answers this refusal from now on
abbrev pub HasRefused : Judge → Refusal → Type 0
HasRefused j e = j.state ≡ Refused e

-- the judge is as it was
pub record IsUnchanged (old new : Judge) : Type 0 where
  pub approved : new.approved ≡ old.approved
  pub state : new.state ≡ old.state
  pub count : new.count ≡ old.count
