-- A watch that rests.
use Rattle.std.specs.Prelude.{◌≡◌, ◌≢◌, ℕ, ◌≤◌, List, Result, Ok, Err}
use Rattle.ring_names.specs.declared.refusal.Refusal.{Refusal}
use Rattle.ring_table.specs.Value.{RingValue}
use Rattle.plan_text.specs.declared.step.Planned.{Planned}
use Rattle.plan_check.specs.Approval.{Approval}
use Rattle.history_text.specs.declared.reader.Stage.TheVariants.{Over}
use Rattle.history_text.specs.State.{IsRun as HasNoEnd}
use Rattle.ring_core.specs.Resting.{IsReady as IsReadyRest, rest_of, puts_in, gets_in}
use Rattle.history_watch.specs.declared.resting.Paused.{Paused}
use Rattle.history_watch.specs.declared.resting.State.{State}
use Rattle.history_watch.specs.declared.resting.State.TheVariants.{Going, Refused}
use Rattle.history_watch.specs.declared.watch.Watch.{Watch}
use Rattle.history_watch.specs.Watching.{IsWatching}

-- what a watch keeps at rest
abbrev pub paused_of : Watch → Paused
paused_of w = record {
  rest = rest_of w.world;
  writers = w.reader.writers;
  line = w.reader.line;
  stage = w.reader.stage;
  started = w.reader.started;
  left = w.left;
}

-- what is kept is that of a watch of this ring and plan, which has room for one more put or get
pub record IsReady (ring : RingValue) (plan : List Planned) (count : ℕ) (p : Paused) : Type 0 where
  pub rest : IsReadyRest ring plan p.rest
  pub puts : puts_in p.rest ≤ count
  pub gets : gets_in p.rest ≤ count
  pub left : p.stage ≢ Over → HasNoEnd p.left.items

-- if nothing was refused, a watch can be made of what is kept
abbrev pub IsReadyState : RingValue → List Planned → ℕ → State → Type 0
IsReadyState ring plan count state = (p : Paused) → state ≡ Going p → IsReady ring plan count p

-- what a judge in that state answers to bytes
abbrev pub answer_in : State → Result (Unit {0}) Refusal
answer_in (Going p) = Ok tt
answer_in (Refused e) = Err e

-- the line `end` has come
abbrev pub IsOverAt : State → Type 0
IsOverAt (Going p) = p.stage ≡ Over
IsOverAt (Refused e) = ⊥

-- these bytes have come, nothing was refused, and what is kept is that of a watch of them
pub record IsAt (ring : RingValue) (plan : List Planned) (bytes : List ℕ) (approved : Approval) (count : ℕ) (state : State) : Type 0 where
  pub ring_is : approved.ring ≡ ring
  pub plan_is : approved.plan ≡ plan
  pub watch : Watch
  pub rests : state ≡ Going (paused_of watch)
  pub counts : watch.count ≡ count
  pub is : IsWatching ring plan bytes watch
