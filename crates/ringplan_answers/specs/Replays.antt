-- What a replay of a bundle prints.
use Rattle.std.specs.Prelude.{◌≡◌, ◌≢◌, ℕ, List, Option, Some, None, Result, Ok, Err}
use Rattle.ring_names.specs.declared.refusal.Refusal.{Refusal}
use Rattle.ring_names.specs.declared.refusal.Refusal.TheVariants.{OutOfMemory}
use Rattle.texts.specs.Left.{whole_text}
use Rattle.ring_table.specs.Value.{RingValue}
use Rattle.plan_text.specs.declared.step.Planned.{Planned}
use Rattle.plan_runs.specs.declared.event.Entry.{Entry}
use Rattle.plan_check.specs.First.{first_refusal}
use Rattle.plan_runs.specs.World.{opening_world}
use Rattle.ring_script.specs.Faults.{IsFirstFault}
use Rattle.ring_script.specs.Replay.{IsReplayed}
use Rattle.history_text.specs.Replays.{Parts, replay_at}

-- `yes` and the owners behind a run of the plan, or the first entry that fails
abbrev pub IsJudged : RingValue → List Planned → List Entry → Result (List ℕ) Refusal → Type 0
IsJudged ring plan history (Ok text) = IsReplayed ring plan history text
IsJudged ring plan history (Err e) = IsFirstFault ring plan (opening_world ring) 0 history e

-- the same, unless memory ran out
abbrev pub IsJudgedIf : RingValue → List Planned → List Entry → Result (List ℕ) Refusal → Type 0
IsJudgedIf ring plan history (Ok text) = IsJudged ring plan history (Ok text)
IsJudgedIf ring plan history (Err e) = e ≢ OutOfMemory → IsJudged ring plan history (Err e)

-- the checker's refusal of the plan, if there is one, and otherwise that
abbrev pub IsReplayBy : Option Refusal → RingValue → List Planned → List Entry → Result (List ℕ) Refusal → Type 0
IsReplayBy (Some e) ring plan history r = r ≡ Err e
IsReplayBy None ring plan history r = IsJudged ring plan history r

-- the same of the parts of a bundle
abbrev pub IsReplayOf : Parts → Result (List ℕ) Refusal → Type 0
IsReplayOf x r = IsReplayBy (first_refusal x.0 x.1.0 x.1.1.0) x.0 x.1.0 x.1.1.1.0 r

-- the first fault of what was read, if there is one, and otherwise that
abbrev pub IsReplayTo : Result Parts Refusal → Result (List ℕ) Refusal → Type 0
IsReplayTo (Ok x) r = IsReplayOf x r
IsReplayTo (Err e) r = r ≡ Err e

-- the same of a text
abbrev pub Replays : List ℕ → Result (List ℕ) Refusal → Type 0
Replays bytes r = IsReplayTo (whole_text replay_at bytes) r

-- the same of the parts of a bundle, unless memory ran out
abbrev pub ReplaysOfIf : Parts → Result (List ℕ) Refusal → Type 0
ReplaysOfIf x (Ok text) = IsReplayOf x (Ok text)
ReplaysOfIf x (Err e) = e ≢ OutOfMemory → IsReplayOf x (Err e)
