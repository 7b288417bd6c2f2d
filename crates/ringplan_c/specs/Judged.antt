-- What the calls that watch a history answer.
use Rattle.std.specs.Prelude.{◌≡◌, ◌≢◌, ◌⊎◌, ℕ, ◌≤◌, ◌<◌, List, [], ◌++◌, None, Some, Result, Ok, Err, IfOk, IfErr, OnOk, length}
use Rattle.std.specs.Global.{Vec}
use Rattle.ring_names.specs.declared.refusal.Refusal.{Refusal}
use Rattle.ring_names.specs.declared.refusal.Refusal.TheVariants.{OutOfMemory, TooLarge}
use Rattle.texts.specs.Judging.{map_ok}
use Rattle.ring_table.specs.Value.{RingValue}
use Rattle.plan_text.specs.declared.step.Planned.{Planned}
use Rattle.history_watch.specs.Bundles.{StartsBy}
use Rattle.history_watch.specs.Judging.{HasRefused, IsJudging, IsOver, IsUnchanged}
use Rattle.history_watch.specs.Watching.{IsAnswer, IsCutOff, IsJudged, IsRefused}
use Rattle.history_watch.specs.declared.judge.Judge.{Judge}
use Rattle.ringplan_answers.specs.Answers.{output_of, status_of, texts_of}
use Rattle.ringplan_answers.specs.Io.{max_input}
use Rattle.ringplan_answers.specs.Verdict.{verdict}
use Rattle.ringplan_c.specs.Held.{held}
use Rattle.ringplan_c.specs.Room.{Fills}
use Rattle.ringplan_c.specs.declared.handle.Handle.{Handle}

-- a judge begins by the bytes, or they are refused as by `check`, or memory ran out
abbrev pub Begins : List ℕ → Result Judge Refusal → Type 0
Begins bytes (Ok j) = (length bytes ≤ max_input) × StartsBy bytes j
Begins bytes (Err e) = e ≢ OutOfMemory → ((max_input < length bytes) × (e ≡ TooLarge 0)) ⊎ ((length bytes ≤ max_input) × (verdict bytes ≡ Err e))

-- the handle holds the judge that began, or none
abbrev pub Holds : Handle → Result Judge Refusal → Type 0
Holds h (Ok j) = held h ≡ Some j
Holds h (Err e) = held h ≡ None

-- what is told of a result: its text, or the refusal's line, for which memory may run out
abbrev pub IsTold : Result (List ℕ) Refusal → Result (List ℕ) Refusal → Type 0
IsTold (Ok text) s = s ≡ Ok text
IsTold (Err e) s = (s ≡ Err e) ⊎ (s ≡ Err OutOfMemory)

-- the room is filled with what is told
abbrev pub Tells : Result (List ℕ) Refusal → List ℕ → List ℕ → ℕ → ℕ → Type 0
Tells r old new told result = (s : Result (List ℕ) Refusal) × IsTold r s × Fills (output_of s) (status_of s) old new told result

-- a result without a text
abbrev pub no_text : Result (Unit {0}) Refusal → Result (List ℕ) Refusal
no_text = map_ok (λ _. [])

-- a judge began by the bytes and is held, and no text is told; or why not
abbrev pub Opens : Handle → List ℕ → List ℕ → List ℕ → ℕ → ℕ → Type 0
Opens h bytes old new told result = (r : Result Judge Refusal) × Begins bytes r × Holds h r × Tells (no_text (map_ok (λ _. tt) r)) old new told result

-- what taking bytes makes of a judge
pub record Takes (j k : Judge) (bytes : List ℕ) (r : Result (Unit {0}) Refusal) : Type 0 where
  pub ok : OnOk r ((ring : RingValue) (plan : List Planned) (before : List ℕ) → IsJudging ring plan before j → IsJudging ring plan (before ++ bytes) k)
  pub err : IfErr r (λ e. e ≢ OutOfMemory → (ring : RingValue) (plan : List Planned) (before : List ℕ) → IsJudging ring plan before j → IsRefused ring plan (before ++ bytes) e)
  pub judged : (ring : RingValue) (plan : List Planned) (before : List ℕ) → IsJudging ring plan before j → IsJudged ring plan (before ++ bytes) k.count
  pub counts : j.count ≤ k.count
  pub refused : IfErr r (λ e. HasRefused k e)
  pub again : (e : Refusal) → HasRefused j e → HasRefused k e × IfErr r (λ f. f ≡ e) × OnOk r ⊥

-- the judge that is held took the bytes, and what it answers is told
abbrev pub TakesIn : Handle → Handle → List ℕ → List ℕ → List ℕ → ℕ → ℕ → Type 0
TakesIn before after bytes old new told result = (j k : Judge) × (held before ≡ Some j) × (held after ≡ Some k) × ((r : Result (Unit {0}) Refusal) × Takes j k bytes r × Tells (no_text r) old new told result)

-- what a judge answers at the end
pub record Ends (j k : Judge) (r : Result (Vec ℕ) Refusal) : Type 0 where
  pub ok : IfOk r (λ text. (ring : RingValue) (plan : List Planned) (bytes : List ℕ) (so : IsJudging ring plan bytes j) → IsAnswer ring plan bytes so.watch so.is.said text.items)
  pub err : IfErr r (λ e. e ≢ OutOfMemory → (ring : RingValue) (plan : List Planned) (bytes : List ℕ) → IsJudging ring plan bytes j → IsCutOff ring plan bytes e)
  pub over : IfErr r (λ e. IsOver j → e ≡ OutOfMemory)
  pub same : IsUnchanged j k
  pub again : (e : Refusal) → HasRefused j e → IfErr r (λ f. f ≡ e) × IfOk r (λ text. ⊥)

-- what the judge that is held answers at the end is told
abbrev pub EndsIn : Handle → Handle → List ℕ → List ℕ → ℕ → ℕ → Type 0
EndsIn before after old new told result = (j k : Judge) × (held before ≡ Some j) × (held after ≡ Some k) × ((r : Result (Vec ℕ) Refusal) × Ends j k r × Tells (texts_of r) old new told result)
