-- What a job makes of a bundle.
use Rattle.std.specs.Prelude.{◌≡◌, ◌≢◌, ℕ, List, [], ◌∷◌, ◌++◌, Option, Some, None, Result, Ok, Err, OnOk, codes}
use Rattle.ring_names.specs.declared.refusal.Refusal.{Refusal}
use Rattle.ring_names.specs.declared.refusal.Refusal.TheVariants.{OutOfMemory}
use Rattle.texts.specs.Judging.{map_ok}
use Rattle.texts.specs.Left.{◌>>=◌, whole_text}
use Rattle.ring_table.specs.Value.{migrated}
use Rattle.ring_table.specs.Spelling.{ring_text}
use Rattle.plan_text.specs.declared.step.Planned.{Planned}
use Rattle.plan_text.specs.Spelling.{plan_text}
use Rattle.plan_cert.specs.declared.cert.Cert.{Cert}
use Rattle.plan_cert.specs.Spelling.{cert_text}
use Rattle.change_text.specs.declared.wanted.Wanted.{Wanted}
use Rattle.change_text.specs.Wanted.{wanted_at}
use Rattle.plan_check.specs.First.{first_refusal}
use Rattle.plan_check.specs.Headline.{KeepsPromises}
use Rattle.plan_goal.specs.Proposals.{IsProposed, IsTurnedAway}
use Rattle.ring_script.specs.Bundles.{bundle_at}
use Rattle.ring_script.specs.Play.{play_text}
use Rattle.ring_script.specs.declared.bundle.Bundle.{Bundle}
use Rattle.ring_script.specs.declared.bundle.Kind.TheVariants as kind
use Rattle.ringplan_answers.specs.Replays.{Replays}
use Rattle.ringplan_request.specs.declared.job.Job.{Job}
use Rattle.ringplan_request.specs.declared.job.Job.TheVariants.{Check, Migrate, Plan, Play, Replay}

-- yes, or the first clause that does not hold
abbrev pub judged : Option Refusal → Result (Unit {0}) Refusal
judged None = Ok tt
judged (Some e) = Err e

-- the first fault of the text, if there is one, and otherwise the checker's answer
unfoldable pub verdict : List ℕ → Result (Unit {0}) Refusal
verdict bytes = whole_text (bundle_at kind.Check) bytes >>= λ b. judged (first_refusal b.ring b.plan b.cert)

-- the bytes are the texts of a ring, a plan and a certificate, and the plan keeps its promises
abbrev pub TextsKeepPromises : List ℕ → Type 0
TextsKeepPromises bytes = (b : Bundle) × (whole_text (bundle_at kind.Check) bytes ≡ Ok b) × KeepsPromises b.ring b.plan

-- the texts of a bundle, the ring migrated and the certificate in the format that goes with it
abbrev pub migrated_text : Bundle → List ℕ
migrated_text b = ring_text (migrated b.ring) ++ (plan_text b.ring b.plan ++ cert_text (migrated b.ring) b.cert)

-- the first fault of the text, if there is one, and otherwise those texts; nothing is checked
unfoldable pub migration : List ℕ → Result (List ℕ) Refusal
migration bytes = map_ok migrated_text (whole_text (bundle_at kind.Check) bytes)

-- the checker's refusal of a bundle, or what a play of its script prints
abbrev pub shown : Bundle → Result (List ℕ) Refusal
shown b = map_ok (λ _. play_text b.ring b.plan b.script) (judged (first_refusal b.ring b.plan b.cert))

-- the first fault of the text, if there is one, and otherwise that
unfoldable pub plays : List ℕ → Result (List ℕ) Refusal
plays bytes = whole_text (bundle_at kind.Play) bytes >>= shown

-- the text of a plan that makes the change, and of its certificate. Or why there is none, and if no node leaves
-- that is want of memory
abbrev pub IsAnswer : Wanted → Result (List ℕ) Refusal → Type 0
IsAnswer w (Ok text) = (plan : List Planned) × (cert : Cert) × IsProposed w.ring w.change plan cert × (text ≡ plan_text w.ring plan ++ cert_text w.ring cert)
IsAnswer w (Err e) = IsTurnedAway w.ring w.change e × (w.change.leaves ≡ [] → e ≡ OutOfMemory)

-- the first fault of what was read, if there is one, and otherwise an answer to the change
abbrev pub IsAnswerTo : Result Wanted Refusal → Result (List ℕ) Refusal → Type 0
IsAnswerTo (Ok w) r = IsAnswer w r
IsAnswerTo (Err e) r = r ≡ Err e

-- the same of a text
abbrev pub Plans : List ℕ → Result (List ℕ) Refusal → Type 0
Plans bytes r = IsAnswerTo (whole_text wanted_at bytes) r

-- what a job makes of a bundle: `yes` and the byte 0A, and then the plan keeps its promises. Or the migrated
-- texts, what a play prints, a plan for a change, or what a replay prints
abbrev pub Makes : Job → List ℕ → Result (List ℕ) Refusal → Type 0
Makes Check bytes r = (map_ok (λ _. codes "yes" ++ 10 ∷ []) (verdict bytes) ≡ r) × OnOk r (TextsKeepPromises bytes)
Makes Migrate bytes r = migration bytes ≡ r
Makes Play bytes r = plays bytes ≡ r
Makes Plan bytes r = Plans bytes r
Makes Replay bytes r = Replays bytes r

-- the same, unless memory ran out
abbrev pub MakesIf : Job → List ℕ → Result (List ℕ) Refusal → Type 0
MakesIf job bytes (Ok text) = Makes job bytes (Ok text)
MakesIf job bytes (Err e) = e ≢ OutOfMemory → Makes job bytes (Err e)
