-- What a watch by a bundle answers.
use Rattle.std.specs.Prelude.{◌≡◌, ◌≢◌, ◌⊎◌, ℕ, List, [], None, Option, Result, Ok, Err}
use Rattle.std.specs.Global.{Vec}
use Rattle.ring_names.specs.declared.refusal.Refusal.{Refusal}
use Rattle.ring_names.specs.declared.refusal.Refusal.TheVariants.{OutOfMemory}
use Rattle.texts.specs.Left.{whole_text}
use Rattle.plan_check.specs.First.{first_refusal}
use Rattle.ring_script.specs.Bundles.{bundle_at}
use Rattle.ring_script.specs.declared.bundle.Bundle.{Bundle}
use Rattle.ring_script.specs.declared.bundle.Kind.TheVariants.{Check}
use Rattle.ringplan_answers.specs.Verdict.{verdict}
use Rattle.history_watch.specs.declared.judge.Judge.{Judge}
use Rattle.history_watch.specs.Judging.{IsJudging}
use Rattle.history_watch.specs.Loops.{IsOutside, Watches}

-- the bytes are a bundle whose plan the checker accepts, and a watch by it answers so
pub record WatchesBy (bytes : List ℕ) (every : ℕ) (input left old new : Option (List ℕ)) (r : Result (Vec ℕ) Refusal) : Type 0 where
  pub bundle : Bundle
  pub read : whole_text (bundle_at Check) bytes ≡ Ok bundle
  pub accepted : first_refusal bundle.ring bundle.plan bundle.cert ≡ None
  pub watches : Watches bundle.ring bundle.plan every input left old new r

-- a watch answers so: either `check` refuses the bundle, or memory ran out, and nothing was read or printed. Otherwise a
-- history was watched
abbrev pub WatchesBundle : List ℕ → ℕ → Option (List ℕ) → Option (List ℕ) → Option (List ℕ) → Option (List ℕ) → Result (Vec ℕ) Refusal → Type 0
WatchesBundle bytes every input left old new (Ok text) = WatchesBy bytes every input left old new (Ok text)
WatchesBundle bytes every input left old new (Err e) = (((IsOutside e → ⊥) → verdict bytes ≡ Err e) × (left ≡ input) × (new ≡ old)) ⊎ WatchesBy bytes every input left old new (Err e)

-- the bytes are a bundle whose plan the checker accepts, and the judge is before the first byte of a history
pub record StartsBy (bytes : List ℕ) (j : Judge) : Type 0 where
  pub bundle : Bundle
  pub read : whole_text (bundle_at Check) bytes ≡ Ok bundle
  pub accepted : first_refusal bundle.ring bundle.plan bundle.cert ≡ None
  pub judging : IsJudging bundle.ring bundle.plan [] j

-- a judge begins by the bytes, or they are refused as by `check`, or memory ran out
abbrev pub StartsJudge : List ℕ → Result Judge Refusal → Type 0
StartsJudge bytes (Ok j) = StartsBy bytes j
StartsJudge bytes (Err e) = e ≢ OutOfMemory → verdict bytes ≡ Err e
