-- A judge that begins by a bundle.
use Rattle.std.proofs.Common.{◌≡◌, ◌≢◌, List, [], Ok, Err, subst, ℕ}
use Rattle.std.specs.Prelude.{IfOk, IfErr, None, Result}
use Rattle.ring_names.specs.declared.refusal.Refusal.{Refusal}
use Rattle.ring_names.specs.declared.refusal.Refusal.TheVariants.{OutOfMemory}
use Rattle.texts.specs.Left.{whole_text}
use Rattle.ring_table.specs.Value.{RingValue}
use Rattle.plan_text.specs.declared.step.Planned.{Planned}
use Rattle.plan_check.specs.Approval.{Approval}
use Rattle.plan_check.specs.First.{first_refusal}
use Rattle.ring_script.specs.Bundles.{bundle_at}
use Rattle.ring_script.specs.declared.bundle.Bundle.{Bundle}
use Rattle.ring_script.specs.declared.bundle.Kind.TheVariants.{Check}
use Rattle.history_watch.specs.declared.judge.Judge.{Judge}
use Rattle.history_watch.specs.Bundles.{StartsJudge}
use Rattle.history_watch.specs.Judging.{IsJudging}

pub starts_by : (bytes : List ℕ) (r : Result Judge Refusal) (x : Bundle) → whole_text (bundle_at Check) bytes ≡ Ok x → first_refusal x.ring x.plan x.cert ≡ None → (a : Approval) → a.ring ≡ x.ring → a.plan ≡ x.plan
    → IfOk r (λ j. IsJudging a.ring a.plan [] j) → IfErr r (λ e. e ≡ OutOfMemory) → StartsJudge bytes r
starts_by bytes (Ok j) x read accepted a ring plan judging memory = record {
  bundle = x;
  read = read;
  accepted = accepted;
  judging = subst (λ (p : List Planned). IsJudging x.ring p [] j) plan (subst (λ (r : RingValue). IsJudging r a.plan [] j) ring judging);
}
starts_by bytes (Err e) x read accepted a ring plan judging memory = λ ne. absurd (ne memory)
