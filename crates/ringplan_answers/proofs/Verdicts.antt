-- What a job makes of a bundle, by its parts.
use Rattle.std.proofs.Common.{◌≡◌, ◌==◌, if◌then◌else◌, Bool, true, false, ℕ, List, None, Result, Ok, Err, IfOk, IfErr, [], ◌++◌, refl, ap, sym, ◌∙◌, subst}
use Rattle.std.specs.Global.{Vec}
use Rattle.ring_names.specs.declared.refusal.Refusal.{Refusal}
use Rattle.ring_names.specs.declared.refusal.Refusal.TheVariants.{OutOfMemory}
use Rattle.texts.specs.Judging.{Gives}
use Rattle.texts.specs.Left.{whole_text}
use Rattle.ring_table.specs.Value.{RingValue, migrated}
use Rattle.plan_text.specs.declared.step.Planned.{Planned}
use Rattle.plan_text.specs.Spelling.{plan_text}
use Rattle.plan_cert.specs.declared.cert.Cert.{Cert}
use Rattle.plan_cert.specs.Spelling.{cert_text}
use Rattle.plan_cert.specs.Valid.{Suits}
use Rattle.change_text.specs.declared.wanted.Wanted.{Wanted}
use Rattle.change_text.specs.Wanted.{wanted_at}
use Rattle.plan_check.specs.First.{first_refusal}
use Rattle.plan_goal.specs.Proposals.{IsProposed, no_memory}
use Rattle.ring_script.specs.Bundles.{bundle_at}
use Rattle.ring_script.specs.Play.{play_text}
use Rattle.ring_script.specs.declared.bundle.Bundle.{Bundle}
use Rattle.ring_script.specs.declared.bundle.Kind.TheVariants.{Check, Play}
use Rattle.ringplan_request.specs.declared.job.Job.TheVariants.{Plan}
use Rattle.ringplan_answers.specs.Answers.{texts_of}
use Rattle.ringplan_answers.specs.Verdict.{IsAnswer, IsAnswerTo, MakesIf, judged, migrated_text, migration, plays, shown, verdict}

pub verdict-bad : (bytes : List ℕ) (e : Refusal) → whole_text (bundle_at Check) bytes ≡ Err e → verdict bytes ≡ Err e
unfolding verdict
verdict-bad bytes e h = rw h refl

pub verdict-good : (bytes : List ℕ) (b : Bundle) → whole_text (bundle_at Check) bytes ≡ Ok b → verdict bytes ≡ judged (first_refusal b.ring b.plan b.cert)
unfolding verdict
verdict-good bytes b h = rw h refl

pub migration-bad : (bytes : List ℕ) (e : Refusal) → whole_text (bundle_at Check) bytes ≡ Err e → migration bytes ≡ Err e
unfolding migration
migration-bad bytes e h = rw h refl

migration-good : (bytes : List ℕ) (b : Bundle) → whole_text (bundle_at Check) bytes ≡ Ok b → migration bytes ≡ Ok (migrated_text b)
unfolding migration
migration-good bytes b h = rw h refl

pub plays-bad : (bytes : List ℕ) (e : Refusal) → whole_text (bundle_at Play) bytes ≡ Err e → plays bytes ≡ Err e
unfolding plays
plays-bad bytes e h = rw h refl

pub plays-good : (bytes : List ℕ) (b : Bundle) → whole_text (bundle_at Play) bytes ≡ Ok b → plays bytes ≡ shown b
unfolding plays
plays-good bytes b h = rw h refl

-- what writes the migrated texts of what was read, memory aside, gives the migration
pub gives-migration : (bytes : List ℕ) (b : Bundle) (r : Result (Vec ℕ) Refusal) → whole_text (bundle_at Check) bytes ≡ Ok b → IfOk r (λ v. v.items ≡ migrated_text b) → IfErr r (λ e. e ≡ OutOfMemory)
    → Gives (texts_of r) (migration bytes)
gives-migration bytes b (Ok v) h p q = migration-good bytes b h ∙ ap Ok (sym p)
gives-migration bytes b (Err e) h p q = λ other. absurd (other q)

-- what plays the script of what was read and accepted, memory aside, gives what is shown
pub gives-play : (b : Bundle) (ring : RingValue) (plan : List Planned) (r : Result (Vec ℕ) Refusal) → first_refusal b.ring b.plan b.cert ≡ None → (ring ≡ b.ring) × (plan ≡ b.plan) → IfOk r (λ v. v.items ≡ play_text ring plan b.script)
    → IfErr r (λ e. e ≡ OutOfMemory) → Gives (texts_of r) (shown b)
gives-play b ring plan (Ok v) accepted same p q =
    let text = p ∙ (ap (λ (x : RingValue). play_text x plan b.script) same.0 ∙ ap (λ (x : List Planned). play_text b.ring x b.script) same.1) in
    rw accepted (ap Ok (sym text))
gives-play b ring plan (Err e) accepted same p q = λ other. absurd (other q)

-- what writes the texts of a plan that makes the change gives an answer to it
pub gives-answer : (w : Wanted) (ring : RingValue) (plan : List Planned) (cert : Cert) (r : Result (Vec ℕ) Refusal) → ring ≡ w.ring → IsProposed w.ring w.change plan cert
    → IfOk r (λ v. v.items ≡ plan_text ring plan ++ cert_text ring cert) → IfErr r (λ e. e ≡ OutOfMemory) → IsAnswer w (texts_of r)
gives-answer w ring plan cert (Ok v) same p text q = (plan, cert, p, subst (λ (x : RingValue). v.items ≡ plan_text x plan ++ cert_text x cert) same text)
gives-answer w ring plan cert (Err e) same p text q = (no_memory q, λ none. q)

-- an answer to the change that was read is what is wanted, memory aside
pub gives-plan : (bytes : List ℕ) (w : Wanted) (r : Result (Vec ℕ) Refusal) → whole_text wanted_at bytes ≡ Ok w → IsAnswer w (texts_of r) → MakesIf Plan bytes (texts_of r)
gives-plan bytes w (Ok v) h is = subst (λ (x : Result Wanted Refusal). IsAnswerTo x (Ok v.items)) (sym h) is
gives-plan bytes w (Err e) h is = λ other. subst (λ (x : Result Wanted Refusal). IsAnswerTo x (Err e)) (sym h) is

-- a certificate of a ring is one of the ring migrated: the nodes are the same
pub cert-migrated : (ring : RingValue) (v : Cert) → Suits ring v → Suits (migrated ring) v
cert-migrated ring v h = migrated-by (ring.format == 1)
  where
    migrated-by : (b : Bool) → Suits (if b then record ring { format = 2 } else ring) v
    migrated-by true = record { few_facts = h.few_facts; facts = h.facts; few_chains = h.few_chains; chains = h.chains }
    migrated-by false = h
