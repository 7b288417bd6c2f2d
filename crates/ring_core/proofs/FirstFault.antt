-- The first entry of a history that fails.
use Rattle.std.proofs.Common.{◌≡◌, ◌≢◌, ◌∙◌, inl, inr, ℕ, ◌+◌, List, [], ◌∷◌, ◌++◌, length, Result, Ok, sym, ap, subst, arith}
use Rattle.ring_names.specs.declared.refusal.Refusal.{Refusal}
use Rattle.ring_names.specs.declared.refusal.Refusal.TheVariants.{OutOfMemory, HistoryFull, Mismatch}
use Rattle.ring_names.specs.Refusals.{number_of}
use Rattle.ring_names.proofs.Logic.{plus_zero}
use Rattle.ring_table.specs.Value.{RingValue}
use Rattle.plan_text.specs.declared.step.Planned.{Planned}
use Rattle.plan_runs.specs.declared.event.Entry.{Entry}
use Rattle.plan_runs.specs.declared.event.Reply.{Reply}
use Rattle.plan_runs.specs.Answers.{answer}
use Rattle.plan_runs.specs.Runs.{Leads}
use Rattle.plan_runs.specs.World.{World as TheWorld}
use Rattle.ring_core.specs.Faults.{FailsAt, IsFirstFault}

plus_one : (k : ℕ) (y : Entry) (front : List Entry) → k + length (y ∷ front) ≡ (k + 1) + length front
plus_one k y front = omega arith

full_not_memory : (e : Refusal) → e ≡ HistoryFull → e ≢ OutOfMemory
full_not_memory e full memory = absurd cc

mismatch_not_full : (e : Refusal) (m c : ℕ) → e ≡ Mismatch m c → e ≢ HistoryFull
mismatch_not_full e m c is full = absurd cc

module _ (ring : RingValue) (plan : List Planned) where
  -- behind entries that were answered so, the entry that fails is the first
  pub fault_behind : (w u : TheWorld) (k : ℕ) (front : List Entry) (x : Entry) (rest : List Entry) (e : Refusal) → Leads ring plan w front u → FailsAt ring plan u (k + length front) x e
      → IsFirstFault ring plan w k (front ++ x ∷ rest) e
  fault_behind w u k [] x rest e l f =
      inl (subst (λ (v : TheWorld). FailsAt ring plan v k x e) l (subst (λ (n : ℕ). FailsAt ring plan u n x e) (plus_zero k) f))
  fault_behind w u k (y ∷ front) x rest e l f =
      inr (l.0, l.1, fault_behind l.0 u (k + 1) front x rest e l.2 (subst (λ (n : ℕ). FailsAt ring plan u n x e) (plus_one k y front) f))

  -- an entry that is answered so does not fail
  answered_fails_not : (w u : TheWorld) (k : ℕ) (x : Entry) (e : Refusal) → answer ring plan w x.event ≡ Ok (u, x.reply) → FailsAt ring plan w k x e → ⊥
  answered_fails_not w u k x e h (inl f) = (let refused = f.1 in absurd cc)
  answered_fails_not w u k x e h (inr f) = f.3 (
      let same : ◌≡◌ {A = Result (TheWorld × Reply) Refusal} (Ok (f.0, f.1)) (Ok (u, x.reply)) = sym f.2 ∙ h in
      let pair : (f.0, f.1) ≡ (u, x.reply) = cc in
      ap (λ (q : TheWorld × Reply). q.1) pair)

  -- no list both leads somewhere and has a first fault
  pub leads_without_fault : (w v : TheWorld) (k : ℕ) (xs : List Entry) (e : Refusal) → Leads ring plan w xs v → IsFirstFault ring plan w k xs e → ⊥
  leads_without_fault w v k [] e l f = f
  leads_without_fault w v k (x ∷ xs) e l (inl f) = answered_fails_not w l.0 k x e l.1 f
  leads_without_fault w v k (x ∷ xs) e l (inr f) = leads_without_fault l.0 v (k + 1) xs e l.2 (
      let same : ◌≡◌ {A = Result (TheWorld × Reply) Refusal} (Ok (f.0, x.reply)) (Ok (l.0, x.reply)) = sym f.1 ∙ l.1 in
      let pair : (f.0, x.reply) ≡ (l.0, x.reply) = cc in
      subst (λ (u : TheWorld). IsFirstFault ring plan u (k + 1) xs e) (ap (λ (q : TheWorld × Reply). q.0) pair) f.2)

  fails_once : (w : TheWorld) (k : ℕ) (x : Entry) (e f : Refusal) → FailsAt ring plan w k x e → FailsAt ring plan w k x f → e ≡ f
  fails_once w k x e f (inl a) (inl b) = (let r = a.1 in let s = b.1 in let p = a.2 in let q = b.2 in cc)
  fails_once w k x e f (inl a) (inr b) = (let r = a.1 in let s = b.2 in absurd cc)
  fails_once w k x e f (inr a) (inl b) = (let r = a.2 in let s = b.1 in absurd cc)
  fails_once w k x e f (inr a) (inr b) = a.4 ∙ sym b.4

  -- a list has one first fault at most
  pub fault_once : (w : TheWorld) (k : ℕ) (xs : List Entry) (e f : Refusal) → IsFirstFault ring plan w k xs e → IsFirstFault ring plan w k xs f → e ≡ f
  fault_once w k [] e f a b = absurd a
  fault_once w k (x ∷ xs) e f (inl a) (inl b) = fails_once w k x e f a b
  fault_once w k (x ∷ xs) e f (inl a) (inr b) = absurd (answered_fails_not w b.0 k x e b.1 a)
  fault_once w k (x ∷ xs) e f (inr a) (inl b) = absurd (answered_fails_not w a.0 k x f a.1 b)
  fault_once w k (x ∷ xs) e f (inr a) (inr b) = fault_once a.0 (k + 1) xs e f a.2 (
      let same : ◌≡◌ {A = Result (TheWorld × Reply) Refusal} (Ok (b.0, x.reply)) (Ok (a.0, x.reply)) = sym b.1 ∙ a.1 in
      let pair : (b.0, x.reply) ≡ (a.0, x.reply) = cc in
      subst (λ (u : TheWorld). IsFirstFault ring plan u (k + 1) xs f) (ap (λ (q : TheWorld × Reply). q.0) pair) b.2)

  -- the first fault is a mismatch
  pub fault_mismatch : (w : TheWorld) (k : ℕ) (xs : List Entry) (e : Refusal) → IsFirstFault ring plan w k xs e → (m c : ℕ) × (e ≡ Mismatch m c)
  fault_mismatch w k [] e f = absurd f
  fault_mismatch w k (x ∷ xs) e (inl (inl f)) = (k, number_of f.0, f.2)
  fault_mismatch w k (x ∷ xs) e (inl (inr f)) = (k, 0, f.4)
  fault_mismatch w k (x ∷ xs) e (inr f) = fault_mismatch f.0 (k + 1) xs e f.2

  -- so it is not that a history is full
  pub fault_not_full : (w : TheWorld) (k : ℕ) (xs : List Entry) (e : Refusal) → (e ≢ OutOfMemory → IsFirstFault ring plan w k xs e) → e ≢ HistoryFull
  fault_not_full w k xs e f full =
      let fault = fault_mismatch w k xs e (f (full_not_memory e full)) in
      mismatch_not_full e fault.0 fault.1 fault.2 full
