-- A plan that the checker refuses is refused for want of memory, or for the first clause that does not hold.
use Rattle.std.proofs.Common.{◌≡◌, ◌<◌, ◌+◌, ℕ, List, Some, inl, inr, ◌⊎◌, Bool, true, false, not, refl, subst, arith}
use Rattle.std.proofs.Math.Bool.{beq}
use Rattle.ring_names.specs.declared.ids.NodeId.{NodeId}
use Rattle.ring_names.specs.declared.refusal.Refusal.{Refusal}
use Rattle.ring_names.specs.declared.refusal.Refusal.TheVariants.{OutOfMemory}
use Rattle.ring_table.specs.Value.{RingValue}
use Rattle.plan_text.specs.declared.step.Planned.{Planned}
use Rattle.plan_cert.specs.declared.cert.Cert.{Cert}
use Rattle.plan_check.specs.First.{first_refusal}
use Rattle.plan_text.specs.Valid.{IsPlan}
use Rattle.change_text.specs.declared.change.Change.{Change}
use Rattle.plan_goal.specs.Reached.{Leads, IsUnreached, no_memory, not_accepted}
use Rattle.plan_goal.specs.Proposals.{Makes, IsTurnedAway, no_memory as no_memory_left, not_accepted as not_allowed}

pub unreached : (ring wanted : RingValue) (dead : List NodeId) (plan : List Planned) (cert : Cert) (e : Refusal)
    → Leads ring wanted dead plan cert → ((e ≡ OutOfMemory → ⊥) → first_refusal ring plan cert ≡ Some e) → IsUnreached ring wanted dead e
unreached ring wanted dead plan cert OutOfMemory leads h = no_memory refl
unreached ring wanted dead plan cert e leads h = not_accepted plan cert leads (h (λ o. cc))

cut : (k n : ℕ) → k < n + 1 → (k < n) ⊎ (n ≡ k)
cut k n l = grind arith

-- what two tests answer alike below a number they answer alike below the next, where they do so there
pub one-more : (f g : ℕ → Bool) (n : ℕ) → ((x : ℕ) → x < n → f x ≡ g x) → f n ≡ g n → (x : ℕ) → x < n + 1 → f x ≡ g x
one-more f g n below here x l = elim (cut x n l) [
  | inl h ↦ below x h
  | inr h ↦ subst (λ k. f k ≡ g k) h here
]

pub same-answer : (a b : Bool) → not (beq a b) ≡ false → a ≡ b
same-answer true true e = refl
same-answer false false e = refl
same-answer true false e = absurd cc
same-answer false true e = absurd cc

-- likewise of a plan that makes a change
pub turned-away : (ring : RingValue) (change : Change) (plan : List Planned) (cert : Cert) (e : Refusal)
    → IsPlan plan → Makes ring change plan cert → ((e ≡ OutOfMemory → ⊥) → first_refusal ring plan cert ≡ Some e) → IsTurnedAway ring change e
turned-away ring change plan cert OutOfMemory is_plan made h = no_memory_left refl
turned-away ring change plan cert e is_plan made h = not_allowed plan cert is_plan made (h (λ o. cc))
