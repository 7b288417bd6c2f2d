-- Entries that are followed after others.
use Rattle.std.proofs.Common.{◌≡◌, ℕ, suc, ◌+◌, ◌<◌, ◌≤◌, List, [], ◌∷◌, ◌++◌, length, take, drop, drop-cons, get_or, inl, inr, sym, ap, subst, ◌∙◌, arith}
use Rattle.std.proofs.lemmas.List.{length-take, take-append-drop}
use Rattle.ring_names.specs.declared.refusal.Refusal.{Refusal}
use Rattle.ring_names.proofs.Logic.{plus_zero}
use Rattle.ring_table.specs.Value.{RingValue}
use Rattle.plan_text.specs.declared.step.Planned.{Planned}
use Rattle.plan_runs.specs.declared.event.Entry.{Entry}
use Rattle.plan_runs.specs.Runs.{Leads}
use Rattle.plan_runs.specs.World.{World as TheWorld}
use Rattle.ring_core.specs.declared.world.World.{World}
use Rattle.ring_core.specs.World.{ring_of, plan_of, Meets}
use Rattle.ring_core.specs.Replays.{Follows}
use Rattle.ring_core.specs.Faults.{FailsAt, IsFirstFault}
use Rattle.ring_core.proofs.FirstFault.{fault_behind}
use Rattle.history_watch.specs.Following.{FailsIn, Reaches}

module _ (ring : RingValue) (plan : List Planned) where
  -- the first fault of entries is that of more
  pub fault_more : (w : TheWorld) (k : ℕ) (xs rest : List Entry) (e : Refusal) → IsFirstFault ring plan w k xs e → IsFirstFault ring plan w k (xs ++ rest) e
  fault_more w k [] rest e f = absurd f
  fault_more w k (x ∷ xs) rest e (inl f) = inl f
  fault_more w k (x ∷ xs) rest e (inr f) = inr (f.0, f.1, fault_more f.0 (k + 1) xs rest e f.2)

  plus_one : (k : ℕ) (y : Entry) (front : List Entry) → k + length (y ∷ front) ≡ (k + 1) + length front
  plus_one k y front = omega arith

  -- after entries that lead on, the first fault of what follows is that of all
  pub fault_joined : (w u : TheWorld) (k : ℕ) (front xs : List Entry) (e : Refusal) → Leads ring plan w front u → IsFirstFault ring plan u (k + length front) xs e → IsFirstFault ring plan w k (front ++ xs) e
  fault_joined w u k [] xs e l f = subst (λ (v : TheWorld). IsFirstFault ring plan v k xs e) l (subst (λ (n : ℕ). IsFirstFault ring plan u n xs e) (plus_zero k) f)
  fault_joined w u k (y ∷ front) xs e l f = inr (l.0, l.1, fault_joined l.0 u (k + 1) front xs e l.2 (subst (λ (n : ℕ). IsFirstFault ring plan u n xs e) (plus_one k y front) f))

-- ---- as the code has them

-- entries that were followed are reached
pub reaches : (old now : World) (before after k : ℕ) (entries : List Entry) → Follows old (take k entries) now → after ≡ before + k → k ≤ length entries → Reaches old before after entries
reaches old now before after k entries f counted few = record {
  followed = k;
  counted = counted;
  few = few;
  leads = λ w m. (let u = f.world w m in (u.0, u.1));
}

-- the entry at that place fails
pub fails_at : (old now : World) (before k line : ℕ) (entries : List Entry) (x : Entry) (e : Refusal) → Follows old (take k entries) now → k < length entries → get_or entries k x ≡ x
    → ((w : TheWorld) → Meets now w → FailsAt (ring_of now) (plan_of now) w (before + k) x e) → FailsIn old before line entries e
fails_at old now before k line entries x e f within is fails = inl (λ w m. (
    let there = f.world w m in
    let here = subst (λ (r : RingValue). FailsAt r (plan_of now) there.0 (before + k) x e) f.ring (fails there.0 there.2) in
    let here = subst (λ (p : List Planned). FailsAt (ring_of old) p there.0 (before + k) x e) f.plan here in
    let size = length-take k entries in
    let place : before + length (take k entries) ≡ before + k = omega arith in
    let here = subst (λ (n : ℕ). FailsAt (ring_of old) (plan_of old) there.0 n x e) (sym place) here in
    let rest = drop (suc k) entries in
    let all : entries ≡ take k entries ++ x ∷ rest =
    sym (take-append-drop k entries) ∙ ap (λ (ys : List Entry). take k entries ++ ys) (drop-cons entries k x within ∙ ap (λ (y : Entry). y ∷ rest) is) in
    subst (λ (xs : List Entry). IsFirstFault (ring_of old) (plan_of old) w before xs e) (sym all) (fault_behind (ring_of old) (plan_of old) w there.0 before (take k entries) x rest e there.1 here)))
