-- The index of a plan with one more step.
use Rattle.std.proofs.Common.{◌≡◌, ℕ, ◌+◌, ◌<◌, Bool, true, false, cond, List, [], ◌∷◌, ◌++◌, length, Option, Some, None, refl, sym, ap, ◌∙◌, subst, arith, add-zero, ◌⊎◌, inl, inr, not, ◌&&◌, ◌||◌, ◌==◌, is_some, IfSome, flat_map}
use Rattle.std.proofs.Common.{append-nil}
use Rattle.std.specs.Option.{option_or}
use Rattle.plan_text.proofs.Terms.{Slot, NodeId, Step, Join, Mirror, Copy, Switch, Drop, Retire, Source, Planned, is_on, steps_of, joins, retires}
use Rattle.ring_names.proofs.InLists.{has_push, different_push}
use Rattle.plan_text.specs.declared.index.NodeIndex.{NodeIndex}
use Rattle.plan_text.specs.declared.index.Index.{Index}
use Rattle.plan_text.specs.declared.slot_steps.SlotSteps.{SlotSteps}
use Rattle.plan_text.specs.Held.{first_of, holds, HoldsNodes, HoldsSteps}
use Rattle.plan_text.specs.SlotSteps.{numbers_at}
use Rattle.plan_text.specs.Steps.{is_slot, is_join_of, is_retire_of, first_step}
use Rattle.plan_text.proofs.Pushed.{steps_of-push, named-push}

-- ---- the first step that passes a test

-- what was found first, or the last step's number where that passes
abbrev pub or_last : Option ℕ → Bool → ℕ → Option ℕ
or_last o b n = option_or o (cond b (Some n) None)

or_none : (o : Option ℕ) (n : ℕ) → or_last o false n ≡ o
or_none None n = refl
or_none (Some k) n = refl

some_or : (o : Option ℕ) (b : Bool) (n : ℕ) → is_some (or_last o b n) ≡ (b || is_some o)
some_or None true n = refl
some_or None false n = refl
some_or (Some k) true n = refl
some_or (Some k) false n = refl

one_before : (b : Bool) (k : ℕ) (o p : Option ℕ) (last : Bool) (n m : ℕ) → p ≡ or_last o last n → n ≡ m → cond b (Some k) p ≡ or_last (cond b (Some k) o) last m
one_before true k o p last n m is e = refl
one_before false k o p last n m is e = is ∙ ap (or_last o last) e

first_step-push : (test : Step → Bool) (k : ℕ) (xs : List Planned) (x : Planned) → first_step test k (xs ++ x ∷ []) ≡ or_last (first_step test k xs) (test x.step) (k + length xs)
first_step-push test k [] x = rw (add-zero k) refl
first_step-push test k (y ∷ ys) x =
    one_before (test y.step) k (first_step test (k + 1) ys) (first_step test (k + 1) (ys ++ x ∷ [])) (test x.step) ((k + 1) + length ys) (k + length (y ∷ ys)) (first_step-push test (k + 1) ys x) (omega arith)

first-push : (test : Step → Bool) (plan : List Planned) (x : Planned) (b : Bool) → test x.step ≡ b → first_step test 0 (plan ++ x ∷ []) ≡ or_last (first_step test 0 plan) b (length plan)
first-push test plan x b is = (let e : 0 + length plan ≡ length plan = omega arith in rw (first_step-push test 0 plan x, e, is) refl)

first-same : (test : Step → Bool) (plan : List Planned) (x : Planned) → test x.step ≡ false → first_step test 0 plan ≡ first_step test 0 (plan ++ x ∷ [])
first-same test plan x is = sym (first-push test plan x false is ∙ or_none (first_step test 0 plan) (length plan))

-- ---- the nodes that steps of a kind name, and the first step that names each

module _ (named : Step → List ℕ) (names : ℕ → Step → Bool) where
  -- the index is the plan's
  abbrev Holds : NodeIndex → List Planned → Type 0
  Holds a plan = HoldsNodes a (flat_map (λ x. named x.step) plan) (λ y. first_step (names y) 0 plan)

  -- the step names no node
  abbrev pub NamesNone : Step → Type 0
  NamesNone t = (named t ≡ []) × ((y : ℕ) → names y t ≡ false)

  holds-none : (a : NodeIndex) (plan : List Planned) (x : Planned) → NamesNone x.step → Holds a plan → Holds a (plan ++ x ∷ [])
  holds-none a plan x none h = rw (named-push named plan x, none.0, append-nil (flat_map (λ (z : Planned). named z.step) plan)) (record {
    nodes = h.nodes;
    firsts = λ y. h.firsts y ∙ first-same (names y) plan x (none.1 y);
    different = h.different;
  })

  holds-one : (a b : NodeIndex) (plan : List Planned) (x : Planned) (n number : ℕ) → length plan ≡ number
      → (named x.step ≡ n ∷ []) × ((y : ℕ) → names y x.step ≡ (y == n))
      → ((y : ℕ) → first_of b y ≡ or_last (first_of a y) (y == n) number) → b.different ≡ (a.different && not (holds a n)) → Holds a plan
      → Holds b (plan ++ x ∷ [])
  holds-one a b plan x n number is one more fresh h =
      let xs = flat_map (λ (z : Planned). named z.step) plan in
      rw (named-push named plan x, one.0) (record {
        nodes = λ y. ap (λ (o : Option ℕ). is_some o) (more y) ∙ some_or (first_of a y) (y == n) number ∙ ap (λ (t : Bool). (y == n) || t) (h.nodes y)
            ∙ sym (has_push xs n y);
        firsts = λ y. more y ∙ rw (h.firsts y, ← is) (sym (first-push (names y) plan x (y == n) (one.1 y)));
        different = fresh ∙ rw (h.different, h.nodes n, different_push xs n) refl;
      })

-- ---- which nodes a step names

-- the step is one of the slot's
abbrev pub OnSlot : Slot → Step → Type 0
OnSlot slot t = ((s : Slot) → is_on s t ≡ is_slot s slot) × NamesNone joins is_join_of t × NamesNone retires is_retire_of t

pub on_slot : (slot : Slot) (t : Step) → ((x : NodeId) × (t ≡ Mirror slot x)) ⊎ (((f : Source) × (t ≡ Copy slot f)) ⊎ ((t ≡ Switch slot) ⊎ ((x : NodeId) × (t ≡ Drop slot x)))) → OnSlot slot t
on_slot slot t (inl (x, e)) = subst (OnSlot slot) (sym e) (λ s. refl, (refl, λ y. refl), (refl, λ y. refl))
on_slot slot t (inr (inl (f, e))) = subst (OnSlot slot) (sym e) (λ s. refl, (refl, λ y. refl), (refl, λ y. refl))
on_slot slot t (inr (inr (inl e))) = subst (OnSlot slot) (sym e) (λ s. refl, (refl, λ y. refl), (refl, λ y. refl))
on_slot slot t (inr (inr (inr (x, e)))) = subst (OnSlot slot) (sym e) (λ s. refl, (refl, λ y. refl), (refl, λ y. refl))

-- ---- the index with one more step, which is the slot's, joins a node or retires one

pub HoldsSteps-slot : (a : Index) (b : SlotSteps) (plan : List Planned) (x : Planned) (slot : Slot) (number : ℕ) → length plan ≡ number → OnSlot slot x.step → ((s : Slot) → numbers_at b s ≡ cond (is_slot s slot) (numbers_at a.slots s ++ number ∷ []) (numbers_at a.slots s)) → HoldsSteps a plan → HoldsSteps (record { slots = b; joins = a.joins; retirements = a.retirements }) (plan ++ x ∷ [])
HoldsSteps-slot a b plan x slot number n on more h = record {
  slots = λ s. more s ∙ rw (h.slots s, ← on.0 s, ← n) (sym (steps_of-push plan x s));
  joins = holds-none joins is_join_of a.joins plan x on.1 h.joins;
  retirements = holds-none retires is_retire_of a.retirements plan x on.2 h.retirements;
}

-- a step without a slot
off_slot : (a : SlotSteps) (plan : List Planned) (x : Planned) (t : Step) → x.step ≡ t → ((s : Slot) → is_on s t ≡ false) → ((s : Slot) → numbers_at a s ≡ steps_of plan s) → (s : Slot) → numbers_at a s ≡ steps_of (plan ++ x ∷ []) s
off_slot a plan x t e off h s =
    h s ∙ sym (steps_of-push plan x s ∙ ap (λ (b : Bool). cond b (steps_of plan s ++ length plan ∷ []) (steps_of plan s)) (ap (is_on s) e ∙ off s))

pub HoldsSteps-join : (a : Index) (b : NodeIndex) (plan : List Planned) (x : Planned) (y : NodeId) (number : ℕ) → length plan ≡ number → x.step ≡ Join y
    → ((z : ℕ) → first_of b z ≡ or_last (first_of a.joins z) (z == y.0) number) → b.different ≡ (a.joins.different && not (holds a.joins y.0))
    → HoldsSteps a plan → HoldsSteps (record { slots = a.slots; joins = b; retirements = a.retirements }) (plan ++ x ∷ [])
HoldsSteps-join a b plan x y number n e more fresh h = record {
  slots = off_slot a.slots plan x (Join y) e (λ s. refl) h.slots;
  joins = holds-one joins is_join_of a.joins b plan x y.0 number n (rw e (refl, λ z. refl)) more fresh h.joins;
  retirements = holds-none retires is_retire_of a.retirements plan x (rw e (refl, λ z. refl)) h.retirements;
}

pub HoldsSteps-retire : (a : Index) (b : NodeIndex) (plan : List Planned) (x : Planned) (y : NodeId) (number : ℕ) → length plan ≡ number → x.step ≡ Retire y
    → ((z : ℕ) → first_of b z ≡ or_last (first_of a.retirements z) (z == y.0) number) → b.different ≡ (a.retirements.different && not (holds a.retirements y.0))
    → HoldsSteps a plan → HoldsSteps (record { slots = a.slots; joins = a.joins; retirements = b }) (plan ++ x ∷ [])
HoldsSteps-retire a b plan x y number n e more fresh h = record {
  slots = off_slot a.slots plan x (Retire y) e (λ s. refl) h.slots;
  joins = holds-none joins is_join_of a.joins plan x (rw e (refl, λ z. refl)) h.joins;
  retirements = holds-one retires is_retire_of a.retirements b plan x y.0 number n (rw e (refl, λ z. refl)) more fresh h.retirements;
}

-- what is found first is a step of the plan
one_within : (b : Bool) (k n j : ℕ) (o : Option ℕ) → k < n → (o ≡ Some j → j < n) → cond b (Some k) o ≡ Some j → j < n
one_within true k n j o l later e = (let s : k ≡ j = cc in omega arith)
one_within false k n j o l later e = later e

first_step-within : (test : Step → Bool) (k n : ℕ) (xs : List Planned) (j : ℕ) → n ≡ k + length xs → first_step test k xs ≡ Some j → j < n
first_step-within test k n [] j e h = absurd cc
first_step-within test k n (x ∷ xs) j e h =
    one_within (test x.step) k n j (first_step test (k + 1) xs) (omega arith) (first_step-within test (k + 1) n xs j (omega arith)) h

pub first-within : (test : Step → Bool) (plan : List Planned) (o : Option ℕ) → o ≡ first_step test 0 plan → IfSome o (λ j. j < length plan)
first-within test plan None e = tt
first-within test plan (Some j) e = first_step-within test 0 (length plan) plan j (omega arith) (sym e)
