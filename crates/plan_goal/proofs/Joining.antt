-- Steps that only join a change's nodes are a plan of the ring that makes the change, if no node leaves. The
-- plan needs no claims.
use Rattle.std.proofs.Common.{◌≡◌, ◌⊎◌, inl, inr, ℕ, zero, suc, ◌+◌, ◌<◌, ◌≤◌, true, false, not, List, [], ◌∷◌, length}
use Rattle.std.proofs.Common.{refl, sym, ap, subst, ◌∙◌, arith, Some, None}
use Rattle.std.specs.Prelude.{slice_get, nat_lt}
use Rattle.std.specs.List.{list_all}
use Rattle.std.proofs.lemmas.Bool.{and_parts, cases_order, and_from}
use Rattle.std.proofs.lemmas.List.{length-map}
use Rattle.std.proofs.lemmas.List.Concat.{flat_map-cons}
use Rattle.ring_names.specs.Lists.{has, all_different}
use Rattle.ring_names.specs.declared.ids.NodeId.{NodeId}
use Rattle.ring_names.specs.declared.ids.Slot.{Slot}
use Rattle.ring_table.specs.declared.allowance.Side.{Side}
use Rattle.ring_table.specs.declared.allowance.Side.TheVariants.{Both, Take, Give}
use Rattle.ring_table.specs.Value.{RingValue, is_member}
use Rattle.ring_table.specs.Valid.{IsRing}
use Rattle.plan_text.specs.declared.step.Step.{Step}
use Rattle.plan_text.specs.declared.step.Step.TheVariants.{Join, Mirror, Copy, Retire}
use Rattle.plan_text.specs.declared.step.Source.TheVariants.{Slots}
use Rattle.plan_text.specs.declared.step.Planned.{Planned}
use Rattle.plan_text.specs.Changes.{numbers, same_nodes, fulfils}
use Rattle.plan_text.specs.Steps.{dependencies, joins, retires, joined, retired, steps_from, steps_of}
use Rattle.plan_text.specs.Valid.{step_suits, Suits as PlanSuits}
use Rattle.plan_cert.specs.declared.cert.Cert.{Cert}
use Rattle.change_text.specs.declared.change.Change.{Change}
use Rattle.change_text.specs.Valid.{IsChange, is_declared, may_join}
use Rattle.plan_stage.specs.Each.{step_at}
use Rattle.plan_stage.specs.Stage.{is_among}
use Rattle.plan_stage.specs.Parties.{on_side, target_of, sources_of}
use Rattle.plan_stage.proofs.Truth.{list_all-all}
use Rattle.plan_check.specs.Certified.{IsCertified, ordered_by}
use Rattle.plan_check.specs.Sound.{Order, Meets, is_party_of}
use Rattle.plan_check.proofs.Quorums.{meet}
use Rattle.plan_goal.specs.Joins.{join_alone, joins_alone, no_claims}
use Rattle.plan_goal.specs.Proposals.{Makes}

-- ---- the steps

-- each of them joins a node
step-joins : (nodes : List NodeId) (n : ℕ) (s : Step) → step_at (joins_alone nodes) n ≡ Some s → (x : NodeId) × (s ≡ Join x)
step-joins [] n s at = absurd cc
step-joins (x ∷ xs) zero s at = (let e : Join x ≡ s = cc in (x, sym e))
step-joins (x ∷ xs) (suc n) s at = step-joins xs n s at

-- no slot has one
slot-none : (k : ℕ) (nodes : List NodeId) (slot : Slot) → steps_from k (joins_alone nodes) slot ≡ []
slot-none k [] slot = refl
slot-none k (x ∷ xs) slot = slot-none (k + 1) xs slot

-- none waits for another
pub dependencies-none : (nodes : List NodeId) → dependencies (joins_alone nodes) ≡ 0
dependencies-none [] = refl
dependencies-none (x ∷ xs) = (let rest = dependencies-none xs in omega arith)

joined-all : (nodes : List NodeId) → joined (joins_alone nodes) ≡ numbers nodes
joined-all [] = refl
joined-all (x ∷ xs) = flat_map-cons (λ (y : Planned). joins y.step) (join_alone x) (joins_alone xs) ∙ ap (λ (ys : List ℕ). x.0 ∷ ys) (joined-all xs)

retired-none : (nodes : List NodeId) → retired (joins_alone nodes) ≡ []
retired-none [] = refl
retired-none (x ∷ xs) = flat_map-cons (λ (y : Planned). retires y.step) (join_alone x) (joins_alone xs) ∙ retired-none xs

-- no node takes part in any
side-nobody : (side : Side) → on_side side None [] ≡ []
side-nobody Both = refl
side-nobody Take = refl
side-nobody Give = refl

-- who takes part in the m-th of the steps, as step n of a plan
abbrev parties_at : RingValue → List Planned → Side → ℕ → List NodeId → ℕ → List NodeId
parties_at ring plan side n nodes m = elim (slice_get (joins_alone nodes) m) [
  | Some step ↦ on_side side (target_of ring plan n step.step) (sources_of ring plan n step.step)
  | None ↦ []
]

parties-none : (ring : RingValue) (plan : List Planned) (side : Side) (n : ℕ) (nodes : List NodeId) (m : ℕ) → parties_at ring plan side n nodes m ≡ []
parties-none ring plan side n [] m = refl
parties-none ring plan side n (x ∷ xs) zero = side-nobody side
parties-none ring plan side n (x ∷ xs) (suc m) = parties-none ring plan side n xs m

party-none : (ring : RingValue) (nodes : List NodeId) (x : ℕ) (side : Side) (n : ℕ) → is_party_of ring (joins_alone nodes) x side n ≡ false
party-none ring nodes x side n = ap (is_among (record { 0 = x })) (parties-none ring (joins_alone nodes) side n nodes n)

-- ---- the plan suits the ring and makes the change

each-suits : (ring : RingValue) (nodes : List NodeId) → list_all (may_join ring) nodes ≡ true
    → list_all (λ (x : Planned). step_suits ring x.step) (joins_alone nodes) ≡ true
each-suits ring [] h = refl
each-suits ring (x ∷ xs) h =
    let b = and_parts (may_join ring x) (list_all (may_join ring) xs) h in
    and_from (may_join ring x) (list_all (λ (y : Planned). step_suits ring y.step) (joins_alone xs)) b.0 (each-suits ring xs b.1)

joins-suit : (ring : RingValue) (change : Change) → IsChange ring change → PlanSuits ring (joins_alone change.joins)
joins-suit ring change is = record {
  steps = each-suits ring change.joins is.joins;
  joins = ap all_different (joined-all change.joins) ∙ is.joins_differ;
  retirements = ap all_different (retired-none change.joins);
}

same-all : (xs : List ℕ) → same_nodes xs xs ≡ true
same-all xs =
    let h = list_all-all (λ x. has x xs) xs (λ x is. is) in
    and_from (list_all (λ x. has x xs) xs) (list_all (λ x. has x xs) xs) h h

joins-fulfil : (nodes leaves : List NodeId) → leaves ≡ [] → fulfils (joins_alone nodes) nodes leaves ≡ true
joins-fulfil nodes leaves e = rw (e, joined-all nodes, retired-none nodes)
    (and_from (same_nodes (numbers nodes) (numbers nodes)) true (same-all (numbers nodes)) refl)

pub joins-make : (ring : RingValue) (change : Change) → IsChange ring change → change.leaves ≡ []
    → Makes ring change (joins_alone change.joins) no_claims
joins-make ring change is e = record {
  plan_suits = joins-suit ring change is;
  cert_suits = record { few_facts = omega arith; facts = refl; few_chains = omega arith; chains = refl };
  fulfils = joins-fulfil change.joins change.leaves e;
}

-- ---- there are few

declared-below : (ring : RingValue) (nodes : List NodeId) → list_all (may_join ring) nodes ≡ true
    → list_all (λ x. nat_lt x (length ring.nodes)) (numbers nodes) ≡ true
declared-below ring [] h = refl
declared-below ring (x ∷ xs) h =
    let b = and_parts (may_join ring x) (list_all (may_join ring) xs) h in
    let d = and_parts (is_declared ring x) (not (is_member ring.nodes x)) b.0 in
    and_from (is_declared ring x) (list_all (λ y. nat_lt y (length ring.nodes)) (numbers xs)) d.0 (declared-below ring xs b.1)

-- different nodes are no more than the ring declares
pub joins-few : (ring : RingValue) (change : Change) → IsRing ring → IsChange ring change → length change.joins ≤ 131072
joins-few ring change ring_is is = by (cases_order (length change.joins) (length ring.nodes))
  where
    same : length (numbers change.joins) ≡ length change.joins
    same = simp length-map

    by : (length change.joins ≡ length ring.nodes) ⊎ ((length change.joins < length ring.nodes) ⊎ (length ring.nodes < length change.joins))
        → length change.joins ≤ 131072
    by (inl as_many) = omega (arith, ring_is.nodes)
    by (inr (inl fewer)) = omega (arith, ring_is.nodes)
    by (inr (inr many)) =
        let below = declared-below ring change.joins is.joins in
        let shared = meet (length ring.nodes) (numbers change.joins) [] is.joins_differ refl below refl (omega (arith, same)) in
        absurd (let h : false ≡ true = shared.2 in cc)

-- ---- the plan is certified

module _ (ring : RingValue) (nodes : List NodeId) where
  abbrev O : Order
  O a b = ordered_by (joins_alone nodes) no_claims a b ≡ true

  -- there are no steps but joins
  other : (A : Type 0) (n : ℕ) (s : Step) → step_at (joins_alone nodes) n ≡ Some s → ((x : NodeId) → s ≡ Join x → ⊥) → A
  other A n s at apart = (let j = step-joins nodes n s at in absurd (apart j.0 j.1))

  -- and no slot has any
  no-step : (A : Type 0) (slot : Slot) (k : ℕ) → k < length (steps_of (joins_alone nodes) slot) → A
  no-step A slot k l = absurd (omega (arith, ap length (slot-none 0 nodes slot)))

  no-mirror : (A : Type 0) (t : ℕ) (slot : Slot) (x : NodeId) → step_at (joins_alone nodes) t ≡ Some (Mirror slot x) → A
  no-mirror A t slot x at = other A t (Mirror slot x) at (λ y e. cc)

  no-retire : (A : Type 0) (t : ℕ) (x : NodeId) → step_at (joins_alone nodes) t ≡ Some (Retire x) → A
  no-retire A t x at = other A t (Retire x) at (λ y e. cc)

  no-party : (A : Type 0) (x : ℕ) (side : Side) (n : ℕ) → is_party_of ring (joins_alone nodes) x side n ≡ true → A
  no-party A x side n h = absurd (let e = party-none ring nodes x side n in let f : false ≡ true = sym e ∙ h in cc)

  joins-meet : PlanSuits ring (joins_alone nodes) → Meets ring (joins_alone nodes) O (λ x side. [])
  joins-meet suits = record {
    in_turn = record {
      suits = suits;
      staged = λ slot k l. no-step _ slot k l;
      in_order = λ slot k l. no-step _ slot (suc k) l;
    };
    sources = λ n slot from at. other _ n (Copy slot (Slots from)) at (λ y e. cc);
    settled = λ n m j slot from at has_it s. other _ n (Copy slot (Slots from)) at (λ y e. cc);
    left = record {
      first = λ t j slot x at apart o. no-mirror _ t slot x at;
      later = λ t b j slot x at apart l s. no-mirror _ t slot x at;
    };
    members = record {
      joined = λ t slot x at. no-mirror _ t slot x at;
      dropped_first = λ t slot x at o. no-retire _ t x at;
      dropped_later = λ t b slot x at s. no-retire _ t x at;
    };
    retired = λ t x at. no-retire _ t x at;
    covers = λ x side a e. record { few = omega arith; linked = tt; covered = λ n h. no-party _ x side n h };
  }

pub joins-certified : (ring : RingValue) (change : Change) → IsChange ring change → IsCertified ring (joins_alone change.joins) no_claims
joins-certified ring change is = record {
  facts = refl;
  meets = joins-meet ring change.joins (joins-suit ring change is);
  entries = λ x side a e n h. absurd cc;
  sides = λ x side l e. refl;
}

-- such a plan with such a certificate passes every test
pub joins-pass : (ring : RingValue) (change : Change) (plan : List Planned) (cert : Cert) → IsChange ring change → change.leaves ≡ []
    → plan ≡ joins_alone change.joins → cert ≡ no_claims → Makes ring change plan cert × IsCertified ring plan cert
joins-pass ring change plan cert is e p q =
    let G : List Planned → Cert → Type 0 = λ x y. Makes ring change x y × IsCertified ring x y in
    subst (λ x. G x cert) (sym p) (subst (λ y. G (joins_alone change.joins) y) (sym q) (joins-make ring change is e, joins-certified ring change is))
