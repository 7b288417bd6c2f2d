-- What the checker's clauses say, one by one, and what they follow from.
use Rattle.std.proofs.Common.{◌≡◌, ◌≢◌, ◌⊎◌, inl, inr, ℕ, suc, zero, ◌+◌, ◌-◌, ◌<◌, ◌≤◌, Bool, true, false, not, cond, List, [], ◌∷◌, refl, subst, arith, Option, Some, None}
use Rattle.std.specs.Prelude.{◌&&◌, ◌||◌, ◌==◌, min, nat_lt, nat_le, slice_get, is_some}
use Rattle.std.specs.List.{list_all}
use Rattle.std.proofs.lemmas.Bool.{eqb-true, ltb-true, lt-ltb, leb-true, le-leb, and_parts, or_right, and_from as all_of, or_cases as either, or_left}
use Rattle.std.proofs.lemmas.Bool.Decides.{eqb_tells}
use Rattle.ring_names.specs.Lists.{has}
use Rattle.ring_names.specs.declared.ids.NodeId.{NodeId}
use Rattle.ring_names.specs.declared.ids.Slot.{Slot}
use Rattle.ring_names.specs.declared.refusal.Refusal.TheVariants.{ChainBroken}
use Rattle.ring_table.specs.declared.allowance.Side.{Side}
use Rattle.ring_table.specs.declared.allowance.Side.TheVariants.{Both, Take, Give}
use Rattle.ring_table.specs.Value.{RingValue, is_side, is_member, allowance_of, owner_of}
use Rattle.plan_text.specs.declared.step.Step.{Step}
use Rattle.plan_text.specs.declared.step.Step.TheVariants.{Join, Mirror, Copy, Switch, Drop, Retire}
use Rattle.plan_text.specs.declared.step.Planned.{Planned}
use Rattle.plan_text.specs.Steps.{is_slot, is_join_of, is_retire_of}
use Rattle.plan_order.specs.Paths.{is_path}
use Rattle.plan_cert.specs.declared.cert.Chain.{Chain}
use Rattle.plan_stage.specs.Stage.{is_among}
use Rattle.plan_stage.specs.Clauses.{first_failing}
use Rattle.plan_stage.specs.Occupancy.{is_node, first_end, mirror_end, first_drop, mirror_drop}
use Rattle.plan_stage.specs.Parties.{target_of, sources_of, on_side, parties_on}
use Rattle.plan_stage.proofs.Below.{met}
use Rattle.plan_stage.specs.Each.{some_step, step_at, place_in, sibling, each_step, is_switch_of, is_mirror_of, owns_first}
use Rattle.plan_cover.specs.Clauses.{in_some, chains_from, has_side, is_good_chain, chains_clauses, is_few}
use Rattle.plan_check.specs.Sound.{Order, EndsBefore, IsChain, AreChains}
use Rattle.plan_check.specs.First.{fact_clauses}
use Rattle.plan_stage.specs.Partition.{Test, ends_before, is_settled, has_left, has_joined, has_dropped}
use Rattle.plan_stage.proofs.Truth.{where_asked, if_asked, push, each-met, each-all, some-met, some-all, each_below-met, each_below-all, list_all-met, list_all-all, same, slot-is, slot-same, node-is, node-same}
use Rattle.plan_stage.proofs.Enough.{owner-is}

-- the order of which a test tells
abbrev pub holds : Test → Order
holds O = λ a b. O a b ≡ true

-- ---- facts

pub facts-met : (plan : List Planned) (n : ℕ) (fs : List (List ℕ)) → first_failing (fact_clauses plan n fs) ≡ None → list_all (is_path plan) fs ≡ true
facts-met plan n [] h = refl
facts-met plan n (f ∷ fs) h =
    let m = met (is_path plan f) _ (first_failing (fact_clauses plan (n + 1) fs)) h in
    all_of (is_path plan f) (list_all (is_path plan) fs) m.0 (facts-met plan (n + 1) fs m.1)

pub facts-all : (plan : List Planned) (n : ℕ) (fs : List (List ℕ)) → list_all (is_path plan) fs ≡ true → first_failing (fact_clauses plan n fs) ≡ None
facts-all plan n [] h = refl
facts-all plan n (f ∷ fs) h =
    let b = and_parts (is_path plan f) (list_all (is_path plan) fs) h in
    push (is_path plan f) _ (first_failing (fact_clauses plan (n + 1) fs)) b.0 (facts-all plan (n + 1) fs b.1)

-- ---- the order of a slot's steps

pub order-met : (f : ℕ → ℕ) (O : Test) (k : ℕ) → ((suc k == 0) || O (f (suc k - 1)) (f (suc k))) ≡ true → O (f k) (f (suc k)) ≡ true
order-met f O k h =
    let s : suc k - 1 ≡ k = omega arith in
    elim (either (suc k == 0) (O (f (suc k - 1)) (f (suc k))) h) [
      | inl z ↦ (let e : suc k ≡ 0 = eqb-true (suc k) 0 z in absurd (omega arith))
      | inr o ↦ rw s at o
    ]

pub order-all : (f : ℕ → ℕ) (O : Test) (k : ℕ) → ((j : ℕ) → suc j ≡ k → O (f j) (f k) ≡ true) → ((k == 0) || O (f (k - 1)) (f k)) ≡ true
order-all f O zero h = or_left (0 == 0) (O (f (0 - 1)) (f 0)) (same 0)
order-all f O (suc k) h =
    let s : suc k - 1 ≡ k = omega arith in
    or_right (suc k == 0) (O (f (suc k - 1)) (f (suc k))) (rw s (h k refl))

-- ---- steps of a kind

pub mirror-is : (s : Slot) (x : NodeId) (t : Step) → is_mirror_of s x t ≡ true → t ≡ Mirror s x
mirror-is s x (Join y) h = absurd cc
mirror-is s x (Mirror t y) h =
    let b = and_parts (is_slot s t) (is_node x y) h in
    let p : s ≡ t = slot-is s t b.0 in
    let e : x ≡ y = node-is x y b.1 in
    cc
mirror-is s x (Copy t from) h = absurd cc
mirror-is s x (Switch t) h = absurd cc
mirror-is s x (Drop t y) h = absurd cc
mirror-is s x (Retire y) h = absurd cc

pub mirror-same : (s : Slot) (x : NodeId) → is_mirror_of s x (Mirror s x) ≡ true
mirror-same s x = all_of (is_slot s s) (is_node x x) (slot-same s) (node-same x)

pub switch-is : (s : Slot) (t : Step) → is_switch_of s t ≡ true → t ≡ Switch s
switch-is s (Join y) h = absurd cc
switch-is s (Mirror t y) h = absurd cc
switch-is s (Copy t from) h = absurd cc
switch-is s (Switch t) h = (let p : s ≡ t = slot-is s t h in cc)
switch-is s (Drop t y) h = absurd cc
switch-is s (Retire y) h = absurd cc

pub join-is : (x : NodeId) (t : Step) → is_join_of x.0 t ≡ true → t ≡ Join x
join-is x (Join y) h = (let e : x ≡ y = node-is x y h in cc)
join-is x (Mirror t y) h = absurd cc
join-is x (Copy t from) h = absurd cc
join-is x (Switch t) h = absurd cc
join-is x (Drop t y) h = absurd cc
join-is x (Retire y) h = absurd cc

pub retire-is : (x : NodeId) (t : Step) → is_retire_of x.0 t ≡ true → t ≡ Retire x
retire-is x (Join y) h = absurd cc
retire-is x (Mirror t y) h = absurd cc
retire-is x (Copy t from) h = absurd cc
retire-is x (Switch t) h = absurd cc
retire-is x (Drop t y) h = absurd cc
retire-is x (Retire y) h = (let e : x ≡ y = node-is x y h in cc)

-- ---- owners and ends

pub owns-met : (ring : RingValue) (s : Slot) (x : NodeId) → owns_first ring s x ≡ true → owner_of ring s ≡ Some x
owns-met ring s x h = owner-is (owner_of ring s) x h

owner-same : (o : Option NodeId) (x : NodeId) → o ≡ Some x → (elim o [ Some y ↦ is_node x y | None ↦ false ]) ≡ true
owner-same None x h = absurd cc
owner-same (Some y) x h = (let e : y ≡ x = cc in rw e (node-same x))

pub owns-all : (ring : RingValue) (s : Slot) (x : NodeId) → owner_of ring s ≡ Some x → owns_first ring s x ≡ true
owns-all ring s x h = owner-same (owner_of ring s) x h

pub ends-met : (O : Test) (o : Option ℕ) (t : ℕ) → ends_before O o t ≡ true → EndsBefore (holds O) o t
ends-met O None t h = absurd cc
ends-met O (Some e) t h = h

pub ends-all : (O : Test) (o : Option ℕ) (t : ℕ) → EndsBefore (holds O) o t → ends_before O o t ≡ true
ends-all O None t h = absurd h
ends-all O (Some e) t h = h

-- ---- what a copy reads

abbrev switch_settled : Test → ℕ → Slot → ℕ → Step → Bool
switch_settled O n s m u = not (is_switch_of s u) || (O m n || O n m)

pub settled-met : (plan : List Planned) (O : Test) (n : ℕ) (slot : Slot) (from : List ℕ) → is_settled plan O n slot from ≡ true → (m j : ℕ) → has j from ≡ true → step_at plan m ≡ Some (Switch (sibling slot j)) → (O m n ≡ true) ⊎ (O n m ≡ true)
settled-met plan O n slot from h m j is at =
    let e = list_all-met (λ (j : ℕ). each_step (switch_settled O n (sibling slot j)) 0 plan) from h j is in
    let g = each-met (switch_settled O n (sibling slot j)) plan e m (Switch (sibling slot j)) at in
    either (O m n) (O n m) (where_asked (is_slot (sibling slot j) (sibling slot j)) (O m n || O n m) g (slot-same (sibling slot j)))

pub settled-all : (plan : List Planned) (O : Test) (n : ℕ) (slot : Slot) (from : List ℕ) → ((m j : ℕ) → has j from ≡ true → step_at plan m ≡ Some (Switch (sibling slot j)) → (O m n ≡ true) ⊎ (O n m ≡ true)) → is_settled plan O n slot from ≡ true
settled-all plan O n slot from all =
    list_all-all (λ (j : ℕ). each_step (switch_settled O n (sibling slot j)) 0 plan) from (λ j is.
    each-all (switch_settled O n (sibling slot j)) plan (λ m u at.
    if_asked (is_switch_of (sibling slot j) u) (O m n || O n m) (λ is_switch.
    let e : u ≡ Switch (sibling slot j) = switch-is (sibling slot j) u is_switch in
    elim (all m j is (rw e at at)) [ inl a ↦ or_left (O m n) (O n m) a | inr b ↦ or_right (O m n) (O n m) b ])))

-- ---- what a node has left

abbrev first_left : RingValue → List Planned → Test → ℕ → Slot → Bool
first_left ring plan O t s = ends_before O (first_end ring plan s) t

abbrev later_left : RingValue → List Planned → Test → ℕ → Slot → NodeId → ℕ → Bool
later_left ring plan O t s x b = ends_before O (mirror_end ring plan s (place_in plan s b) x) t

abbrev step_left : RingValue → List Planned → Test → ℕ → Slot → NodeId → ℕ → Step → Bool
step_left ring plan O t s x b u = not (nat_lt b t && is_mirror_of s x u) || later_left ring plan O t s x b

abbrev pub left_at : RingValue → List Planned → Test → ℕ → Slot → NodeId → Bool
left_at ring plan O t s x = (not (owns_first ring s x) || first_left ring plan O t s) && each_step (step_left ring plan O t s x) 0 plan

left-met : (ring : RingValue) (plan : List Planned) (O : Test) (t : ℕ) (slot : Slot) (x : NodeId) → has_left ring plan O t slot x ≡ true → (j : ℕ) → j < ring.n → j ≢ slot.index → left_at ring plan O t (sibling slot j) x ≡ true
left-met ring plan O t slot x h j l ne =
    let e = each_below-met (λ (j : ℕ). (j == slot.index) || left_at ring plan O t (sibling slot j) x) ring.n h j l in
    elim (either (j == slot.index) (left_at ring plan O t (sibling slot j) x) e) [ inl z ↦ absurd (ne (eqb-true j slot.index z)) | inr r ↦ r ]

pub left_first-met : (ring : RingValue) (plan : List Planned) (O : Test) (t : ℕ) (slot : Slot) (x : NodeId) → has_left ring plan O t slot x ≡ true → (j : ℕ) → j < ring.n → j ≢ slot.index → owner_of ring (sibling slot j) ≡ Some x → EndsBefore (holds O) (first_end ring plan (sibling slot j)) t
left_first-met ring plan O t slot x h j l ne owns =
    let s : Slot = sibling slot j in
    let b = and_parts (not (owns_first ring s x) || first_left ring plan O t s) (each_step (step_left ring plan O t s x) 0 plan) (left-met ring plan O t slot x h j l ne) in
    ends-met O (first_end ring plan s) t (where_asked (owns_first ring s x) (first_left ring plan O t s) b.0 (owns-all ring s x owns))

pub left_later-met : (ring : RingValue) (plan : List Planned) (O : Test) (t : ℕ) (slot : Slot) (x : NodeId) → has_left ring plan O t slot x ≡ true → (j : ℕ) → j < ring.n → j ≢ slot.index → (b : ℕ) → b < t → step_at plan b ≡ Some (Mirror (sibling slot j) x) → EndsBefore (holds O) (mirror_end ring plan (sibling slot j) (place_in plan (sibling slot j) b) x) t
left_later-met ring plan O t slot x h j l ne b lt at =
    let s : Slot = sibling slot j in
    let c = and_parts (not (owns_first ring s x) || first_left ring plan O t s) (each_step (step_left ring plan O t s x) 0 plan) (left-met ring plan O t slot x h j l ne) in
    let e = each-met (step_left ring plan O t s x) plan c.1 b (Mirror s x) at in
    let asked = all_of (nat_lt b t) (is_mirror_of s x (Mirror s x)) (lt-ltb b t lt) (mirror-same s x) in
    ends-met O (mirror_end ring plan s (place_in plan s b) x) t (where_asked (nat_lt b t && is_mirror_of s x (Mirror s x)) (later_left ring plan O t s x b) e asked)

-- at one slot
left_at-all : (ring : RingValue) (plan : List Planned) (O : Test) (t : ℕ) (s : Slot) (x : NodeId) → (owner_of ring s ≡ Some x → EndsBefore (holds O) (first_end ring plan s) t) → ((b : ℕ) → b < t → step_at plan b ≡ Some (Mirror s x) → EndsBefore (holds O) (mirror_end ring plan s (place_in plan s b) x) t) → left_at ring plan O t s x ≡ true
left_at-all ring plan O t s x start more =
    all_of (not (owns_first ring s x) || first_left ring plan O t s) (each_step (step_left ring plan O t s x) 0 plan)
    (if_asked (owns_first ring s x) (first_left ring plan O t s) (λ owns. ends-all O (first_end ring plan s) t (start (owns-met ring s x owns))))
    (each-all (step_left ring plan O t s x) plan (λ b u at.
    if_asked (nat_lt b t && is_mirror_of s x u) (later_left ring plan O t s x b) (λ asked.
    let c = and_parts (nat_lt b t) (is_mirror_of s x u) asked in
    let e : u ≡ Mirror s x = mirror-is s x u c.1 in
    ends-all O (mirror_end ring plan s (place_in plan s b) x) t (more b (ltb-true b t c.0) (rw e at at)))))

pub left-all : (ring : RingValue) (plan : List Planned) (O : Test) (t : ℕ) (slot : Slot) (x : NodeId)
    → ((j : ℕ) → j < ring.n → j ≢ slot.index → owner_of ring (sibling slot j) ≡ Some x → EndsBefore (holds O) (first_end ring plan (sibling slot j)) t)
    → ((j : ℕ) → j < ring.n → j ≢ slot.index → (b : ℕ) → b < t → step_at plan b ≡ Some (Mirror (sibling slot j) x) → EndsBefore (holds O) (mirror_end ring plan (sibling slot j) (place_in plan (sibling slot j) b) x) t)
    → has_left ring plan O t slot x ≡ true
left-all ring plan O t slot x start more =
    each_below-all (λ (j : ℕ). (j == slot.index) || left_at ring plan O t (sibling slot j) x) ring.n (λ j l.
    elim (eqb_tells j slot.index) [
      | inl z ↦ or_left (j == slot.index) (left_at ring plan O t (sibling slot j) x) z.0
      | inr ne ↦ or_right (j == slot.index) (left_at ring plan O t (sibling slot j) x) (left_at-all ring plan O t (sibling slot j) x (start j l ne.1) (more j l ne.1))
    ])

-- ---- what a node has joined

abbrev joins_before : Test → ℕ → NodeId → ℕ → Step → Bool
joins_before O t x j s = is_join_of x.0 s && O j t

pub joined-met : (ring : RingValue) (plan : List Planned) (O : Test) (t : ℕ) (x : NodeId) → has_joined ring plan O t x ≡ true → is_member ring.nodes x ≡ false → (j : ℕ) × (step_at plan j ≡ Some (Join x)) × (O j t ≡ true)
joined-met ring plan O t x h out = elim (either (is_member ring.nodes x) (some_step (joins_before O t x) 0 plan) h) [
  | inl member ↦ absurd cc
  | inr some ↦ (
      let r = some-met (joins_before O t x) plan some in
      let b = and_parts (is_join_of x.0 r.1) (O r.0 t) r.3 in
      let e : r.1 ≡ Join x = join-is x r.1 b.0 in
      (r.0, rw e at r.2, b.1))
]

pub joined-all : (ring : RingValue) (plan : List Planned) (O : Test) (t : ℕ) (x : NodeId) → (is_member ring.nodes x ≡ false → (j : ℕ) × (step_at plan j ≡ Some (Join x)) × (O j t ≡ true)) → has_joined ring plan O t x ≡ true
joined-all ring plan O t x h = by (is_member ring.nodes x) refl
  where
    by : (b : Bool) → is_member ring.nodes x ≡ b → (b || some_step (joins_before O t x) 0 plan) ≡ true
    by true member = refl
    by false out =
        let r = h out in
        some-all (joins_before O t x) plan r.0 (Join x) r.1 (all_of (x.0 == x.0) (O r.0 t) (same x.0) r.2)

-- ---- what a node has dropped

abbrev first_dropped : RingValue → List Planned → Test → ℕ → Slot → Bool
first_dropped ring plan O t s = ends_before O (first_drop ring plan s) t

abbrev later_dropped : List Planned → Test → ℕ → Slot → NodeId → ℕ → Bool
later_dropped plan O t s x b = ends_before O (mirror_drop plan s (place_in plan s b) x) t

abbrev step_dropped : List Planned → Test → ℕ → Slot → NodeId → ℕ → Step → Bool
step_dropped plan O t s x b u = not (is_mirror_of s x u) || later_dropped plan O t s x b

abbrev dropped_at : RingValue → List Planned → Test → ℕ → Slot → NodeId → Bool
dropped_at ring plan O t s x = (not (owns_first ring s x) || first_dropped ring plan O t s) && each_step (step_dropped plan O t s x) 0 plan

dropped-met : (ring : RingValue) (plan : List Planned) (O : Test) (t : ℕ) (s : Slot) (x : NodeId) → has_dropped ring plan O s.partition t x ≡ true → s.index < ring.n → ((not (owns_first ring s x) || first_dropped ring plan O t s) ≡ true) × (each_step (step_dropped plan O t s x) 0 plan ≡ true)
dropped-met ring plan O t s x h l =
    and_parts (not (owns_first ring s x) || first_dropped ring plan O t s) (each_step (step_dropped plan O t s x) 0 plan)
    (each_below-met (λ (j : ℕ). dropped_at ring plan O t (record { partition = s.partition; index = j }) x) ring.n h s.index l)

pub dropped_first-met : (ring : RingValue) (plan : List Planned) (O : Test) (t : ℕ) (s : Slot) (x : NodeId) → has_dropped ring plan O s.partition t x ≡ true → s.index < ring.n → owner_of ring s ≡ Some x → EndsBefore (holds O) (first_drop ring plan s) t
dropped_first-met ring plan O t s x h l owns =
    ends-met O (first_drop ring plan s) t (where_asked (owns_first ring s x) (first_dropped ring plan O t s) (dropped-met ring plan O t s x h l).0 (owns-all ring s x owns))

pub dropped_later-met : (ring : RingValue) (plan : List Planned) (O : Test) (t : ℕ) (s : Slot) (x : NodeId) → has_dropped ring plan O s.partition t x ≡ true → s.index < ring.n → (b : ℕ) → step_at plan b ≡ Some (Mirror s x) → EndsBefore (holds O) (mirror_drop plan s (place_in plan s b) x) t
dropped_later-met ring plan O t s x h l b at =
    let e = each-met (step_dropped plan O t s x) plan (dropped-met ring plan O t s x h l).1 b (Mirror s x) at in
    ends-met O (mirror_drop plan s (place_in plan s b) x) t (where_asked (is_mirror_of s x (Mirror s x)) (later_dropped plan O t s x b) e (mirror-same s x))

dropped_at-all : (ring : RingValue) (plan : List Planned) (O : Test) (t : ℕ) (s : Slot) (x : NodeId) → (owner_of ring s ≡ Some x → EndsBefore (holds O) (first_drop ring plan s) t) → ((b : ℕ) → step_at plan b ≡ Some (Mirror s x) → EndsBefore (holds O) (mirror_drop plan s (place_in plan s b) x) t) → dropped_at ring plan O t s x ≡ true
dropped_at-all ring plan O t s x start more =
    all_of (not (owns_first ring s x) || first_dropped ring plan O t s) (each_step (step_dropped plan O t s x) 0 plan)
    (if_asked (owns_first ring s x) (first_dropped ring plan O t s) (λ owns. ends-all O (first_drop ring plan s) t (start (owns-met ring s x owns))))
    (each-all (step_dropped plan O t s x) plan (λ b u at.
    if_asked (is_mirror_of s x u) (later_dropped plan O t s x b) (λ asked.
    let e : u ≡ Mirror s x = mirror-is s x u asked in
    ends-all O (mirror_drop plan s (place_in plan s b) x) t (more b (rw e at at)))))

pub dropped-all : (ring : RingValue) (plan : List Planned) (O : Test) (p t : ℕ) (x : NodeId)
    → ((s : Slot) → owner_of ring s ≡ Some x → EndsBefore (holds O) (first_drop ring plan s) t)
    → ((b : ℕ) (s : Slot) → step_at plan b ≡ Some (Mirror s x) → EndsBefore (holds O) (mirror_drop plan s (place_in plan s b) x) t)
    → has_dropped ring plan O p t x ≡ true
dropped-all ring plan O p t x start more =
    each_below-all (λ (j : ℕ). dropped_at ring plan O t (record { partition = p; index = j }) x) ring.n (λ j l.
    let s : Slot = record { partition = p; index = j } in
    dropped_at-all ring plan O t s x (start s) (λ b at. more b s at))

-- ---- chains

-- its entries are in order, and copies of that side of the node
abbrev pub IsGood : RingValue → List Planned → Test → NodeId → Side → List ℕ → Type 0
IsGood ring plan O x side c = IsChain (holds O) c × ((n : ℕ) → has n c ≡ true → is_among x (parties_on ring plan side n) ≡ true)

abbrev pub AreGood : RingValue → List Planned → Test → NodeId → Side → List (List ℕ) → Type 0
AreGood ring plan O x side cs = AreChains (holds O) cs × ((n : ℕ) → in_some n cs ≡ true → is_among x (parties_on ring plan side n) ≡ true)

-- there are some only if the node has the side
abbrev pub IsAllowed : RingValue → NodeId → Side → List (List ℕ) → Type 0
IsAllowed ring x side cs = allowance_of ring x.0 side ≡ None → cs ≡ []

good-met : (ring : RingValue) (plan : List Planned) (O : Test) (x : NodeId) (side : Side) (c : List ℕ) → is_good_chain ring plan O x side c ≡ true → IsGood ring plan O x side c
good-met ring plan O x side [] h = (tt, λ n is. absurd cc)
good-met ring plan O x side (a ∷ []) h = (
  tt,
  λ n is. elim (either (n == a) false is) [
    | inl here ↦ (let e : n ≡ a = eqb-true n a here in rw e h)
    | inr there ↦ absurd cc
  ],
)
good-met ring plan O x side (a ∷ b ∷ rest) h =
    let q = and_parts (is_among x (parties_on ring plan side a) && O a b) (is_good_chain ring plan O x side (b ∷ rest)) h in
    let p = and_parts (is_among x (parties_on ring plan side a)) (O a b) q.0 in
    let g = good-met ring plan O x side (b ∷ rest) q.1 in (
      (p.1, g.0),
      λ n is. elim (either (n == a) (has n (b ∷ rest)) is) [
        | inl here ↦ (let e : n ≡ a = eqb-true n a here in rw e p.0)
        | inr there ↦ g.1 n there
      ],
    )

good-all : (ring : RingValue) (plan : List Planned) (O : Test) (x : NodeId) (side : Side) (c : List ℕ) → IsGood ring plan O x side c → is_good_chain ring plan O x side c ≡ true
good-all ring plan O x side [] g = refl
good-all ring plan O x side (a ∷ []) g = g.1 a (or_left (a == a) false (same a))
good-all ring plan O x side (a ∷ b ∷ rest) g =
    all_of (is_among x (parties_on ring plan side a) && O a b) (is_good_chain ring plan O x side (b ∷ rest))
    (all_of (is_among x (parties_on ring plan side a)) (O a b) (g.1 a (or_left (a == a) (has a (b ∷ rest)) (same a))) g.0.0)
    (good-all ring plan O x side (b ∷ rest) (g.0.1, λ n is. g.1 n (or_right (n == a) (has n (b ∷ rest)) is)))

-- what is tested of a chain of the node
abbrev passes : RingValue → List Planned → Test → NodeId → Chain → Bool
passes ring plan O x c = has_side ring x c.side && is_good_chain ring plan O x c.side c.steps

some-side : (o : Option ℕ) → is_some o ≡ true → o ≡ None → ⊥
some-side None h e = absurd cc
some-side (Some a) h e = cc

side_of : (o : Option ℕ) → (o ≡ None → ⊥) → is_some o ≡ true
side_of None h = absurd (h refl)
side_of (Some a) h = refl

side-is : (s t : Side) → is_side s t ≡ true → s ≡ t
side-is Both Both e = refl
side-is Both Take e = absurd cc
side-is Both Give e = absurd cc
side-is Take Both e = absurd cc
side-is Take Take e = refl
side-is Take Give e = absurd cc
side-is Give Both e = absurd cc
side-is Give Take e = absurd cc
side-is Give Give e = refl

side-same : (s : Side) → is_side s s ≡ true
side-same Both = refl
side-same Take = refl
side-same Give = refl

one-met : (ring : RingValue) (plan : List Planned) (O : Test) (x : NodeId) (side : Side) (own : Bool) (c : Chain) (cs : List (List ℕ)) → (not own || passes ring plan O x c) ≡ true → AreGood ring plan O x side cs × IsAllowed ring x side cs
    → AreGood ring plan O x side (cond (own && is_side side c.side) (c.steps ∷ cs) cs) × IsAllowed ring x side (cond (own && is_side side c.side) (c.steps ∷ cs) cs)
one-met ring plan O x side false c cs h g = g
one-met ring plan O x side true c cs h g = by (is_side side c.side) refl
  where
    p : (has_side ring x c.side ≡ true) × (is_good_chain ring plan O x c.side c.steps ≡ true)
    p = and_parts (has_side ring x c.side) (is_good_chain ring plan O x c.side c.steps) h

    by : (b : Bool) → is_side side c.side ≡ b → AreGood ring plan O x side (cond b (c.steps ∷ cs) cs) × IsAllowed ring x side (cond b (c.steps ∷ cs) cs)
    by false e = g
    by true e =
        let s : side ≡ c.side = side-is side c.side e in
        let m = good-met ring plan O x side c.steps (rw s p.1) in
        let has_it : has_side ring x side ≡ true = rw s p.0 in (
          ((m.0, g.0.0), λ n is. elim (either (has n c.steps) (in_some n cs) is) [ inl here ↦ m.1 n here | inr there ↦ g.0.1 n there ]),
          λ none. absurd (some-side (allowance_of ring x.0 side) has_it none),
        )

pub chains-met : (ring : RingValue) (plan : List Planned) (O : Test) (x : NodeId) (side : Side) (k : ℕ) (cs : List Chain) → first_failing (chains_clauses ring plan O x k cs) ≡ None → AreGood ring plan O x side (chains_from x.0 side cs) × IsAllowed ring x side (chains_from x.0 side cs)
chains-met ring plan O x side k [] h = ((tt, λ n is. absurd cc), λ none. refl)
chains-met ring plan O x side k (c ∷ cs) h =
    let m = met (not (is_node x c.node) || passes ring plan O x c) (ChainBroken (min k 4294967295)) (first_failing (chains_clauses ring plan O x (k + 1) cs)) h in
    one-met ring plan O x side (is_node x c.node) c (chains_from x.0 side cs) m.0 (chains-met ring plan O x side (k + 1) cs m.1)

-- of each side
abbrev pub AllGood : RingValue → List Planned → Test → NodeId → List Chain → Type 0
AllGood ring plan O x cs = (side : Side) → AreGood ring plan O x side (chains_from x.0 side cs) × IsAllowed ring x side (chains_from x.0 side cs)

one-all : (ring : RingValue) (plan : List Planned) (O : Test) (x : NodeId) (c : Chain) (cs : List Chain) → AllGood ring plan O x (c ∷ cs) → (not (is_node x c.node) || passes ring plan O x c) ≡ true
one-all ring plan O x c cs g = if_asked (is_node x c.node) (passes ring plan O x c) (λ own.
    let in_it : chains_from x.0 c.side (c ∷ cs) ≡ c.steps ∷ chains_from x.0 c.side cs = rw (own, side-same c.side) refl in
    let here = subst (λ (l : List (List ℕ)). AreGood ring plan O x c.side l × IsAllowed ring x c.side l) in_it (g c.side) in
    all_of (has_side ring x c.side) (is_good_chain ring plan O x c.side c.steps)
    (side_of (allowance_of ring x.0 c.side) (λ none. (let e = here.1 none in absurd cc)))
    (good-all ring plan O x c.side c.steps (here.0.0.0, λ n is. here.0.1 n (or_left (has n c.steps) (in_some n (chains_from x.0 c.side cs)) is))))

fewer : (ring : RingValue) (plan : List Planned) (O : Test) (x : NodeId) (side : Side) (b : Bool) (c : List ℕ) (cs : List (List ℕ)) → AreGood ring plan O x side (cond b (c ∷ cs) cs) × IsAllowed ring x side (cond b (c ∷ cs) cs) → AreGood ring plan O x side cs × IsAllowed ring x side cs
fewer ring plan O x side false c cs g = g
fewer ring plan O x side true c cs g = ((g.0.0.1, λ n is. g.0.1 n (or_right (has n c) (in_some n cs) is)), λ none. (let e = g.1 none in absurd cc))

pub chains-all : (ring : RingValue) (plan : List Planned) (O : Test) (x : NodeId) (k : ℕ) (cs : List Chain) → AllGood ring plan O x cs → first_failing (chains_clauses ring plan O x k cs) ≡ None
chains-all ring plan O x k [] g = refl
chains-all ring plan O x k (c ∷ cs) g =
    push (not (is_node x c.node) || passes ring plan O x c) (ChainBroken (min k 4294967295)) (first_failing (chains_clauses ring plan O x (k + 1) cs)) (one-all ring plan O x c cs g)
    (chains-all ring plan O x (k + 1) cs (λ side. fewer ring plan O x side (is_node x c.node && is_side side c.side) c.steps (chains_from x.0 side cs) (g side)))

-- ---- the copies of a node, and its allowance

party : (o : Option Planned) (x : NodeId) (f : Planned → List NodeId) → is_among x (elim o [ Some y ↦ f y | None ↦ [] ]) ≡ true → (s : Step) × ((elim o [ Some y ↦ Some y.step | None ↦ None ]) ≡ Some s)
party None x f h = absurd cc
party (Some y) x f h = (y.step, refl)

pub party-step : (ring : RingValue) (plan : List Planned) (side : Side) (n : ℕ) (x : NodeId) → is_among x (parties_on ring plan side n) ≡ true → (s : Step) × (step_at plan n ≡ Some s)
party-step ring plan side n x h = party (slice_get plan n) x (λ (y : Planned). on_side side (target_of ring plan n y.step) (sources_of ring plan n y.step)) h

few_of : (o : Option ℕ) (n a : ℕ) → (elim o [ Some b ↦ nat_le n b | None ↦ true ]) ≡ true → o ≡ Some a → n ≤ a
few_of None n a h e = absurd cc
few_of (Some b) n a h e =
    let is : b ≡ a = cc in
    let le = leb-true n b h in
    omega arith

pub few-met : (ring : RingValue) (x : NodeId) (side : Side) (n a : ℕ) → is_few ring x side n ≡ true → allowance_of ring x.0 side ≡ Some a → n ≤ a
few-met ring x side n a h e = few_of (allowance_of ring x.0 side) n a h e

of_few : (o : Option ℕ) (n : ℕ) → ((a : ℕ) → o ≡ Some a → n ≤ a) → (elim o [ Some b ↦ nat_le n b | None ↦ true ]) ≡ true
of_few None n h = refl
of_few (Some b) n h = le-leb n b (h b refl)

pub few-all : (ring : RingValue) (x : NodeId) (side : Side) (n : ℕ) → ((a : ℕ) → allowance_of ring x.0 side ≡ Some a → n ≤ a) → is_few ring x side n ≡ true
few-all ring x side n h = of_few (allowance_of ring x.0 side) n h
