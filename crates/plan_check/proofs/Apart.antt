-- In every run of a sound plan no two slots of a partition share a node.
use Rattle.std.proofs.Common.{◌≡◌, inl, inr, ◌∙◌, ℕ, zero, suc, ◌<◌, true, false, not, List, [], ◌∷◌, length, map, get_or, refl, sym, ap, subst, arith, eq-eqb}
use Rattle.std.specs.Prelude.{◌==◌, Option, Some, None, Ok, slice_get, is_some, option_and_then, unwrap_or}
use Rattle.std.specs.List.{AllByRecursion}
use Rattle.std.proofs.lemmas.Option.{slice_get-get_or}
use Rattle.ring_names.specs.Lists.{has, all_different}
use Rattle.ring_names.specs.declared.ids.NodeId.{NodeId}
use Rattle.ring_names.specs.declared.ids.Slot.{Slot}
use Rattle.ring_table.specs.Value.{RingValue, owner_of}
use Rattle.ring_table.specs.Valid.{IsRing, IsRow}
use Rattle.std.proofs.lemmas.Bool.{and_parts, not-true, or_right, cases_lt}
use Rattle.plan_text.specs.declared.step.Step.{Step}
use Rattle.plan_text.specs.declared.step.Step.TheVariants.{Join, Mirror}
use Rattle.plan_text.specs.declared.step.Planned.{Planned}
use Rattle.plan_text.specs.Steps.{steps_of, copy_of}
use Rattle.plan_stage.specs.Stage.{opening, stage}
use Rattle.plan_runs.specs.declared.event.Event.{Event}
use Rattle.plan_runs.specs.declared.event.Event.TheVariants.{Do, CloseCopy, StartPut, Write, Hint, Ack, Handoff, Lose}
use Rattle.plan_runs.specs.World.{World, opening_world, count, keeps_other}
use Rattle.plan_runs.specs.Versions.{put_slot}
use Rattle.plan_runs.specs.Guards.{serves_in, step_guards, guards}
use Rattle.plan_runs.specs.Effects.{with_number, without_number, without_puts, changed, step_effect, served_puts, with_ticket, lose_effect, effect}
use Rattle.plan_stage.specs.Each.{step_at}
use Rattle.plan_runs.specs.declared.event.Entry.{Entry}
use Rattle.plan_runs.specs.Runs.{Leads}
use Rattle.plan_check.specs.Safe.{GroupsAreApart}
use Rattle.plan_runs.specs.Runs.{Always}
use Rattle.plan_check.specs.Headline.{AreFinishedFirst}
use Rattle.plan_runs.proofs.Prefix.{prefix}
use Rattle.plan_runs.proofs.Groups.{Served, InGroup, in_group}
use Rattle.plan_check.proofs.Mirrored.{Known, Holds, down}
use Rattle.plan_runs.specs.Answers.{answer}
use Rattle.plan_runs.specs.Reached.{Ready, Reached}
use Rattle.plan_runs.proofs.Answered.{answered}
use Rattle.plan_runs.proofs.Passed.{AllMet, all_met, ready}
use Rattle.plan_runs.proofs.Storing.{without_puts_was, lose_hinted}
use Rattle.plan_runs.proofs.Reached.{reached, run_reached, start_reached}
use Rattle.plan_order.specs.Before.{Before}
use Rattle.plan_check.specs.Sound.{HaveLeft}
use Rattle.plan_check.proofs.Entering.{Apart, MayMirror, done_apart, less_apart, hint_apart}

-- ---- steps

may_do : (ring : RingValue) (w : World) (m : Option Step) (s : Slot) (x : NodeId) → m ≡ Some (Mirror s x) → AllMet (elim m [ Some t ↦ step_guards ring w t | None ↦ [] ]) → keeps_other ring w x.0 s ≡ false
may_do ring w m s x e g =
    let h : AllMet (step_guards ring w (Mirror s x)) = subst (λ (o : Option Step). AllMet (elim o [ Some t ↦ step_guards ring w t | None ↦ [] ])) e g in
    not-true (keeps_other ring w x.0 s) h.1.0

do_apart : (ring : RingValue) (plan : List Planned) → Known ring plan → HaveLeft ring plan (Before plan) → (w : World) (n : ℕ) (m : Option Step) → Reached ring plan w → Apart ring plan w → Ready plan w.done n → MayMirror ring plan w n
    → Apart ring plan (elim m [ Some s ↦ step_effect (record w { done = with_number w.done n }) s | None ↦ w ])
do_apart ring plan k left w n None r i y may = i
do_apart ring plan k left w n (Some (Join x)) r i y may = done_apart ring plan k left w n w.is_open (with_number w.up x.0) w.stored r i y may
do_apart ring plan k left w n (Some s) r i y may = done_apart ring plan k left w n w.is_open w.up (step_effect w s).stored r i y may

no_mirror : (m : Option Step) (s : Slot) (x : NodeId) → is_some (option_and_then copy_of m) ≡ true → m ≡ Some (Mirror s x) → ⊥
no_mirror m s x c e =
    let h : is_some (copy_of (Mirror s x)) ≡ true = subst (λ (o : Option Step). is_some (option_and_then copy_of o) ≡ true) e c in
    absurd cc

-- ---- one event

event_apart : (ring : RingValue) (plan : List Planned) → Known ring plan → HaveLeft ring plan (Before plan) → (w : World) → Reached ring plan w → Apart ring plan w → (e : Event) → AllMet (guards ring plan w e) → Apart ring plan (effect ring plan w e)
unfolding guards effect
event_apart ring plan k left w r i (Do n) g =
    do_apart ring plan k left w n (step_at plan n) r i (ready plan w n g.1.1.0) (λ s x at. (not-true (w.done n) g.1.0, may_do ring w (step_at plan n) s x at g.1.1.1))
event_apart ring plan k left w r i (CloseCopy n) g =
    done_apart ring plan k left w n (without_number w.is_open n) w.up w.stored r i (r.copies.ready n g.1.0) (λ s x at. absurd (no_mirror (step_at plan n) s x g.0 at))
event_apart ring plan k left w r i (StartPut writer key value seen) g = less_apart ring plan w _ w.stored w.hinted w.losses w.lost r i (λ x s v e. e)
event_apart ring plan k left w r i (Write v j) g = less_apart ring plan w (with_ticket ring plan w v j) (served_puts ring plan w (put_slot ring w v j) (λ u. u == v)) w.hinted w.losses w.lost r i (λ x s u e. e)
event_apart ring plan k left w r i (Hint v j x) g =
    hint_apart ring plan w v (put_slot ring w v j) x (with_ticket ring plan w v j) r i (not-true (serves_in ring plan w (put_slot ring w v j).partition x.0) g.1.1.1.0) (not-true (keeps_other ring w x.0 (put_slot ring w v j)) g.1.1.1.1.0)
event_apart ring plan k left w r i (Ack v) g = less_apart ring plan w (changed w.puts v (λ x. record x { acked = true })) w.stored w.hinted w.losses w.lost r i (λ x s u e. e)
event_apart ring plan k left w r i (Handoff x s) g =
    less_apart ring plan w w.puts (served_puts ring plan w s (w.hinted x.0 s)) (without_puts w.hinted x s) w.losses w.lost r i (λ y t u e. without_puts_was w.hinted x s y t u e)
event_apart ring plan k left w r i (Lose x) g =
    let u = lose_effect ring plan w x in
    less_apart ring plan w w.puts u.stored u.hinted u.losses u.lost r i (lose_hinted ring plan w x)
event_apart ring plan k left w r i e g = i

-- ---- a run

-- through one event
next_apart : (ring : RingValue) (plan : List Planned) → Known ring plan → HaveLeft ring plan (Before plan) → (x : Entry) (w u : World) → answer ring plan w x.event ≡ Ok (u, x.reply) → Reached ring plan w → Apart ring plan w → Apart ring plan u
next_apart ring plan k left x w u l r i =
    let a = answered ring plan w u x.event x.reply l in
    subst (λ (v : World). Apart ring plan v) a.1 (event_apart ring plan k left w r i x.event (all_met (guards ring plan w x.event) a.0))

-- through many
pub run_apart : (ring : RingValue) (plan : List Planned) → Known ring plan → HaveLeft ring plan (Before plan) → (run : List Entry) (w v : World) → Reached ring plan w → Apart ring plan w → Leads ring plan w run v → Apart ring plan v
run_apart ring plan k left [] w v r i l = subst (λ (u : World). Apart ring plan u) (sym l) i
run_apart ring plan k left (x ∷ xs) w v r i l = run_apart ring plan k left xs l.0 v (run_reached ring plan (x ∷ []) w l.0 r (l.0, l.1, refl)) (next_apart ring plan k left x w l.0 l.1 r i) l.2

-- ---- the start

pub count_zero : (ss : List ℕ) → count (λ n. false) ss ≡ 0
count_zero [] = refl
count_zero (s ∷ ss) = count_zero ss

row_at : {A : Type 0} (P : A → Type 0) (xs : List A) (i : ℕ) (x : A) → AllByRecursion P xs → slice_get xs i ≡ Some x → P x
row_at P [] i x a e = absurd cc
row_at P (y ∷ ys) zero x a e = (let f : y ≡ x = cc in subst P f a.0)
row_at P (y ∷ ys) (suc i) x a e = row_at P ys i x a.1 e

has_at : (xs : List NodeId) (i : ℕ) (x : NodeId) → slice_get xs i ≡ Some x → has x.0 (map (λ y. y.0) xs) ≡ true
has_at [] i x e = absurd cc
has_at (y ∷ ys) zero x e = (let f : y ≡ x = cc in rw (eq-eqb x.0 y.0 (sym (ap (λ (z : NodeId). z.0) f))) refl)
has_at (y ∷ ys) (suc i) x e = or_right (x.0 == y.0) (has x.0 (map (λ z. z.0) ys)) (has_at ys i x e)

-- a row has no node twice
first_again : (y : NodeId) (ys : List NodeId) (j : ℕ) (x : NodeId) → all_different (map (λ z. z.0) (y ∷ ys)) ≡ true → y ≡ x → slice_get ys j ≡ Some x → ⊥
first_again y ys j x d g f =
    let p = and_parts (not (has y.0 (map (λ z. z.0) ys))) (all_different (map (λ z. z.0) ys)) d in
    let h = has_at ys j x f in
    let n = not-true (has y.0 (map (λ z. z.0) ys)) p.0 in
    let m : has y.0 (map (λ z. z.0) ys) ≡ true = ap (λ (z : NodeId). has z.0 (map (λ v. v.0) ys)) g ∙ h in
    absurd cc

once : (xs : List NodeId) (i j : ℕ) (x : NodeId) → all_different (map (λ y. y.0) xs) ≡ true → slice_get xs i ≡ Some x → slice_get xs j ≡ Some x → i ≡ j
once [] i j x d e f = absurd cc
once (y ∷ ys) zero zero x d e f = refl
once (y ∷ ys) zero (suc j) x d e f = absurd (first_again y ys j x d (let g : y ≡ x = cc in g) f)
once (y ∷ ys) (suc i) zero x d e f = absurd (first_again y ys i x d (let g : y ≡ x = cc in g) e)
once (y ∷ ys) (suc i) (suc j) x d e f =
    let p = and_parts (not (has y.0 (map (λ z. z.0) ys))) (all_different (map (λ z. z.0) ys)) d in
    ap suc (once ys i j x p.1 e f)

-- who is in a group at the start owns the slot
at_start : (ring : RingValue) (plan : List Planned) (s : Slot) (x : ℕ) → InGroup ring plan (opening_world ring) s x → x ≡ (opening ring s).owner.0
at_start ring plan s x g = elim g [
  | inl h ↦ elim (subst (λ (n : ℕ). Served (stage ring plan s n) x) (count_zero (steps_of plan s)) h) [
    | inl e ↦ e
    | inr e ↦ absurd cc
  ]
  | inr h ↦ absurd (let l = h.2 in cc)
]

pub start_apart : (ring : RingValue) (plan : List Planned) → IsRing ring → Apart ring plan (opening_world ring)
start_apart ring plan r p i j x l m n ne g h =
    let row = get_or ring.owners p [] in
    let here : slice_get ring.owners p ≡ Some row = slice_get-get_or ring.owners p [] (let z = r.partitions in omega arith) in
    let is : IsRow ring.n ring.nodes row = row_at (IsRow ring.n ring.nodes) ring.owners p row r.rows here in
    let e = at_start ring plan (record { partition = p; index = i }) x g in
    let f = at_start ring plan (record { partition = p; index = j }) x h in
    ne (once row i j (record { 0 = x }) is.different (owned row i is.slots here m e) (owned row j is.slots here n f))
  where
    owned : (row : List NodeId) (b : ℕ) → length row ≡ ring.n → slice_get ring.owners p ≡ Some row → b < ring.n → x ≡ (opening ring (record { partition = p; index = b })).owner.0 → slice_get row b ≡ Some (record { 0 = x })
    owned row b z here c e =
        let at : slice_get row b ≡ Some (get_or row b (record { 0 = 0 })) = slice_get-get_or row b (record { 0 = 0 }) (omega arith) in
        let owner : owner_of ring (record { partition = p; index = b }) ≡ slice_get row b = ap (λ (o : Option (List NodeId)). option_and_then (λ v. slice_get v b) o) here in
        let q : x ≡ (unwrap_or (owner_of ring (record { partition = p; index = b })) (record { 0 = 0 })).0 = e in
        let s : x ≡ (get_or row b (record { 0 = 0 })).0 = q ∙ ap (λ (o : Option NodeId). (unwrap_or o (record { 0 = 0 })).0) (owner ∙ at) in
        at ∙ ap (λ (v : ℕ). Some (record { 0 = v })) (sym s)

-- so their tests say
pub groups_apart : (ring : RingValue) (plan : List Planned) (w : World) → Apart ring plan w → GroupsAreApart ring plan w
groups_apart ring plan w a p i j x l m n ne g h =
    a p i j x l m n ne (in_group ring plan w (record { partition = p; index = i }) x g) (in_group ring plan w (record { partition = p; index = j }) x h)

pub apart_always : (ring : RingValue) (plan : List Planned) → Known ring plan → HaveLeft ring plan (Before plan) → Always ring plan (GroupsAreApart ring plan)
apart_always ring plan k left run w is =
    groups_apart ring plan w (run_apart ring plan k left run (opening_world ring) w (start_reached ring plan) (start_apart ring plan k.is_ring) is)

-- ---- what the promise about puts needs

-- what is known of a world of a run
pub record Inv (ring : RingValue) (plan : List Planned) (w : World) : Type 0 where
  pub reached : Reached ring plan w
  pub apart : 0 < ring.loss → Apart ring plan w

pub start_inv : (ring : RingValue) (plan : List Planned) → IsRing ring → Inv ring plan (opening_world ring)
start_inv ring plan r = record { reached = start_reached ring plan; apart = λ l. start_apart ring plan r }

pub run_inv : (ring : RingValue) (plan : List Planned) → Holds ring plan → (run : List Entry) (w v : World) → Inv ring plan w → Leads ring plan w run v → Inv ring plan v
run_inv ring plan k run w v i l = record {
  reached = run_reached ring plan run w v i.reached l;
  apart = λ f. run_apart ring plan k.known (k.left f) run w v i.reached (i.apart f) l;
}

-- ---- the order of a slot's steps

pub finished_first : (ring : RingValue) (plan : List Planned) → Known ring plan → Always ring plan (AreFinishedFirst plan)
finished_first ring plan k run w is slot i l =
    let p = prefix w.done (steps_of plan slot) (down ring plan k w.done (reached ring plan run w is).closed slot) in (
      λ d. elim (cases_lt i (count w.done (steps_of plan slot))) [
        | inl h ↦ h
        | inr h ↦ absurd (let off = p.above i h l in cc)
      ],
      λ h. p.below i h,
    )
