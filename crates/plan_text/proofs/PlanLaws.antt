-- A plan is read only from its one text, and the plan that is read suits the ring.
use Rattle.std.proofs.Common.{◌≡◌, ℕ, suc, ◌+◌, ◌-◌, ◌<◌, ◌≤◌, true, not, nat_lt, List, [], ◌∷◌, ◌++◌, length, codes, Result, Ok, Err, refl, sym, ap, arith, add-zero, length-append, IfOk, append-nil}
use Rattle.std.specs.List.{list_all, flat_map}
use Rattle.std.proofs.lemmas.Bool.{lt-ltb, ltb-true, le-leb, leb-true, ne_eqb, eqb-false, and_parts, or_parts, or_from, not-true, not-false}
use Rattle.std.proofs.lemmas.Grind.{flat_map-append}
use Rattle.std.proofs.lemmas.List.Concat.{flat_map-cons}
use Rattle.std.proofs.lemmas.List.Folds.{list_all-append}
use Rattle.std.proofs.lemmas.List.Sums.{sum_by-append}
use Rattle.plan_text.proofs.Terms.{has, all_different, NodeId, RingValue, names_of, is_member, IsRing, Step, Join, Mirror, Copy, Switch, Drop, Retire, Owner, Slots, Planned, planned_of, dependencies, joins, retires, joined, retired}
use Rattle.plan_text.proofs.Terms.{IsPlanned, EachPlanned, IsPlan}
use Rattle.texts.proofs.Forms.{IsPart, Any, Left, header_at, each-grows, all-each, text-found, text-given, some-first, Refusal, ascending, are_small}
use Rattle.ring_names.proofs.InLists.{different_more, different_apart}
use Rattle.ring_table.proofs.NodesLaws.{nodes-length}
use Rattle.plan_text.specs.Valid.{HasSources, is_ring_slot, is_declared, step_suits, Suits}
use Rattle.plan_text.specs.Fits.{IsNext, IsMove}
use Rattle.plan_text.specs.Spelling.{plan_lines, plan_text}
use Rattle.plan_text.specs.Reading.{said_at, steps_at, plan_at, plan_reading}
use Rattle.plan_text.proofs.Pushed.{IsPlan-push, named-push}
use Rattle.plan_text.proofs.Below.{below_all}
use Rattle.plan_text.proofs.PlanForm.{StepFits, after_form, IsNextStep, said_line, plan_form}

-- ---- what is known of a plan at each step

each-at : (k : ℕ) (seen : List Planned) (y : Planned) (ys : List Planned) → EachPlanned k (seen ++ y ∷ ys) → IsPlanned (k + length seen) y
each-at k [] y ys each = rw add-zero each.0
each-at k (x ∷ seen) y ys each = (let e : k + length (x ∷ seen) ≡ (k + 1) + length seen = omega arith in rw e (each-at (k + 1) seen y ys each.1))

named-parts : (named : Step → List ℕ) (seen : List Planned) (y : Planned) (ys : List Planned)
    → flat_map (λ x. named x.step) (seen ++ y ∷ ys) ≡ flat_map (λ x. named x.step) seen ++ (named y.step ++ flat_map (λ x. named x.step) ys)
named-parts named seen y ys = rw (flat_map-append (λ (x : Planned). named x.step) seen (y ∷ ys), flat_map-cons (λ (x : Planned). named x.step) y ys) refl

no-more : (xs : List ℕ) → all_different xs ≡ true → all_different (xs ++ []) ≡ true
no-more xs e = rw (append-nil xs) e

module _ (ring : RingValue) where
  -- ---- a slot, a node and a step

  node-suits : (x : NodeId) → x.0 < length (names_of ring) → is_declared ring x ≡ true
  node-suits x lt = lt-ltb x.0 (length ring.nodes) (rw nodes-length at lt)

  node-fits : (x : NodeId) → is_declared ring x ≡ true → x.0 < length (names_of ring)
  node-fits x e = rw nodes-length (ltb-true x.0 (length ring.nodes) e)

  -- what a step that fits adds to a plan
  step-more : (seen : List Planned) (s : Step) → StepFits ring seen s
      → (step_suits ring s ≡ true) × HasSources s × (all_different (joined seen) ≡ true → all_different (joined seen ++ joins s) ≡ true)
      × (all_different (retired seen) ≡ true → all_different (retired seen ++ retires s) ≡ true)
  step-more seen (Join x) p =
      let new = or_parts (is_member ring.nodes x) (has x.0 (joined seen)) p.1.0 in
      (rw (node-suits x p.0, new.0) refl, tt, λ e. different_more (joined seen) x.0 e new.1, no-more (retired seen))
  step-more seen (Mirror s x) p = (rw (p.0.0, p.0.1, node-suits x p.1) refl, tt, no-more (joined seen), no-more (retired seen))
  step-more seen (Copy s Owner) p = (rw (p.0.0, p.0.1) refl, tt, no-more (joined seen), no-more (retired seen))
  step-more seen (Copy s (Slots from)) p =
      let some = eqb-false (length from) 0 p.1.0 in
      let few = leb-true (length from) 7 (not-false _ p.1.1.0) in
      (rw (p.0.0, p.0.1, not-false _ p.1.1.1.0) refl, (omega arith, few), no-more (joined seen), no-more (retired seen))
  step-more seen (Switch s) p = (rw (p.0, p.1) refl, tt, no-more (joined seen), no-more (retired seen))
  step-more seen (Drop s x) p = (rw (p.0.0, p.0.1, node-suits x p.1) refl, tt, no-more (joined seen), no-more (retired seen))
  step-more seen (Retire x) p = (node-suits x p.0, tt, no-more (joined seen), λ e. different_more (retired seen) x.0 e p.1.0)

  -- a step that neither joins nor retires a node fits anywhere
  move-fits : (seen : List Planned) (s : Step) → IsMove ring s → StepFits ring seen s
  move-fits seen (Join x) m = absurd (let e = m.joins in cc)
  move-fits seen (Mirror s x) m = (let b = and_parts (is_ring_slot ring s) (is_declared ring x) m.suits in (and_parts _ _ b.0, node-fits x b.1))
  move-fits seen (Copy s Owner) m = (and_parts _ _ (and_parts (is_ring_slot ring s) true m.suits).0, tt)
  move-fits seen (Copy s (Slots from)) m =
      let b = and_parts (is_ring_slot ring s) (list_all (λ i. nat_lt i ring.n) from) m.suits in
      let h = m.sources in
      (and_parts _ _ b.0, (ne_eqb (length from) 0 (λ z. let some = h.0 in absurd (omega arith)), (ap not (le-leb (length from) 7 h.1), (ap not b.1, tt))))
  move-fits seen (Switch s) m = and_parts (nat_lt s.partition ring.q) (nat_lt s.index ring.n) m.suits
  move-fits seen (Drop s x) m = (let b = and_parts (is_ring_slot ring s) (is_declared ring x) m.suits in (and_parts _ _ b.0, node-fits x b.1))
  move-fits seen (Retire x) m = absurd (let e = m.retires in cc)

  -- a step of a plan fits after those before it
  step-fits : (seen : List Planned) (s : Step) (js rs : List ℕ) → step_suits ring s ≡ true → HasSources s
      → all_different (joined seen ++ (joins s ++ js)) ≡ true → all_different (retired seen ++ (retires s ++ rs)) ≡ true → StepFits ring seen s
  step-fits seen (Join x) js rs e h j r =
      let b = and_parts (is_declared ring x) (not (is_member ring.nodes x)) e in
      let new = or_from (is_member ring.nodes x) (has x.0 (joined seen)) (not-true _ b.1) (different_apart (joined seen) x.0 js j) in
      (node-fits x b.0, (new, tt))
  step-fits seen (Mirror s x) js rs e h j r = move-fits seen (Mirror s x) (record { suits = e; sources = h; joins = refl; retires = refl })
  step-fits seen (Copy s from) js rs e h j r = move-fits seen (Copy s from) (record { suits = e; sources = h; joins = refl; retires = refl })
  step-fits seen (Switch s) js rs e h j r = move-fits seen (Switch s) (record { suits = e; sources = h; joins = refl; retires = refl })
  step-fits seen (Drop s x) js rs e h j r = move-fits seen (Drop s x) (record { suits = e; sources = h; joins = refl; retires = refl })
  step-fits seen (Retire x) js rs e h j r = (node-fits x e, (different_apart (retired seen) x.0 rs r, tt))

  -- ---- what a step waits for

  after-more : (seen : List Planned) (xs : List ℕ) → dependencies seen ≤ 524288 → (after_form ring seen).allowed xs
      → (are_small xs ≡ true) × (ascending xs ≡ true) × (list_all (λ x. nat_lt x (length seen)) xs ≡ true) × (length xs ≤ 4096)
      × (dependencies seen + length xs ≤ 524288)
  after-more seen [] le p = (refl, refl, refl, omega arith, omega arith)
  after-more seen (x ∷ xs) le p =
      let few = leb-true (suc (length xs)) 4096 (not-false _ p.1.1.0) in
      let room = leb-true (suc (length xs)) (524288 - dependencies seen) (not-false _ p.1.1.1.0) in
      (not-false _ p.1.1.1.1.0, not-false _ p.1.0, not-false _ p.1.1.1.1.1.0, few, omega arith)

  after-fits : (seen : List Planned) (xs : List ℕ) → length seen ≤ 131072 → ascending xs ≡ true → list_all (λ x. nat_lt x (length seen)) xs ≡ true
      → length xs ≤ 4096 → dependencies seen + length xs ≤ 524288 → (after_form ring seen).allowed xs
  after-fits seen [] le up earlier few total = tt
  after-fits seen (x ∷ xs) le up earlier few total =
      let some = ne_eqb (suc (length xs)) 0 (omega arith) in
      let short = ap not (le-leb (suc (length xs)) 4096 few) in
      let room = ap not (le-leb (suc (length xs)) (524288 - dependencies seen) (omega arith)) in
      let small = ap not (below_all 4294967296 (length seen) (x ∷ xs) (omega arith) earlier) in
      (some, (ap not up, (short, (room, (small, (ap not earlier, tt))))))

  -- ---- a step, and the plan with it

  next-is : (seen : List Planned) (x : Planned) → dependencies seen ≤ 524288 → IsNextStep ring seen x
      → (are_small x.after ≡ true) × IsPlanned (length seen) x × (length seen < 131072) × (dependencies seen + length x.after ≤ 524288)
  next-is seen x le p =
      let a = after-more seen x.after le p.1 in
      (a.0, record { ascending = a.1; earlier = a.2; few = a.3; sources = (step-more seen x.step p.0.1).1 }, ltb-true (length seen) 131072 p.0.0, a.4)

  pub next-move : (seen : List Planned) (x : Planned) → IsNext seen x → IsMove ring x.step → IsNextStep ring seen x
  next-move seen x n m =
      let p = n.planned in
      let room = n.room in
      ((lt-ltb (length seen) 131072 n.room, move-fits seen x.step m), after-fits seen x.after (omega arith) p.ascending p.earlier p.few n.few)

  next-suits : (seen : List Planned) (x : Planned) → IsPlan seen × Suits ring seen → IsNextStep ring seen x
      → IsPlan (seen ++ x ∷ []) × Suits ring (seen ++ x ∷ [])
  next-suits seen x is p =
      let n = next-is seen x is.0.dependencies p in
      let more = step-more seen x.step p.0.1 in (
        IsPlan-push seen x is.0 n.1 n.2 n.3,
        record {
          steps = rw (list_all-append (λ (y : Planned). step_suits ring y.step) seen (x ∷ []), is.1.steps, more.0) refl;
          joins = rw (named-push joins seen x) (more.2 is.1.joins);
          retirements = rw (named-push retires seen x) (more.3 is.1.retirements);
        },
      )

  next-fits : (seen : List Planned) (x : Planned) (xs : List Planned) → step_suits ring x.step ≡ true → IsPlan (seen ++ x ∷ xs) × Suits ring (seen ++ x ∷ xs)
      → IsNextStep ring seen x
  next-fits seen x xs e is =
      let number : 0 + length seen ≡ length seen = omega arith in
      let planned : IsPlanned (length seen) x = rw number at (each-at 0 seen x xs is.0.each) in
      let room : length seen + suc (length xs) ≤ 131072 = rw length-append at is.0.steps in
      let front = sum_by-append (λ (y : Planned). length y.after) seen (x ∷ xs) in
      let back = sum_by-append (λ (y : Planned). length y.after) (x ∷ []) xs in
      let total : dependencies seen + length x.after ≤ 524288 = omega (arith, is.0.dependencies, front, back) in
      let joined_once = rw (named-parts joins seen x xs) at is.1.joins in
      let retired_once = rw (named-parts retires seen x xs) at is.1.retirements in
      let fits = step-fits seen x.step (joined xs) (retired xs) e planned.sources joined_once retired_once in
      ((lt-ltb (length seen) 131072 (omega arith), fits), after-fits seen x.after (omega arith) planned.ascending planned.earlier planned.few total)

  -- what the form allows is a plan that suits the ring
  parts-suit : (v : List Planned) → (plan_form ring).allowed v → IsPlan v × Suits ring v
  parts-suit v p = each-grows (IsNextStep ring) (λ l. IsPlan l × Suits ring l) next-suits [] v
      (record { each = tt; steps = omega arith; dependencies = omega arith }, record { steps = refl; joins = refl; retirements = refl }) p.1.0

  suits-parts : (v : List Planned) → IsPlan v → Suits ring v → (plan_form ring).allowed v
  suits-parts v is suits =
      (tt, (all-each (IsNextStep ring) (λ x. step_suits ring x.step) (λ l. IsPlan l × Suits ring l) next-fits [] v suits.steps (is, suits), tt))

-- what was returned of a line can be the next step
pub next-if : (ring : RingValue) → IsRing ring → (seen : List Planned) (k : ℕ) (fields : List (List ℕ)) (r : Result (Step × List ℕ) Refusal)
    → dependencies seen ≤ 524288 → r ≡ said_at ring seen k fields → IfOk r (λ x. IsNext seen (planned_of x))
unfolding said_at
next-if ring valid seen k fields (Ok x) few e =
    let n = next-is ring seen (planned_of x) few (((said_line ring seen).exact valid k).takes fields x (sym e)).1 in
    record { after = n.0; planned = n.1; room = n.2; few = n.3 }
next-if ring valid seen k fields (Err f) few e = tt

-- the definitions are the form, by computing
pub plan-part : (ring : RingValue) → IsRing ring → IsPart Any (plan_at ring) (plan_lines ring) (plan_form ring).allowed
unfolding plan_at steps_at
plan-part ring valid = (plan_form ring).exact valid

pub read-found : (ring : RingValue) (text : List ℕ) (v : List Planned) → IsRing ring → plan_reading ring text ≡ Ok v
    → IsPlan v × Suits ring v × (text ≡ plan_text ring v)
unfolding plan_at steps_at
read-found ring text v r e = (let h = text-found (plan_form ring) r text v e in let p = parts-suit ring v h.0 in (p.0, p.1, h.1))

pub read-only : (ring : RingValue) (text : List ℕ) (v : List Planned) → IsRing ring → IsPlan v → Suits ring v → text ≡ plan_text ring v
    → plan_reading ring text ≡ Ok v
unfolding plan_at steps_at
read-only ring text v r is suits e = text-given (plan_form ring) r text v (suits-parts ring v is suits) e

pub section-found : (ring : RingValue) (s : Left) → IsRing ring → (v : List Planned) (t : Left) → plan_at ring s ≡ Ok (v, t) → IsPlan v × Suits ring v
unfolding plan_at steps_at
section-found ring s r v t e =
    parts-suit ring v ((plan-part ring r).takes s t v (some-first (λ x. x.1.0) (header_at (codes "plan") (codes "1")) _ s t v e) e).1
