-- The tests of gets that are kept are those of the world.
use Rattle.std.proofs.Common.{◌≡◌, ◌⊎◌, inl, inr, ◌∙◌, ℕ, zero, suc, ◌<◌, ◌≤◌, Bool, true, false, cond, List, [], ◌∷◌, ◌++◌, length, refl, sym, ap, subst, arith, ltb-true, eqb-true}
use Rattle.std.specs.Prelude.{◌&&◌, ◌==◌, nat_lt, Option, Some, None, Ok, slice_get, is_some}
use Rattle.std.specs.List.{list_all}
use Rattle.std.specs.Str.{bytes_eq}
use Rattle.std.proofs.lemmas.Bool.{and_parts}
use Rattle.std.proofs.lemmas.Bool.Decides.{eqb_tells}
use Rattle.std.proofs.lemmas.Option.{slice_get_cases, slice_get_past}
use Rattle.std.proofs.lemmas.Slice.Eq.{bytes_eq-Decides}
use Rattle.ring_names.specs.Names.{place}
use Rattle.ring_names.proofs.InLists.{get_there}
use Rattle.ring_table.specs.Value.{RingValue}
use Rattle.ring_table.specs.Valid.{IsRing}
use Rattle.ring_clock.specs.declared.entry.Entry.{Entry}
use Rattle.plan_text.specs.declared.step.Planned.{Planned}
use Rattle.plan_runs.specs.declared.event.Event.{Event}
use Rattle.plan_runs.specs.declared.event.Event.TheVariants.{StartGet, Read, EndGet}
use Rattle.plan_runs.specs.declared.event.Reply.{Reply}
use Rattle.plan_runs.specs.World.{GetRecord, World, opening_world, is_get_of}
use Rattle.plan_runs.specs.World as world
use Rattle.plan_runs.specs.Guards.{get_exists, has_ended, slots_read, guards}
use Rattle.plan_runs.specs.Effects.{changed, with_value, finds, answers, effect}
use Rattle.plan_runs.specs.Answers.{answer}
use Rattle.plan_runs.proofs.Answered.{answered}
use Rattle.plan_runs.proofs.Changed.{part_changed}
use Rattle.plan_runs.proofs.Passed.{AllMet, all_met}
use Rattle.store_parts.specs.declared.gets.GetNow.{GetNow}
use Rattle.store_parts.specs.Gets.{is_read, is_read_at}
use Rattle.store_parts.specs.GetsMeet.{GetMeets, GetsMeet}
use Rattle.plan_runs.specs.Leaves.{changes_gets}
use Rattle.store_parts.specs.GetsTests.{has_get, is_of_number, has_ended_at, read_count, ReadsFit}
use Rattle.store_parts.specs.PutsMeet.{AreNumbered}
use Rattle.store_parts.proofs.PutsLists.{absent, one_number}
use Rattle.store_parts.proofs.PutsTests.{same_passing, more_passing}
use Rattle.plan_runs.proofs.Frames.{same_gets}

-- there is no get of the number here and there, or one, and it is that of the world
pub both_gets : (ring : RingValue) (clock : ℕ → List Entry) (keys : List (List ℕ)) (gets : List GetNow) (w : World) (g : ℕ) → GetsMeet ring clock keys gets w
    → ((slice_get gets g ≡ None) × (slice_get w.gets g ≡ None)) ⊎ ((get : GetNow) × (x : GetRecord) × (slice_get gets g ≡ Some get) × (slice_get w.gets g ≡ Some x) × GetMeets ring clock w keys g get x)
both_gets ring clock keys gets w g m = elim (slice_get_cases gets g).1 [
  | inl s ↦ (let l = s.1 in let e = m.each in let y = get_there w.gets g (omega arith) in inr (s.0, y.0, s.2, y.1, m.at g s.0 y.0 s.2 y.1))
  | inr s ↦ (let l = s.0 in let e = m.each in inl (s.1, slice_get_past w.gets g (omega arith)))
]

-- there are as many
pub same_get_number : (ring : RingValue) (clock : ℕ → List Entry) (keys : List (List ℕ)) (gets : List GetNow) (w : World) (g : ℕ) → GetsMeet ring clock keys gets w → nat_lt g (length gets) ≡ nat_lt g (length w.gets)
same_get_number ring clock keys gets w g m = ap (λ (n : ℕ). nat_lt g n) m.each

-- whether a get and a slot index exist
pub same_has_get : (ring : RingValue) (clock : ℕ → List Entry) (keys : List (List ℕ)) (gets : List GetNow) (w : World) (g i : ℕ) → GetsMeet ring clock keys gets w → has_get gets ring.n g i ≡ get_exists ring w g i
same_has_get ring clock keys gets w g i m = ap (λ (b : Bool). b && nat_lt i ring.n) (same_get_number ring clock keys gets w g m)

-- ---- keys of gets

same_key : (keys : List (List ℕ)) (j k : ℕ) (key other : List ℕ) → AreNumbered keys → slice_get keys j ≡ Some other → slice_get keys k ≡ Some key → (j == k) ≡ bytes_eq other key
same_key keys j k key other numbered a b = elim (eqb_tells j k) [
  | inl t ↦ (
      let both : Some other ≡ Some key = sym a ∙ ap (λ (z : ℕ). slice_get keys z) t.1 ∙ b in
      let s : other ≡ key = cc in
      t.0 ∙ sym ((bytes_eq-Decides other key).1 s))
  | inr t ↦ t.0 ∙ sym (by (bytes_eq other key) refl t.1)
]
  where
    by : (x : Bool) → bytes_eq other key ≡ x → (j ≡ k → ⊥) → x ≡ false
    by false e ne = refl
    by true e ne = absurd (ne (one_number keys j k key numbered (a ∙ ap (λ (z : List ℕ). Some z) ((bytes_eq-Decides other key).0 e)) b))

abbrev number_here : ℕ → Option GetNow → Bool
number_here k o = elim o [ Some get ↦ get.key == k | None ↦ false ]

abbrev key_known : List ℕ → Option GetRecord → Bool
key_known key o = elim o [ Some x ↦ bytes_eq x.key key | None ↦ false ]

-- whether the get is of the key, by the key's number
pub same_of_key : (ring : RingValue) (clock : ℕ → List Entry) (keys : List (List ℕ)) (gets : List GetNow) (w : World) (k : ℕ) (key : List ℕ) (g : ℕ)
    → AreNumbered keys → slice_get keys k ≡ Some key → GetsMeet ring clock keys gets w → is_of_number gets k g ≡ is_get_of w key g
same_of_key ring clock keys gets w k key g numbered is m = elim (both_gets ring clock keys gets w g m) [
  | inl n ↦ ap (number_here k) n.0 ∙ sym (ap (key_known key) n.1)
  | inr s ↦ ap (number_here k) s.2 ∙ same_key keys s.0.key k key s.1.key numbered s.4.key is ∙ sym (ap (key_known key) s.3)
]

-- no get is of a key that has no number
pub none_of_key : (ring : RingValue) (clock : ℕ → List Entry) (keys : List (List ℕ)) (gets : List GetNow) (w : World) (key : List ℕ) (g : ℕ) → place keys key ≡ None → GetsMeet ring clock keys gets w → is_get_of w key g ≡ false
none_of_key ring clock keys gets w key g none m = elim (both_gets ring clock keys gets w g m) [
  | inl n ↦ ap (key_known key) n.1
  | inr s ↦ ap (key_known key) s.3 ∙ by s.1 s.0.key s.4.key (bytes_eq s.1.key key) refl
]
  where
    by : (x : GetRecord) (k : ℕ) → slice_get keys k ≡ Some x.key → (b : Bool) → bytes_eq x.key key ≡ b → bytes_eq x.key key ≡ false
    by x k of true e = absurd (absent keys k key none (of ∙ ap (λ (z : List ℕ). Some z) ((bytes_eq-Decides x.key key).0 e)))
    by x k of false e = e

-- tests that say the same of each number say the same of all
pub same_all : (f h : ℕ → Bool) → ((x : ℕ) → f x ≡ h x) → (xs : List ℕ) → list_all f xs ≡ list_all h xs
same_all f h e [] = refl
same_all f h e (x ∷ xs) = ap (λ (b : Bool). b && list_all f xs) (e x) ∙ ap (λ (b : Bool). h x && b) (same_all f h e xs)

-- ---- replies and reads

abbrev ended_here : Option GetNow → Bool
ended_here o = elim o [ Some get ↦ is_some get.reply | None ↦ false ]

abbrev ended_known : Option GetRecord → Bool
ended_known o = is_some (elim o as (λ _. Option (List ℕ)) [ Some x ↦ x.reply | None ↦ None ])

-- whether the get has ended
pub same_ended : (ring : RingValue) (clock : ℕ → List Entry) (keys : List (List ℕ)) (gets : List GetNow) (w : World) (g : ℕ) → GetsMeet ring clock keys gets w → has_ended_at gets g ≡ has_ended w g
same_ended ring clock keys gets w g m = elim (both_gets ring clock keys gets w g m) [
  | inl n ↦ ap ended_here n.0 ∙ sym (ap ended_known n.1)
  | inr s ↦ ap ended_here s.2 ∙ ap (λ (o : Option (List ℕ)). is_some o) s.4.reply ∙ sym (ap ended_known s.3)
]

abbrev read_here : ℕ → Option GetNow → Bool
read_here i o = elim o [ Some get ↦ is_read get i | None ↦ false ]

abbrev read_known : ℕ → Option GetRecord → Bool
read_known i o = is_some (elim o as (λ _. Option (List ℕ)) [ Some x ↦ x.found i | None ↦ None ])

-- whether it has read the slot
pub same_read : (ring : RingValue) (clock : ℕ → List Entry) (keys : List (List ℕ)) (gets : List GetNow) (w : World) (g i : ℕ) → GetsMeet ring clock keys gets w → is_read_at gets g i ≡ is_some (world.found_at w g i)
same_read ring clock keys gets w g i m = elim (both_gets ring clock keys gets w g m) [
  | inl n ↦ ap (read_here i) n.0 ∙ sym (ap (read_known i) n.1)
  | inr s ↦ ap (read_here i) s.2 ∙ s.4.reads i ∙ sym (ap (read_known i) s.3)
]

-- how many slots it has read
pub same_read_count : (ring : RingValue) (clock : ℕ → List Entry) (keys : List (List ℕ)) (gets : List GetNow) (w : World) (g : ℕ) → IsRing ring → ReadsFit ring w → GetsMeet ring clock keys gets w → read_count gets g ≡ slots_read ring w g
same_read_count ring clock keys gets w g valid fit m =
    ap (λ (xs : List ℕ). length xs)
    (same_passing 7 (is_read_at gets g) (λ i. is_some (world.found_at w g i)) (λ i l. same_read ring clock keys gets w g i m)
    ∙ more_passing 7 ring.n (λ i. is_some (world.found_at w g i)) valid.slots (λ i l. past i l (is_some (world.found_at w g i)) refl))
  where
    past : (i : ℕ) → ring.n ≤ i → (b : Bool) → is_some (world.found_at w g i) ≡ b → is_some (world.found_at w g i) ≡ false
    past i l true e = absurd (let less = fit g i e in omega arith)
    past i l false e = e

-- ---- reads of only the ring's slots

-- at the start nothing was read
pub reads_open : (ring : RingValue) → ReadsFit ring (opening_world ring)
reads_open ring g i e = absurd cc

read_at : List GetRecord → ℕ → ℕ → Bool
read_at gs g i = is_some (elim (slice_get gs g) as (λ _. Option (List ℕ)) [ Some x ↦ x.found i | None ↦ None ])

with_get : (gs : List GetRecord) (key : List ℕ) (g i : ℕ) → read_at (gs ++ record { key = key; found = λ j. None; reply = None } ∷ []) g i ≡ true → read_at gs g i ≡ true
unfolding read_at
with_get [] key zero i e = absurd cc
with_get [] key (suc g) i e = e
with_get (x ∷ gs) key zero i e = e
with_get (x ∷ gs) key (suc g) i e = with_get gs key g i e

with_read : (gs : List GetRecord) (n j : ℕ) (vs : List ℕ) (g i : ℕ) → read_at (changed gs n (λ x. record x { found = with_value x.found j vs })) g i ≡ true → (i ≡ j) ⊎ (read_at gs g i ≡ true)
unfolding read_at
with_read [] n j vs g i e = inr e
with_read (x ∷ gs) zero j vs zero i e = by (i == j) refl e
  where
    by : (b : Bool) → (i == j) ≡ b → is_some (cond b (Some vs) (x.found i)) ≡ true → (i ≡ j) ⊎ (is_some (x.found i) ≡ true)
    by true t e = inl (eqb-true i j t)
    by false t e = inr e
with_read (x ∷ gs) zero j vs (suc g) i e = inr e
with_read (x ∷ gs) (suc n) j vs zero i e = inr e
with_read (x ∷ gs) (suc n) j vs (suc g) i e = with_read gs n j vs g i e

reads_after : (ring : RingValue) (plan : List Planned) (w : World) (e : Event) → AllMet (guards ring plan w e) → (b : Bool) → changes_gets e ≡ b → ReadsFit ring w → ReadsFit ring (effect ring plan w e)
unfolding effect guards read_at
reads_after ring plan w e met false c fit g i r = fit g i (subst (λ (gs : List GetRecord). read_at gs g i ≡ true) (same_gets ring plan w e c) r)
reads_after ring plan w (StartGet key) met true c fit g i r = fit g i (with_get w.gets key g i r)
reads_after ring plan w (Read h j) met true c fit g i r = elim (with_read w.gets h j (finds ring plan w h j) g i r) [
  | inl s ↦ subst (λ (z : ℕ). z < ring.n) (sym s) (ltb-true j ring.n (and_parts (nat_lt h (length w.gets)) (nat_lt j ring.n) met.0).1)
  | inr s ↦ fit g i s
]
reads_after ring plan w (EndGet h) met true c fit g i r =
    fit g i (subst (λ (o : Option (List ℕ)). is_some o ≡ true) (part_changed (λ (x : GetRecord). x.found i) None w.gets h (λ x. record x { reply = Some (answers ring w h) }) (λ x. refl) g) r)
reads_after ring plan w e met true c fit g i r = absurd cc

-- and each event leaves it so
pub reads_stay : (ring : RingValue) (plan : List Planned) (w u : World) (e : Event) (r : Reply) → answer ring plan w e ≡ Ok (u, r) → ReadsFit ring w → ReadsFit ring u
reads_stay ring plan w u e r h fit =
    let a = answered ring plan w u e r h in
    subst (λ (z : World). ReadsFit ring z) a.1 (reads_after ring plan w e (all_met (guards ring plan w e) a.0) (changes_gets e) refl fit)
