-- Gets that are kept stay those of the world when one starts, reads or ends.
use Rattle.std.proofs.Common.{◌≡◌, inl, inr, ◌∙◌, ℕ, zero, suc, ◌<◌, Bool, true, false, cond, List, [], ◌∷◌, ◌++◌, length, length-append, refl, sym, ap, subst, arith}
use Rattle.std.specs.Prelude.{◌||◌, ◌==◌, Option, Some, None, Ok, slice_get, is_some}
use Rattle.std.proofs.lemmas.Option.{slice_get_past, slice_get_within}
use Rattle.std.proofs.lemmas.Bool.{ne_eqb, not-true}
use Rattle.ring_names.specs.Lists.{has}
use Rattle.ring_names.proofs.InLists.{get_there as there}
use Rattle.ring_table.specs.Value.{RingValue}
use Rattle.ring_clock.specs.declared.entry.Entry.{Entry}
use Rattle.ring_versions.specs.declared.version.Version.{Version}
use Rattle.ring_versions.specs.Versions.{IsMerge}
use Rattle.ring_versions.specs.Puts.{ArePuts}
use Rattle.plan_text.specs.declared.step.Planned.{Planned}
use Rattle.plan_runs.specs.declared.event.Event.TheVariants.{StartGet, Read, EndGet}
use Rattle.plan_runs.specs.declared.event.Reply.{Reply}
use Rattle.plan_runs.specs.declared.event.Reply.TheVariants as reply
use Rattle.plan_runs.specs.World.{GetRecord, World, some_below}
use Rattle.plan_runs.specs.Succession.{replied}
use Rattle.plan_runs.specs.Guards.{has_ended, guards}
use Rattle.plan_runs.specs.Effects.{changed, with_value, finds, answers, has_found, effect}
use Rattle.plan_runs.specs.Answers.{answer}
use Rattle.plan_runs.specs.Reached.{Reached}
use Rattle.plan_runs.proofs.Answered.{answered}
use Rattle.plan_runs.proofs.Changed.{length_changed, part_changed}
use Rattle.plan_runs.proofs.Passed.{all_met}
use Rattle.store_parts.specs.Shows.{Shows, value_of}
use Rattle.store_parts.specs.Clocks.{AreClocksOf}
use Rattle.store_parts.specs.GetsFind.{can_find, found_by}
use Rattle.store_parts.proofs.GetsFound.{read_shows, end_shows, end_reply, get_stays}
use Rattle.store_parts.proofs.ShownSets.{none, other_test, other_value}
use Rattle.store_parts.specs.declared.gets.GetNow.{GetNow}
use Rattle.store_parts.specs.Marks.{has_mark, with_mark}
use Rattle.store_parts.specs.Gets.{is_read}
use Rattle.store_parts.proofs.Bits.{has_with}
use Rattle.store_parts.specs.GetsMeet.{GetMeets, GetsMeet}
use Rattle.store_parts.proofs.PutsLists.{changed_at, appended_at}

-- a get that is kept is one of the world's
pub kept_get : (ring : RingValue) (clock : ℕ → List Entry) (keys : List (List ℕ)) (gets : List GetNow) (w : World) (g : ℕ) (get : GetNow) → GetsMeet ring clock keys gets w → slice_get gets g ≡ Some get
    → (x : GetRecord) × (slice_get w.gets g ≡ Some x) × GetMeets ring clock w keys g get x
kept_get ring clock keys gets w g get m e =
    let l = slice_get_within gets g get e in
    let s = m.each in
    let x = there w.gets g (omega arith) in
    (x.0, x.1, m.at g get x.0 e x.1)

some_same : (n : ℕ) (f h : ℕ → Bool) → ((i : ℕ) → f i ≡ h i) → some_below n f ≡ some_below n h
some_same zero f h e = refl
some_same (suc n) f h e = rw (some_same n f h e, e n) refl

-- no number passes what none passes
pub some_none : (n : ℕ) (f : ℕ → Bool) → ((i : ℕ) → f i ≡ false) → some_below n f ≡ false
some_none zero f e = refl
some_none (suc n) f e = rw (some_none n f e, e n) refl

-- a get of which nothing changes stays the same where all puts have the same values
stays_get : (ring : RingValue) (clock : ℕ → List Entry) (keys : List (List ℕ)) (w u : World) (h : ℕ) (get : GetNow) (x : GetRecord)
    → ((v : ℕ) → (found_by ring u h v ≡ found_by ring w h v) × (replied u.gets h v ≡ replied w.gets h v)) → ((v : ℕ) → value_of u v ≡ value_of w v) → GetMeets ring clock w keys h get x → GetMeets ring clock u keys h get x
stays_get ring clock keys w u h get x same values p = record {
  key = p.key;
  reads = p.reads;
  found = other_test clock (value_of u) get.found (found_by ring w h) (found_by ring u h) (λ v. sym (same v).0) (other_value clock (value_of w) (value_of u) get.found (found_by ring w h) (λ v t. values v) p.found);
  reply = p.reply;
  answered = λ e. other_test clock (value_of u) get.found (replied w.gets h) (replied u.gets h) (λ v. sym (same v).1) (other_value clock (value_of w) (value_of u) get.found (replied w.gets h) (λ v t. values v) (p.answered e));
}

-- ---- a start

past_found : (ring : RingValue) (w : World) (g v : ℕ) → slice_get w.gets g ≡ None → found_by ring w g v ≡ false
past_found ring w g v past = some_none ring.n (has_found w g v) (λ i. ap (λ (o : Option GetRecord). elim (elim o as (λ _. Option (List ℕ)) [ Some x ↦ x.found i | None ↦ None ]) [ Some vs ↦ has v vs | None ↦ false ]) past)

-- a get of the key comes, which has read and found nothing and has no reply
pub gets_started : (ring : RingValue) (plan : List Planned) (w u : World) (key : List ℕ) (r : Reply) (clock : ℕ → List Entry) (keys : List (List ℕ)) (gets : List GetNow) (get : GetNow)
    → answer ring plan w (StartGet key) ≡ Ok (u, r) → slice_get keys get.key ≡ Some key → ((i : ℕ) → is_read get i ≡ false) → get.found ≡ [] → get.reply ≡ None
    → GetsMeet ring clock keys gets w → GetsMeet ring clock keys (gets ++ get ∷ []) u
unfolding effect
gets_started ring plan w u key r clock keys gets get h of unread empty blank m =
    let x : GetRecord = record { key = key; found = λ i. None; reply = None } in
    let a = answered ring plan w u (StartGet key) r h in
    let is : u.gets ≡ w.gets ++ x ∷ [] = ap (λ (z : World). z.gets) (sym a.1) in
    let same : (g v : ℕ) → (found_by ring u g v ≡ found_by ring w g v) × (replied u.gets g v ≡ replied w.gets g v) = λ g. get_stays ring plan w u (StartGet key) r g h refl in
    let values : (v : ℕ) → value_of u v ≡ value_of w v = λ v. ap (λ (z : World). value_of z v) (sym a.1) in
    let fresh : (g : ℕ) → g ≡ length w.gets → GetMeets ring clock u keys g get x = λ g e. record {
      key = of;
      reads = unread;
      found = subst (λ (vs : List Version). Shows clock (value_of u) vs (found_by ring u g)) (sym empty)
          (other_test clock (value_of u) [] (λ v. false) (found_by ring u g) (λ v. sym (past_found ring w g v (slice_get_past w.gets g (omega arith))) ∙ sym (same g v).0) (none clock (value_of u)));
      reply = blank;
      answered = λ t. absurd cc;
    } in
    record {
      each = (let s = m.each in let b = length-append gets (get ∷ []) in let c = length-append w.gets (x ∷ []) in let d = ap (λ (xs : List GetRecord). length xs) is in omega arith);
      at = λ g now y b c. elim (appended_at gets get g now b) [
        | inl s ↦ elim (appended_at w.gets x g y (ap (λ (xs : List GetRecord). slice_get xs g) (sym is) ∙ c)) [
          | inl t ↦ subst (λ (z : GetNow). GetMeets ring clock u keys g z y) s.1 (subst (λ (z : GetRecord). GetMeets ring clock u keys g get z) t.1 (fresh g t.0))
          | inr t ↦ absurd (let l = t.0 in let e = s.0 in let f = m.each in omega arith)
        ]
        | inr s ↦ elim (appended_at w.gets x g y (ap (λ (xs : List GetRecord). slice_get xs g) (sym is) ∙ c)) [
          | inl t ↦ absurd (let l = s.0 in let e = t.0 in let f = m.each in omega arith)
          | inr t ↦ stays_get ring clock keys w u g now y (same g) values (m.at g now y s.1 t.1)
        ]
      ];
    }

-- ---- one get changes

-- the gets that are kept are those of the world if one is changed here and there alike
changes : (ring : RingValue) (clock : ℕ → List Entry) (keys : List (List ℕ)) (gets : List GetNow) (w u : World) (n : ℕ) (f : GetNow → GetNow) (h : GetRecord → GetRecord) → u.gets ≡ changed w.gets n h → ((v : ℕ) → value_of u v ≡ value_of w v)
    → ((g : ℕ) → (g == n) ≡ false → (v : ℕ) → (found_by ring u g v ≡ found_by ring w g v) × (replied u.gets g v ≡ replied w.gets g v))
    → ((get : GetNow) (x : GetRecord) → slice_get gets n ≡ Some get → slice_get w.gets n ≡ Some x → GetMeets ring clock w keys n get x → GetMeets ring clock u keys n (f get) (h x))
    → GetsMeet ring clock keys gets w → GetsMeet ring clock keys (changed gets n f) u
changes ring clock keys gets w u n f h is values same both m = record {
  each = length_changed gets n f ∙ m.each ∙ sym (length_changed w.gets n h) ∙ sym (ap (λ (xs : List GetRecord). length xs) is);
  at = λ g get x a b. elim (changed_at gets n g f get a) [
    | inl s ↦ elim (changed_at w.gets n g h x (ap (λ (xs : List GetRecord). slice_get xs g) (sym is) ∙ b)) [
      | inl t ↦ (
          let p = both s.0 t.0 s.2 t.2 (m.at n s.0 t.0 s.2 t.2) in
          subst (λ (k : ℕ). GetMeets ring clock u keys k get x) (sym s.1)
          (subst (λ (y : GetNow). GetMeets ring clock u keys n y x) s.3 (subst (λ (y : GetRecord). GetMeets ring clock u keys n (f s.0) y) t.3 p)))
      | inr t ↦ absurd (t.0 s.1)
    ]
    | inr s ↦ elim (changed_at w.gets n g h x (ap (λ (xs : List GetRecord). slice_get xs g) (sym is) ∙ b)) [
      | inl t ↦ absurd (s.0 t.1)
      | inr t ↦ stays_get ring clock keys w u g get x (same g (ne_eqb g n s.0)) values (m.at g get x s.1 t.1)
    ]
  ];
}

ended_is : (w : World) (g : ℕ) (x : GetRecord) → slice_get w.gets g ≡ Some x → has_ended w g ≡ is_some x.reply
ended_is w g x e = ap (λ (o : Option GetRecord). is_some (elim o as (λ _. Option (List ℕ)) [ Some y ↦ y.reply | None ↦ None ])) e

-- ---- a read

read_more : (b c : Bool) (o : Option (List ℕ)) (vs : List ℕ) → c ≡ is_some o → (b || c) ≡ is_some (cond b (Some vs) o)
read_more true c o vs e = refl
read_more false c o vs e = e

-- the get has read the slot, and found a merge of what it had found and what shows the slot's puts with the key
pub gets_read : (ring : RingValue) (plan : List Planned) (w u : World) (g i : ℕ) (r : Reply) (clock : ℕ → List Entry) (keys : List (List ℕ)) (gets : List GetNow) (get : GetNow) (at_slot new : List Version)
    → Reached ring plan w → AreClocksOf w clock → answer ring plan w (Read g i) ≡ Ok (u, r) → i < 7 → slice_get gets g ≡ Some get
    → Shows clock (value_of w) at_slot (can_find ring plan w g i) → IsMerge get.found at_slot new
    → GetsMeet ring clock keys gets w → GetsMeet ring clock keys (changed gets g (λ x. record x { read = with_mark x.read i; found = new })) u
unfolding effect guards
gets_read ring plan w u g i r clock keys gets get at_slot new reached made h small there shows merge m =
    let a = answered ring plan w u (Read g i) r h in
    let values : (v : ℕ) → value_of u v ≡ value_of w v = λ v. ap (λ (z : World). value_of z v) (sym a.1) in
    let going : has_ended w g ≡ false = not-true (has_ended w g) (all_met (guards ring plan w (Read g i)) a.0).1.0 in
    changes ring clock keys gets w u g (λ x. record x { read = with_mark x.read i; found = new }) (λ x. record x { found = with_value x.found i (finds ring plan w g i) })
    (ap (λ (z : World). z.gets) (sym a.1)) values
    (λ k ne. get_stays ring plan w u (Read g i) r k h ne)
    (λ now x b c p. (
    let is : Some now ≡ Some get = sym b ∙ there in
    let s : now ≡ get = cc in
    record {
      key = p.key;
      reads = λ j. has_with now.read i j (omega arith) ∙ read_more (j == i) (has_mark now.read j) (x.found j) (finds ring plan w g i) (p.reads j);
      found = other_value clock (value_of w) (value_of u) new (found_by ring u g) (λ v t. values v)
          (read_shows ring plan w u clock (value_of w) g r reached made i now.found at_slot new h p.found shows (subst (λ (z : GetNow). IsMerge z.found at_slot new) (sym s) merge));
      reply = p.reply;
      answered = λ e. absurd (let f = ended_is w g x c in cc);
    }))
    m

-- ---- an end

-- what a get found does not depend on its reply
found_ended : (ring : RingValue) (w : World) (g : ℕ) (vs : List ℕ) (v : ℕ) → found_by ring (record w { gets = changed w.gets g (λ x. record x { reply = Some vs }) }) g v ≡ found_by ring w g v
found_ended ring w g vs v =
    some_same ring.n (has_found (record w { gets = changed w.gets g (λ x. record x { reply = Some vs }) }) g v) (has_found w g v)
    (λ i. ap (λ (o : Option (List ℕ)). elim o [ Some us ↦ has v us | None ↦ false ]) (part_changed (λ (x : GetRecord). x.found i) None w.gets g (λ x. record x { reply = Some vs }) (λ x. refl) g))

-- the get that ends is answered the numbers of what it found
pub gets_answered : (ring : RingValue) (plan : List Planned) (w u : World) (g : ℕ) (r : Reply) (clock : ℕ → List Entry) (keys : List (List ℕ)) (gets : List GetNow) (get : GetNow) (ns : List ℕ)
    → Reached ring plan w → AreClocksOf w clock → answer ring plan w (EndGet g) ≡ Ok (u, r) → slice_get gets g ≡ Some get → ArePuts get.found ns → GetsMeet ring clock keys gets w → r ≡ reply.Answer ns
gets_answered ring plan w u g r clock keys gets get ns reached made h there puts m =
    let x = kept_get ring clock keys gets w g get m there in
    end_reply ring plan w u clock (value_of w) g r get.found reached made h x.2.found ns puts

-- and these are its reply
pub gets_ended : (ring : RingValue) (plan : List Planned) (w u : World) (g : ℕ) (r : Reply) (clock : ℕ → List Entry) (keys : List (List ℕ)) (gets : List GetNow) (get : GetNow) (ns : List ℕ)
    → Reached ring plan w → AreClocksOf w clock → answer ring plan w (EndGet g) ≡ Ok (u, r) → slice_get gets g ≡ Some get → ArePuts get.found ns
    → GetsMeet ring clock keys gets w → GetsMeet ring clock keys (changed gets g (λ x. record x { reply = Some ns })) u
unfolding effect
gets_ended ring plan w u g r clock keys gets get ns reached made h there puts m =
    let a = answered ring plan w u (EndGet g) r h in
    let said : reply.Answer (answers ring w g) ≡ reply.Answer ns = a.2 ∙ gets_answered ring plan w u g r clock keys gets get ns reached made h there puts m in
    let same : answers ring w g ≡ ns = cc in
    let values : (v : ℕ) → value_of u v ≡ value_of w v = λ v. ap (λ (z : World). value_of z v) (sym a.1) in
    changes ring clock keys gets w u g (λ x. record x { reply = Some ns }) (λ x. record x { reply = Some (answers ring w g) })
    (ap (λ (z : World). z.gets) (sym a.1)) values
    (λ k ne. get_stays ring plan w u (EndGet g) r k h ne)
    (λ now x b c p. record {
      key = p.key;
      reads = p.reads;
      found = subst (λ (z : World). Shows clock (value_of z) now.found (found_by ring z g)) a.1
          (other_test clock (value_of w) now.found (found_by ring w g) (found_by ring (effect ring plan w (EndGet g)) g) (λ v. sym (found_ended ring w g (answers ring w g) v)) p.found);
      reply = ap (λ (vs : List ℕ). Some vs) (sym same);
      answered = λ e. other_value clock (value_of w) (value_of u) now.found (replied u.gets g) (λ v t. values v) (end_shows ring plan w u clock (value_of w) g r now.found reached made h p.found);
    })
    m
