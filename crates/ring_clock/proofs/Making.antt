-- One more clock after those of the earlier puts.
use Rattle.std.proofs.Common.{◌≡◌, ◌≢◌, inl, inr, ◌∙◌, ℕ, zero, suc, ◌+◌, ◌<◌, ◌≤◌, true, List, [], ◌∷◌, ◌++◌, length, get_or, refl, sym, ap, subst, arith}
use Rattle.std.specs.Prelude.{◌==◌, Option, Some, None, if◌then◌else◌}
use Rattle.std.proofs.lemmas.Bool.Decides.{eqb_tells}
use Rattle.std.proofs.lemmas.List.{get_or_append_left, length_push, length-append}
use Rattle.std.proofs.lemmas.Bool.{ne_eqb, eq-eqb}
use Rattle.ring_names.specs.Lists.{has}
use Rattle.ring_clock.specs.declared.entry.Entry.{Entry}
use Rattle.ring_clock.specs.declared.causes.Cause.{Cause}
use Rattle.ring_clock.specs.Clock.{counter, IsAtMost}
use Rattle.ring_clock.specs.Causes.{writer_of, seen_by, IsEarlier, IsDirect}
use Rattle.ring_clock.specs.Built.{IsInput, IsNext, IsClockOf, AreClocks, IsLast, with_clock}
use Rattle.ring_clock.proofs.Causing.{Follows, follows}

pub cause_at : (causes : List Cause) (k : ℕ) (c : Cause) → c ≡ get_or causes k c → k < length causes → (writer_of causes k ≡ c.writer.0) × (seen_by causes k ≡ c.seen.items)
cause_at [] k c is h = absurd (omega arith)
cause_at (x ∷ xs) zero c is h = (ap (λ y. y.writer.0) (sym is), ap (λ y. y.seen.items) (sym is))
cause_at (x ∷ xs) (suc k) c is h = cause_at xs k c is (omega arith)

at_end : (xs : List (List Entry)) (y d : List Entry) (n : ℕ) → length xs ≡ n → get_or (xs ++ y ∷ []) n d ≡ y
at_end [] y d zero e = refl
at_end [] y d (suc n) e = absurd (omega arith)
at_end (x ∷ xs) y d zero e = absurd (omega arith)
at_end (x ∷ xs) y d (suc n) e = at_end xs y d n (omega arith)

-- what follows of the clock of a put
pub facts : (causes : List Cause) (clock : ℕ → List Entry) (k : ℕ) → IsClockOf causes clock k → Follows clock (IsDirect causes k) (writer_of causes k) (clock k)
facts causes clock k is = follows clock (IsDirect causes k) (writer_of causes k) is.0 (clock k) is.1 is.2

-- a clock stays where those of no later put change
keep : (causes : List Cause) (clock new : ℕ → List Entry) (k : ℕ) → ((v : ℕ) → v ≤ k → new v ≡ clock v) → IsClockOf causes clock k → IsClockOf causes new k
keep causes clock new k stay is = (
  is.0,
  record {
    above = λ v h. (let theirs = stay v (omega (arith, h.1)) in rw theirs (is.1.above v h));
    from = λ w. elim (is.1.from w) [
      | inl none ↦ inl none
      | inr x ↦ inr (x.0, x.1, (let theirs = stay x.0 (omega (arith, x.1.1)) in rw theirs x.2))
    ];
  },
  (let mine = stay k (omega arith) in rw mine is.2),
)

reach_last : (causes : List Cause) (clock : ℕ → List Entry) (n v w : ℕ) (cause : Cause) (o : Option ℕ) → ((k : ℕ) → k < n → IsClockOf causes clock k) → IsLast causes n w o → writer_of causes n ≡ w → IsDirect causes n v → writer_of causes v ≡ writer_of causes n → (u : ℕ) × IsInput cause o u × IsAtMost (clock v) (clock u)
reach_last causes clock n v w cause None made last writer d one = absurd (last v d.1 (one ∙ writer))
reach_last causes clock n v w cause (Some u) made last writer d one = elim (eqb_tells v u) [
  | inl t ↦ (v, inr (ap (λ x. Some x) (sym t.1)), λ x. omega arith)
  | inr t ↦ (u, inr refl, (facts causes clock u (made u last.0)).above v (omega (arith, last.0, d.0), grind (arith, t.1, last.2 v d.1 (one ∙ writer)), inr (one ∙ writer ∙ sym last.1)))
]

-- a direct predecessor is an input, or its writer's last put is an input and not below the predecessor
reach : (causes : List Cause) (clock : ℕ → List Entry) (n v w : ℕ) (cause : Cause) (o : Option ℕ) → ((k : ℕ) → k < n → IsClockOf causes clock k) → IsLast causes n w o → writer_of causes n ≡ w → seen_by causes n ≡ cause.seen.items → IsDirect causes n v → (u : ℕ) × IsInput cause o u × IsAtMost (clock v) (clock u)
reach causes clock n v w cause o made last writer seen d = elim d.2 [
  | inl saw ↦ (v, inl (subst (λ xs. has v xs ≡ true) seen saw), λ x. omega arith)
  | inr one ↦ reach_last causes clock n v w cause o made last writer d one
]

-- an input is a direct predecessor
input_is : (causes : List Cause) (n v w : ℕ) (cause : Cause) (o : Option ℕ) → IsEarlier causes → n < length causes → IsLast causes n w o → writer_of causes n ≡ w → seen_by causes n ≡ cause.seen.items → IsInput cause o v → IsDirect causes n v
input_is causes n v w cause o earlier h last writer seen x = elim x [
  | inl saw ↦ (let saw_it = subst (λ xs. has v xs ≡ true) (sym seen) saw in (h, earlier n v saw_it, inl saw_it))
  | inr is ↦ (let l = subst (IsLast causes n w) is last in (h, l.0, inr (l.1 ∙ sym writer)))
]

-- the last put of another writer stays the last
stays_last : (causes : List Cause) (n w : ℕ) (o : Option ℕ) → w ≢ writer_of causes n → IsLast causes n w o → IsLast causes (n + 1) w o
stays_last causes n w None apart l = λ v h e. elim (eqb_tells v n) [
  | inl t ↦ apart (sym (subst (λ x. writer_of causes x ≡ w) t.1 e))
  | inr t ↦ l v (grind (arith, t.1)) e
]
stays_last causes n w (Some u) apart l = (
  omega (arith, l.0),
  l.1,
  λ v h e. elim (eqb_tells v n) [
    | inl t ↦ absurd (apart (sym (subst (λ x. writer_of causes x ≡ w) t.1 e)))
    | inr t ↦ l.2 v (grind (arith, t.1)) e
  ],
)

-- a put behind others, whose clock is made of its inputs' clocks
pub grown : (causes : List Cause) (clock new : ℕ → List Entry) (n : ℕ) (cause : Cause) (last : Option ℕ) (c : List Entry) → IsEarlier causes → n < length causes → cause ≡ get_or causes n cause → new n ≡ c → ((v : ℕ) → v < n → new v ≡ clock v) → IsNext clock (IsInput cause last) cause.writer.0 c → ((k : ℕ) → k < n → IsClockOf causes clock k) → IsLast causes n cause.writer.0 last → (k : ℕ) → k < n + 1 → IsClockOf causes new k
grown causes clock new n cause last c earlier h at end old next made lasts k l =
    let told = cause_at causes n cause at h in
    let w = cause.writer.0 in
    let this : IsClockOf causes new n = (
      next.0,
      record {
        above = λ v d. (
            let r = reach causes clock n v w cause last made lasts told.0 told.1 d in
            let theirs = old v d.1 in
            rw theirs (λ x. (let a = r.2 x in let b = next.1.above r.0 r.1 x in omega arith)));
        from = λ x. elim (next.1.from x) [
          | inl none ↦ inl none
          | inr some ↦ (
              let d = input_is causes n some.0 w cause last earlier h lasts told.0 told.1 some.1 in
              let theirs = old some.0 d.1 in
              inr (some.0, d, rw theirs some.2))
        ];
      },
      rw (end, told.0) next.2,
    ) in
    elim (eqb_tells k n) [
      | inl t ↦ subst (IsClockOf causes new) (sym t.1) this
      | inr t ↦ (let less : k < n = grind (arith, t.1) in keep causes clock new k (λ v m. old v (omega arith)) (made k less))
    ]

-- the clocks of the first n puts, and the last put of each writer among them
pub record Made (causes : List Cause) (clocks : List (List Entry)) (n : ℕ) (last : ℕ → Option ℕ) : Type 0 where
  pub each : length clocks ≡ n
  pub clock : (k : ℕ) → k < n → IsClockOf causes (λ v. get_or clocks v []) k
  pub few : (v w : ℕ) → counter (get_or clocks v []) w ≤ n
  pub lasts : (w : ℕ) → IsLast causes n w (last w)

few_more : (clocks : List (List Entry)) (c : List Entry) (n v w : ℕ) → ((u w : ℕ) → counter (get_or clocks u []) w ≤ n) → ((w : ℕ) → counter c w ≤ n + 1) → counter (get_or (clocks ++ c ∷ []) v []) w ≤ n + 1
few_more [] c n zero w few one = one w
few_more [] c n (suc v) w few one = omega arith
few_more (x ∷ xs) c n zero w few one = (let f = few 0 w in omega arith)
few_more (x ∷ xs) c n (suc v) w few one = few_more xs c n v w (λ u. few (suc u)) one

pub made_one : (causes : List Cause) (clocks new : List (List Entry)) (n : ℕ) (cause : Cause) (last later : ℕ → Option ℕ) (c : List Entry) → IsEarlier causes → n < length causes → cause ≡ get_or causes n cause → new ≡ clocks ++ c ∷ [] → IsNext (λ v. get_or clocks v []) (IsInput cause (last cause.writer.0)) cause.writer.0 c → ((w : ℕ) → counter c w ≤ n + 1) → ((w : ℕ) → later w ≡ (if w == cause.writer.0 then Some n else last w)) → Made causes clocks n last → Made causes new (n + 1) later
made_one causes clocks new n cause last later c earlier h at is next few put made =
    let told = cause_at causes n cause at h in
    let w = cause.writer.0 in
    let end : get_or new n [] ≡ c = subst (λ (xs : List (List Entry)). get_or xs n [] ≡ c) (sym is) (at_end clocks c [] n made.each) in
    let old : (v : ℕ) → v < n → get_or new v [] ≡ get_or clocks v [] = λ v l. subst (λ (xs : List (List Entry)). get_or xs v [] ≡ get_or clocks v []) (sym is) (get_or_append_left clocks (c ∷ []) [] v (omega (arith, made.each))) in
    record {
      each = subst (λ (xs : List (List Entry)). length xs ≡ n + 1) (sym is) (length_push clocks c ∙ ap (λ m. m + 1) made.each);
      clock = grown causes (λ v. get_or clocks v []) (λ v. get_or new v []) n cause (last w) c earlier h at end old next made.clock (made.lasts w);
      few = λ v x. subst (λ (xs : List (List Entry)). counter (get_or xs v []) x ≤ n + 1) (sym is) (few_more clocks c n v x made.few few);
      lasts = λ x. elim (eqb_tells x w) [
        | inl t ↦ (
            let is_now : later x ≡ Some n = put x ∙ rw (eq-eqb x w t.1) refl in
            subst (IsLast causes (n + 1) x) (sym is_now) (omega arith, told.0 ∙ sym t.1, λ v l e. omega arith))
        | inr t ↦ (
            let is_now : later x ≡ last x = put x ∙ rw (ne_eqb x w t.1) refl in
            subst (IsLast causes (n + 1) x) (sym is_now) (stays_last causes n x (last x) (λ e. t.1 (e ∙ told.0)) (made.lasts x)))
      ];
    }

-- ---- the same for a put behind a list of others

writer_front : (xs ys : List Cause) (k : ℕ) → k < length xs → writer_of (xs ++ ys) k ≡ writer_of xs k
writer_front [] ys k h = absurd (omega arith)
writer_front (x ∷ xs) ys zero h = refl
writer_front (x ∷ xs) ys (suc k) h = writer_front xs ys k (omega arith)

seen_front : (xs ys : List Cause) (k : ℕ) → k < length xs → seen_by (xs ++ ys) k ≡ seen_by xs k
seen_front [] ys k h = absurd (omega arith)
seen_front (x ∷ xs) ys zero h = refl
seen_front (x ∷ xs) ys (suc k) h = seen_front xs ys k (omega arith)

direct_behind : (xs ys : List Cause) (k v : ℕ) → k < length xs → IsDirect xs k v → IsDirect (xs ++ ys) k v
direct_behind xs ys k v h d =
    let all = length-append xs ys in
    let mine = writer_front xs ys k h in
    let theirs = writer_front xs ys v (omega (arith, d.1)) in
    let saw = seen_front xs ys k h in
    (omega arith, d.1, rw (saw, mine, theirs) d.2)

direct_front : (xs ys : List Cause) (k v : ℕ) → k < length xs → IsDirect (xs ++ ys) k v → IsDirect xs k v
direct_front xs ys k v h d =
    let mine = writer_front xs ys k h in
    let theirs = writer_front xs ys v (omega (arith, d.1)) in
    let saw = seen_front xs ys k h in
    (h, d.1, rw (saw, mine, theirs) at d.2)

clock_behind : (xs ys : List Cause) (clock : ℕ → List Entry) (k : ℕ) → k < length xs → IsClockOf xs clock k → IsClockOf (xs ++ ys) clock k
clock_behind xs ys clock k h is = (
  is.0,
  record {
    above = λ v d. is.1.above v (direct_front xs ys k v h d);
    from = λ w. elim (is.1.from w) [ inl none ↦ inl none | inr x ↦ inr (x.0, direct_behind xs ys k x.0 h x.1, x.2) ];
  },
  (let mine = writer_front xs ys k h in rw mine is.2),
)

last_behind : (xs ys : List Cause) (w : ℕ) (o : Option ℕ) → IsLast xs (length xs) w o → IsLast (xs ++ ys) (length xs) w o
last_behind xs ys w None none = λ v h e. none v h (sym (writer_front xs ys v h) ∙ e)
last_behind xs ys w (Some u) some = (some.0, writer_front xs ys u some.0 ∙ some.1, λ v h e. some.2 v h (sym (writer_front xs ys v h) ∙ e))

at_last : (xs : List Cause) (c : Cause) → c ≡ get_or (xs ++ c ∷ []) (length xs) c
at_last [] c = refl
at_last (x ∷ xs) c = at_last xs c

pub put_behind : (causes : List Cause) (cause : Cause) (clock : ℕ → List Entry) (last : Option ℕ) (c : List Entry) → IsEarlier (causes ++ cause ∷ []) → AreClocks causes clock → IsLast causes (length causes) cause.writer.0 last → IsNext clock (IsInput cause last) cause.writer.0 c → AreClocks (causes ++ cause ∷ []) (with_clock clock (length causes) c)
put_behind causes cause clock last c earlier made lasts next k h =
    let n = length causes in
    let all = causes ++ cause ∷ [] in
    let more : length all ≡ n + 1 = length_push causes cause in
    let end : with_clock clock n c n ≡ c = rw (eq-eqb n n refl) refl in
    let old : (v : ℕ) → v < n → with_clock clock n c v ≡ clock v = λ v l. rw (ne_eqb v n (λ e. omega arith)) refl in
    grown all clock (with_clock clock n c) n cause last c earlier (omega arith) (at_last causes cause) end old next (λ j l. clock_behind causes (cause ∷ []) clock j l (made j l)) (last_behind causes (cause ∷ []) cause.writer.0 last lasts) k (omega arith)
