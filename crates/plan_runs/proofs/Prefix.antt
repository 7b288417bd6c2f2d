-- The finished steps of a slot are its first ones.
use Rattle.std.proofs.Common.{◌≡◌, ◌⊎◌, inl, inr, ◌∙◌, ℕ, zero, suc, ◌+◌, ◌<◌, ◌≤◌, Bool, true, false, cond, List, [], ◌∷◌, length, get_or, drop, refl, sym, subst, arith, ltb-true, ltb-false, lt-ltb, get_or-drop, length-drop, eqb-true, eq-eqb}
use Rattle.std.specs.Prelude.{◌==◌, nat_lt}
use Rattle.std.proofs.lemmas.Bool.{or_right as second_of_two, cases_lt, or_cases}
use Rattle.ring_names.specs.Lists.{has}
use Rattle.plan_stage.specs.Parties.{count_below}
use Rattle.plan_runs.specs.World.{count}
use Rattle.plan_runs.specs.Effects.{with_number}

-- ---- tests

-- a number that passes with n is n or passed before
pub passed : (D : ℕ → Bool) (n m : ℕ) → with_number D n m ≡ true → (m ≡ n) ⊎ (D m ≡ true)
passed D n m e = elim (or_cases (m == n) (D m) e) [ inl f ↦ inl (eqb-true m n f) | inr f ↦ inr f ]

-- ---- places

pub found : (e : ℕ) (ss : List ℕ) → has e ss ≡ true → (i : ℕ) × (i < length ss) × (get_or ss i 0 ≡ e)
found e [] h = absurd cc
found e (s ∷ ss) h = elim (or_cases (e == s) (has e ss) h) [
  | inl f ↦ (zero, omega arith, sym (eqb-true e s f))
  | inr f ↦ (let g = found e ss f in (suc g.0, omega arith, g.2))
]

pub found_later : (e k : ℕ) (ss : List ℕ) → has e (drop k ss) ≡ true → (i : ℕ) × (k ≤ i) × (i < length ss) × (get_or ss i 0 ≡ e)
found_later e k ss h =
    let g = found e (drop k ss) h in
    let l : g.0 < length (drop k ss) = g.1 in
    let n = length-drop k ss in
    (k + g.0, omega arith, omega arith, sym (get_or-drop k ss g.0 0) ∙ g.2)

-- ---- first ones

-- each number is smaller than the next
abbrev pub Rises : List ℕ → Type 0
Rises ss = (k : ℕ) → suc k < length ss → get_or ss k 0 < get_or ss (suc k) 0

pub rising : (ss : List ℕ) → Rises ss → (i j : ℕ) → i < j → j < length ss → get_or ss i 0 < get_or ss j 0
rising ss r i zero l m = absurd (omega arith)
rising ss r i (suc j) l m = elim (cases_lt i j) [
  | inl h ↦ (let a = rising ss r i j h (omega arith) in let b = r j m in omega arith)
  | inr h ↦ (let e : i ≡ j = omega arith in rw e (r j m))
]

-- if a number passes, the number before it passes
abbrev pub Down : (ℕ → Bool) → List ℕ → Type 0
Down D ss = (k : ℕ) → suc k < length ss → D (get_or ss (suc k) 0) ≡ true → D (get_or ss k 0) ≡ true

-- the first k pass, and no others
pub record IsPrefix (D : ℕ → Bool) (ss : List ℕ) (k : ℕ) : Type 0 where
  pub within : k ≤ length ss
  pub below : (i : ℕ) → i < k → D (get_or ss i 0) ≡ true
  pub above : (i : ℕ) → k ≤ i → i < length ss → D (get_or ss i 0) ≡ false

longer : (D : ℕ → Bool) (s : ℕ) (ss : List ℕ) (c : ℕ) → IsPrefix D ss c → D s ≡ true → IsPrefix D (s ∷ ss) (c + 1)
longer D s ss c r h = record { within = (let w = r.within in omega arith); below = below; above = above }
  where
    below : (i : ℕ) → i < c + 1 → D (get_or (s ∷ ss) i 0) ≡ true
    below zero l = h
    below (suc i) l = r.below i (omega arith)

    above : (i : ℕ) → c + 1 ≤ i → i < length (s ∷ ss) → D (get_or (s ∷ ss) i 0) ≡ false
    above zero l m = absurd (omega arith)
    above (suc i) l m = r.above i (omega arith) (omega arith)

none : (D : ℕ → Bool) (s : ℕ) (ss : List ℕ) (c : ℕ) → IsPrefix D ss c → D s ≡ false → Down D (s ∷ ss) → IsPrefix D (s ∷ ss) c
none D s ss (suc c) r h down = absurd (let w = r.within in let e = down zero (omega arith) (r.below zero (omega arith)) in cc)
none D s ss zero r h down = record { within = omega arith; below = λ i l. absurd (omega arith); above = above }
  where
    above : (i : ℕ) → zero ≤ i → i < length (s ∷ ss) → D (get_or (s ∷ ss) i 0) ≡ false
    above zero l m = h
    above (suc i) l m = r.above i (omega arith) (omega arith)

pub prefix : (D : ℕ → Bool) (ss : List ℕ) → Down D ss → IsPrefix D ss (count D ss)
prefix D [] down = record { within = omega arith; below = λ i l. absurd (omega arith); above = λ i l m. absurd (omega arith) }
prefix D (s ∷ ss) down = by (D s) refl (prefix D ss (λ k l. down (suc k) (omega arith)))
  where
    by : (b : Bool) → D s ≡ b → IsPrefix D ss (count D ss) → IsPrefix D (s ∷ ss) (cond b (count D ss + 1) (count D ss))
    by true e r = longer D s ss (count D ss) r e
    by false e r = none D s ss (count D ss) r e down

-- ---- the count of those that pass

pub count_same : (D E : ℕ → Bool) (ss : List ℕ) → ((m : ℕ) → has m ss ≡ true → E m ≡ D m) → count E ss ≡ count D ss
count_same D E [] h = refl
count_same D E (s ∷ ss) h =
    let first : E s ≡ D s = h s (rw (eq-eqb s s refl) refl) in
    let rest : count E ss ≡ count D ss = count_same D E ss (λ m e. h m (second_of_two (m == s) (has m ss) e)) in
    rw (first, rest) refl

-- where each that passes the one test passes the other, no fewer pass the other
pub count_in : (D E : ℕ → Bool) (ss : List ℕ) → ((m : ℕ) → has m ss ≡ true → D m ≡ true → E m ≡ true) → count D ss ≤ count E ss
count_in D E [] h = omega arith
count_in D E (s ∷ ss) h = by (D s) (E s) (h s (rw (eq-eqb s s refl) refl)) (count_in D E ss (λ m e. h m (second_of_two (m == s) (has m ss) e)))
  where
    by : (a b : Bool) → (a ≡ true → b ≡ true) → count D ss ≤ count E ss → cond a (count D ss + 1) (count D ss) ≤ cond b (count E ss + 1) (count E ss)
    by false false f l = l
    by false true f l = omega arith
    by true false f l = absurd (let g = f refl in cc)
    by true true f l = omega arith

-- and more do if one passes only the other
pub count_less : (D E : ℕ → Bool) (n : ℕ) (ss : List ℕ) → ((m : ℕ) → has m ss ≡ true → D m ≡ true → E m ≡ true) → has n ss ≡ true → D n ≡ false → E n ≡ true
    → count D ss < count E ss
count_less D E n [] h i off on = absurd cc
count_less D E n (s ∷ ss) h i off on = elim (or_cases (n == s) (has n ss) i) [
  | inl f ↦ (
      let e = eqb-true n s f in
      first (D s) (E s) (subst (λ z. D z ≡ false) e off) (subst (λ z. E z ≡ true) e on) (count_in D E ss (λ m g. h m (second_of_two (m == s) (has m ss) g))))
  | inr f ↦ later (D s) (E s) (h s (rw (eq-eqb s s refl) refl)) (count_less D E n ss (λ m g. h m (second_of_two (m == s) (has m ss) g)) f off on)
]
  where
    first : (a b : Bool) → a ≡ false → b ≡ true → count D ss ≤ count E ss → cond a (count D ss + 1) (count D ss) < cond b (count E ss + 1) (count E ss)
    first true b f g l = absurd cc
    first false true f g l = omega arith
    first false false f g l = absurd cc

    later : (a b : Bool) → (a ≡ true → b ≡ true) → count D ss < count E ss → cond a (count D ss + 1) (count D ss) < cond b (count E ss + 1) (count E ss)
    later false false f l = l
    later false true f l = omega arith
    later true false f l = absurd (let g = f refl in cc)
    later true true f l = omega arith

-- with one more, at place j, the count is one more
pub one_more : (D : ℕ → Bool) (n j : ℕ) (ss : List ℕ) → Rises ss → Down D ss → Down (with_number D n) ss → D n ≡ false → j < length ss → get_or ss j 0 ≡ n → (count D ss ≡ j) × (count (with_number D n) ss ≡ suc j)
one_more D n j ss r d e off l at = (old, new)
  where
    p : IsPrefix D ss (count D ss)
    p = prefix D ss d

    q : IsPrefix (with_number D n) ss (count (with_number D n) ss)
    q = prefix (with_number D n) ss e

    here : with_number D n (get_or ss j 0) ≡ true
    here = rw (eq-eqb (get_or ss j 0) n at) refl

    -- no later place passes with n
    later : (i : ℕ) → j < i → i < length ss → count D ss ≤ i → with_number D n (get_or ss i 0) ≡ true → ⊥
    later i h m c w = elim (passed D n (get_or ss i 0) w) [
      | inl f ↦ (let s = rising ss r j i h m in omega arith)
      | inr f ↦ (let g = p.above i c m in cc)
    ]

    reached : j < count (with_number D n) ss
    reached = elim (cases_lt j (count (with_number D n) ss)) [
      | inl h ↦ h
      | inr h ↦ absurd (let g = q.above j h l in let t = here in cc)
    ]

    old : count D ss ≡ j
    old = elim (cases_lt j (count D ss)) [
      | inl h ↦ absurd (let g = p.below j h in let f : D n ≡ true = rw (← at) g in cc)
      | inr h ↦ elim (cases_lt (count D ss) j) [
        | inl g ↦ absurd (elim (passed D n (get_or ss (count D ss) 0) (q.below (count D ss) (let t = reached in omega arith))) [
          | inl f ↦ (let s = rising ss r (count D ss) j g l in omega arith)
          | inr f ↦ (let k = p.above (count D ss) (omega arith) (omega arith) in cc)
        ])
        | inr g ↦ omega arith
      ]
    ]

    new : count (with_number D n) ss ≡ suc j
    new = elim (cases_lt (suc j) (count (with_number D n) ss)) [
      | inl h ↦ absurd (let w = q.within in let o = old in later (suc j) (omega arith) (omega arith) (omega arith) (q.below (suc j) h))
      | inr h ↦ (let g = reached in omega arith)
    ]

-- ---- the place of a number

pub count_below_is : (n : ℕ) (ss : List ℕ) → count_below n ss ≡ count (λ s. nat_lt s n) ss
count_below_is n [] = refl
count_below_is n (s ∷ ss) = rw (count_below_is n ss) refl

pub place : (ss : List ℕ) (j : ℕ) → Rises ss → j < length ss → count_below (get_or ss j 0) ss ≡ j
place ss j r l = count_below_is n ss ∙ at
  where
    n : ℕ
    n = get_or ss j 0

    p : IsPrefix (λ s. nat_lt s n) ss (count (λ s. nat_lt s n) ss)
    p = prefix (λ s. nat_lt s n) ss (λ k m e. (let a = ltb-true (get_or ss (suc k) 0) n e in let b = r k m in lt-ltb (get_or ss k 0) n (omega arith)))

    at : count (λ s. nat_lt s n) ss ≡ j
    at = elim (cases_lt j (count (λ s. nat_lt s n) ss)) [
      | inl h ↦ absurd (let e = ltb-true n n (p.below j h) in omega arith)
      | inr h ↦ elim (cases_lt (count (λ s. nat_lt s n) ss) j) [
        | inl g ↦ absurd (let e = ltb-false (get_or ss (count (λ s. nat_lt s n) ss) 0) n (p.above (count (λ s. nat_lt s n) ss) (omega arith) (omega arith)) in let s = rising ss r (count (λ s. nat_lt s n) ss) j g l in omega arith)
        | inr g ↦ omega arith
      ]
    ]
