-- In every run of a sound plan no node takes part in more open copies than its allowance.
use Rattle.std.proofs.Common.{◌≡◌, ◌≢◌, ◌⊎◌, inl, inr, ◌∙◌, ℕ, ◌≤◌, Bool, true, false, cond, List, [], ◌∷◌, length, refl, sym, ap, subst, arith, eqb-true, eq-eqb}
use Rattle.std.specs.Prelude.{◌&&◌, ◌==◌, Some, None}
use Rattle.ring_names.specs.Lists.{has, all_different}
use Rattle.ring_table.specs.declared.allowance.Side.{Side}
use Rattle.ring_table.specs.Value.{RingValue}
use Rattle.std.proofs.lemmas.Bool.{and_parts, or_right, or_cases}
use Rattle.plan_text.specs.declared.step.Planned.{Planned}
use Rattle.plan_order.specs.Before.{Before}
use Rattle.plan_order.proofs.Reaching.{join}
use Rattle.plan_runs.specs.World.{World, passing_below, copy_at}
use Rattle.plan_check.specs.Safe.{takes_part_now, TransfersAreFew}
use Rattle.plan_cover.specs.Clauses.{in_some}
use Rattle.plan_check.specs.Sound.{IsChain, AreChains, AreCovered, AreSettled, Covers, is_party_of}
use Rattle.plan_runs.specs.Runs.{Always}
use Rattle.plan_check.proofs.Quorums.{without, kept-in, different-without, one-taken, by_equal}
use Rattle.plan_runs.proofs.Passing.{below_is, none_twice, passing_ascend}
use Rattle.plan_check.proofs.Mirrored.{Known, before_ready}
use Rattle.plan_runs.specs.Reached.{Reached}
use Rattle.plan_runs.proofs.Reached.{reached}
use Rattle.plan_check.proofs.Partakers.{party}

-- ---- chains

tail : (plan : List Planned) (a : ℕ) (rest : List ℕ) → IsChain (Before plan) (a ∷ rest) → IsChain (Before plan) rest
tail plan a [] h = tt
tail plan a (b ∷ rest) h = h.1

first_before : (plan : List Planned) (a m : ℕ) (rest : List ℕ) → IsChain (Before plan) (a ∷ rest) → has m rest ≡ true → Before plan a m
first_before plan a m [] h e = absurd cc
first_before plan a m (b ∷ rest) h e = elim (or_cases (m == b) (has m rest) e) [
  | inl f ↦ subst (λ (z : ℕ). Before plan a z) (sym (eqb-true m b f)) h.0
  | inr f ↦ join plan a b m h.0 (first_before plan b m rest h.1 f)
]

-- of two numbers in a chain one comes before the other
one_before : (plan : List Planned) (n m : ℕ) (c : List ℕ) → IsChain (Before plan) c → has n c ≡ true → has m c ≡ true → n ≢ m → Before plan n m ⊎ Before plan m n
one_before plan n m [] h e f ne = absurd cc
one_before plan n m (a ∷ rest) h e f ne = elim (or_cases (n == a) (has n rest) e) [
  | inl i ↦ elim (or_cases (m == a) (has m rest) f) [
    | inl j ↦ absurd (ne (eqb-true n a i ∙ sym (eqb-true m a j)))
    | inr j ↦ inl (subst (λ (z : ℕ). Before plan z m) (sym (eqb-true n a i)) (first_before plan a m rest h j))
  ]
  | inr i ↦ elim (or_cases (m == a) (has m rest) f) [
    | inl j ↦ inr (subst (λ (z : ℕ). Before plan z n) (sym (eqb-true m a j)) (first_before plan a n rest h i))
    | inr j ↦ one_before plan n m rest (tail plan a rest h) i j ne
  ]
]

-- ---- as many numbers as chains

taken_out : (n m : ℕ) (xs : List ℕ) → has m (without n xs) ≡ true → m ≢ n
taken_out n m [] h = absurd cc
taken_out n m (x ∷ xs) h = by_equal n x (λ b. has m (cond b (without n xs) (x ∷ without n xs)) ≡ true → m ≢ n)
    (λ e g. taken_out n m xs g)
    (λ e g. elim (or_cases (m == x) (has m (without n xs)) g) [
      | inl f ↦ (λ i. e (sym i ∙ eqb-true m x f))
      | inr f ↦ taken_out n m xs f
    ]) h

-- one of the numbers is in the chain, or none is
in_chain : (c xs : List ℕ) → ((n : ℕ) × (has n xs ≡ true) × (has n c ≡ true)) ⊎ ((n : ℕ) → has n xs ≡ true → has n c ≡ false)
in_chain c [] = inr (λ n h. absurd cc)
in_chain c (x ∷ xs) = by (has x c) refl (in_chain c xs)
  where
    by : (b : Bool) → has x c ≡ b → ((n : ℕ) × (has n xs ≡ true) × (has n c ≡ true)) ⊎ ((n : ℕ) → has n xs ≡ true → has n c ≡ false)
        → ((n : ℕ) × (has n (x ∷ xs) ≡ true) × (has n c ≡ true)) ⊎ ((n : ℕ) → has n (x ∷ xs) ≡ true → has n c ≡ false)
    by true e r = inl (x, rw (eq-eqb x x refl) refl, e)
    by false e (inl r) = inl (r.0, or_right (r.0 == x) (has r.0 xs) r.1, r.2)
    by false e (inr r) = inr (λ n h. elim (or_cases (n == x) (has n xs) h) [
      | inl f ↦ ap (λ (z : ℕ). has z c) (eqb-true n x f) ∙ e
      | inr f ↦ r n f
    ])

in_rest : (n : ℕ) (c : List ℕ) (cs : List (List ℕ)) → has n c ≡ false → in_some n (c ∷ cs) ≡ true → in_some n cs ≡ true
in_rest n c cs e h = elim (or_cases (has n c) (in_some n cs) h) [ inl f ↦ absurd cc | inr f ↦ f ]

-- if no chain has two of the numbers, there are at most as many numbers as chains
no_more : (plan : List Planned) (test : ℕ → Bool) → ((n m : ℕ) → test n ≡ true → test m ≡ true → Before plan n m → ⊥) → (cs : List (List ℕ)) (xs : List ℕ) → AreChains (Before plan) cs → all_different xs ≡ true
    → ((n : ℕ) → has n xs ≡ true → test n ≡ true) → ((n : ℕ) → has n xs ≡ true → in_some n cs ≡ true) → length xs ≤ length cs
no_more plan test apart [] [] are d t h = omega arith
no_more plan test apart [] (x ∷ xs) are d t h = absurd (let e = h x (rw (eq-eqb x x refl) refl) in cc)
no_more plan test apart (c ∷ cs) xs are d t h = elim (in_chain c xs) [
  | inl f ↦ (
      let n = f.0 in
      let one = one-taken n xs d in
      let rest = no_more plan test apart cs (without n xs) are.1 (different-without n xs d) (λ m e. t m (kept-in n m xs e)) (λ m e. in_rest m c cs (alone n m f.1 f.2 (kept-in n m xs e) (taken_out n m xs e)) (h m (kept-in n m xs e))) in
      omega arith)
  | inr f ↦ (let rest = no_more plan test apart cs xs are.1 d t (λ m e. in_rest m c cs (f m e) (h m e)) in omega arith)
]
  where
    alone : (n m : ℕ) → has n xs ≡ true → has n c ≡ true → has m xs ≡ true → m ≢ n → has m c ≡ false
    alone n m i j e ne = by (has m c) refl
      where
        by : (b : Bool) → has m c ≡ b → b ≡ false
        by false f = refl
        by true f = absurd (elim (one_before plan m n c are.0 f j ne) [ inl b ↦ apart m n (t m e) (t n i) b | inr b ↦ apart n m (t n i) (t m e) b ])

-- ---- the law

-- in a world that is reached, wherever the run began
pub transfers_are_few : (ring : RingValue) (plan : List Planned) → Known ring plan → AreSettled plan (Before plan) → (chains : ℕ → Side → List (List ℕ)) → AreCovered ring plan (Before plan) chains → (w : World) → Reached ring plan w → TransfersAreFew ring plan w
transfers_are_few ring plan k settled chains are_covered w r x side a al =
    let rest = no_more plan test apart (chains x side) (passing_below (length plan) test) covers.linked (none_twice (passing_below (length plan) test) (passing_ascend 0 (length plan) test)) (λ n e. (below_is (length plan) test n e).1) (λ n e. covered n (below_is (length plan) test n e).1) in
    let few = covers.few in
    omega arith
  where
    covers : Covers (Before plan) a (is_party_of ring plan x side) (chains x side)
    covers = are_covered x side a al

    part : ℕ → Bool
    part n = elim (copy_at plan n) [ Some c ↦ takes_part_now ring plan w x side c.0 c.1 | None ↦ false ]

    test : ℕ → Bool
    test n = w.is_open n && part n

    open_one : (n : ℕ) → test n ≡ true → w.is_open n ≡ true
    open_one n e = (and_parts (w.is_open n) (part n) e).0

    -- an open copy comes before no other
    apart : (n m : ℕ) → test n ≡ true → test m ≡ true → Before plan n m → ⊥
    apart n m e f b =
        let done = before_ready plan w.done n m r.closed (r.copies.ready m (open_one m f)) b in
        let off = r.copies.unfinished n (open_one n e) in
        absurd cc

    covered : (n : ℕ) → test n ≡ true → in_some n (chains x side) ≡ true
    covered n e = covers.covered n (party ring plan k settled w n x side r.closed (r.copies.ready n (open_one n e)) (r.copies.unfinished n (open_one n e)) (and_parts (w.is_open n) (part n) e).1)

pub few_always : (ring : RingValue) (plan : List Planned) → Known ring plan → AreSettled plan (Before plan) → (chains : ℕ → Side → List (List ℕ)) → AreCovered ring plan (Before plan) chains → Always ring plan (TransfersAreFew ring plan)
few_always ring plan k settled chains are_covered run w is = transfers_are_few ring plan k settled chains are_covered w (reached ring plan run w is)
