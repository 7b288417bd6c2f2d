-- What is before what.
use Rattle.std.proofs.Common.{◌≡◌, inl, inr, ℕ, zero, suc, ◌+◌, ◌<◌, Bool, true, false, cond, List, [], ◌∷◌, length, refl, subst, arith}
use Rattle.std.specs.Prelude.{◌||◌, ◌==◌, nat_lt, nat_le, min, Some, None}
use Rattle.std.specs.List.{list_all}
use Rattle.std.proofs.lemmas.Bool.{ltb-true, and_parts}
use Rattle.std.proofs.lemmas.Bool.Decides.{eqb_tells}
use Rattle.ring_names.specs.Lists.{has}
use Rattle.ring_names.specs.declared.refusal.Refusal.TheVariants.{BadPath}
use Rattle.plan_text.specs.declared.step.Planned.{Planned}
use Rattle.plan_text.specs.Steps.{depends}
use Rattle.plan_text.specs.Valid.{IsPlan, EachPlanned}
use Rattle.plan_order.specs.Before.{Before, direct, through}
use Rattle.plan_order.specs.Paths.{are_links, is_path, first_bad}
use Rattle.std.proofs.lemmas.Bool.{or_cases}
use Rattle.plan_order.specs.declared.facts.Ends.{Ends}
use Rattle.plan_order.specs.Facts.{ends_with, leads, some_leads, has_ends, is_ordered, AreFactsOf}

-- ---- the order

pub join : (plan : List Planned) (a b c : ℕ) → Before plan a b → Before plan b c → Before plan a c
join plan a b c (direct _ _ d) s = through a b c d s
join plan a b c (through _ m _ d r) s = through a m c d (join plan m b c r s)

among_less : (a n : ℕ) (xs : List ℕ) → list_all (λ x. nat_lt x n) xs ≡ true → has a xs ≡ true → a < n
among_less a n [] e h = absurd cc
among_less a n (x ∷ xs) e h =
    let p = and_parts (nat_lt x n) (list_all (λ x. nat_lt x n) xs) e in
    elim (eqb_tells a x) [
      | inl t ↦ (let lt = ltb-true x n p.0 in let same = t.1 in omega arith)
      | inr t ↦ among_less a n xs p.1 (subst (λ b. (b || has a xs) ≡ true) t.0 h)
    ]

depends_less : (k : ℕ) (plan : List Planned) (a b : ℕ) → EachPlanned k plan → depends plan a b ≡ true → a < k + b
depends_less k [] a b each d = absurd cc
depends_less k (x ∷ xs) a zero each d = (let lt = among_less a k x.after each.0.earlier d in omega arith)
depends_less k (x ∷ xs) a (suc b) each d = (let lt = depends_less (k + 1) xs a b each.1 d in omega arith)

pub less : (plan : List Planned) (a b : ℕ) → IsPlan plan → Before plan a b → a < b
less plan a b is (direct _ _ d) = (let lt = depends_less 0 plan a b is.each d in omega arith)
less plan a b is (through _ m _ d r) =
    let first = depends_less 0 plan a m is.each d in
    let rest = less plan m b is r in
    omega arith

-- ---- paths

links : (plan : List Planned) (a b x : ℕ) (rest : List ℕ) → are_links plan (a ∷ x ∷ rest) ≡ true → ends_with b (x ∷ rest) ≡ true → Before plan a b
links plan a b x [] e h = elim (eqb_tells x b) [
  | inl t ↦ subst (λ y. Before plan a y) t.1 (direct a x (and_parts (depends plan a x) true e).0)
  | inr t ↦ absurd cc
]
links plan a b x (y ∷ rest) e h =
    let p = and_parts (depends plan a x) (are_links plan (x ∷ y ∷ rest)) e in
    through a x b p.0 (links plan x b y rest p.1 h)

pub path_before : (plan : List Planned) (a b : ℕ) (path : List ℕ) → is_path plan path ≡ true → leads a b path ≡ true → Before plan a b
path_before plan a b [] e h = absurd cc
path_before plan a b (x ∷ []) e h = absurd cc
path_before plan a b (x ∷ y ∷ rest) e h =
    let p = and_parts (nat_le 2 (length (x ∷ y ∷ rest))) (are_links plan (x ∷ y ∷ rest)) e in
    let q = and_parts (x == a) (ends_with b (y ∷ rest)) h in
    elim (eqb_tells x a) [
      | inl t ↦ subst (λ z. Before plan z b) t.1 (links plan x b y rest p.1 q.1)
      | inr t ↦ absurd cc
    ]

-- ---- the paths that were verified

-- the path among paths that leads from a to b
pub found : (plan : List Planned) (n a b : ℕ) (paths : List (List ℕ)) → first_bad plan n paths ≡ None → some_leads a b paths ≡ true → (path : List ℕ) × (is_path plan path ≡ true) × (leads a b path ≡ true)
found plan n a b [] e h = absurd cc
found plan n a b (path ∷ paths) e h = by (is_path plan path) (leads a b path) refl refl e h (found plan (n + 1) a b paths)
  where
    by : (s t : Bool) → is_path plan path ≡ s → leads a b path ≡ t → cond s (first_bad plan (n + 1) paths) (Some (BadPath (min n 4294967295))) ≡ None → (t || some_leads a b paths) ≡ true
        → (first_bad plan (n + 1) paths ≡ None → some_leads a b paths ≡ true → (p : List ℕ) × (is_path plan p ≡ true) × (leads a b p ≡ true))
        → (p : List ℕ) × (is_path plan p ≡ true) × (leads a b p ≡ true)
    by true true i l f g later = (path, i, l)
    by true false i l f g later = later f g
    by false t i l f g later = absurd cc

-- what the facts say to come before
pub ordered_before : (plan : List Planned) (facts : List Ends) (a b : ℕ) → AreFactsOf plan facts → is_ordered plan facts a b ≡ true → Before plan a b
ordered_before plan facts a b are h = elim (or_cases (depends plan a b) (has_ends a b facts) h) [
  | inl d ↦ direct a b d
  | inr e ↦ (let path = are a b e in path_before plan a b path.0 path.1 path.2)
]
