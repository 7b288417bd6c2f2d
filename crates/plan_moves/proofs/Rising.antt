-- The round of one step more.
use Rattle.std.proofs.Common.{◌≡◌, ◌∙◌, ℕ, suc, zero, ◌+◌, ◌<◌, ◌≤◌, true, List, [], ◌∷◌, ◌++◌, length, Option, Some, None, inl, inr, ◌⊎◌, refl, sym, ap, arith}
use Rattle.std.specs.Prelude.{option_map, slice_get, slice_index, nat_lt, nat_le, max}
use Rattle.std.specs.List.{list_all}
use Rattle.std.proofs.Math.Nat.{max-le}
use Rattle.std.proofs.lemmas.Bool.{ltb-true, lt-ltb, and_parts, leb-true, le-leb}
use Rattle.std.proofs.lemmas.List.{get_or_append_left}
use Rattle.plan_text.specs.declared.step.Planned.{Planned}
use Rattle.plan_text.specs.Valid.{IsPlanned, EachPlanned}
use Rattle.plan_text.specs.declared.step.Step.{Step}
use Rattle.plan_text.specs.declared.step.Step.TheVariants.{Join, Mirror, Copy, Switch, Drop, Retire}
use Rattle.plan_moves.specs.Rounds.{greatest, copies}

-- what is read in front depends only on what stands there
pub greatest-append : (rs ds : List ℕ) (r : ℕ) → list_all (λ d. nat_lt d (length rs)) ds ≡ true → greatest (rs ++ r ∷ []) ds ≡ greatest rs ds
greatest-append rs [] r in_front = refl
greatest-append rs (d ∷ ds) r in_front =
    let p = and_parts (nat_lt d (length rs)) (list_all (λ d. nat_lt d (length rs)) ds) in_front in
    ap (λ v. max v (greatest (rs ++ r ∷ []) ds)) (get_or_append_left rs (r ∷ []) 0 d (ltb-true d (length rs) p.0)) ∙ ap (λ v. max (slice_index rs d) v) (greatest-append rs ds r p.1)

low_at : (rs : List ℕ) (d b : ℕ) → list_all (λ r. nat_le r b) rs ≡ true → slice_index rs d ≤ b
low_at [] d b low = omega arith
low_at (r ∷ rs) zero b low = leb-true r b (and_parts (nat_le r b) (list_all (λ r. nat_le r b) rs) low).0
low_at (r ∷ rs) (suc d) b low = low_at rs d b (and_parts (nat_le r b) (list_all (λ r. nat_le r b) rs) low).1

-- what is read of low values is low
pub greatest-low : (rs ds : List ℕ) (b : ℕ) → list_all (λ r. nat_le r b) rs ≡ true → greatest rs ds ≤ b
greatest-low rs [] b low = omega arith
greatest-low rs (d ∷ ds) b low = max-le (low_at rs d b low) (greatest-low rs ds b low)

-- the steps that a plan's step waits for stand in front of it
planned-at : (k n : ℕ) (plan : List Planned) (x : Planned) → EachPlanned k plan → slice_get plan n ≡ Some x → IsPlanned (k + n) x
planned-at k n [] x each e = absurd cc
planned-at k zero (y ∷ ys) x each e = (let s : y ≡ x = cc in let z : k + zero ≡ k = omega arith in rw (← s, z) each.0)
planned-at k (suc n) (y ∷ ys) x each e = (let z : k + suc n ≡ (k + 1) + n = omega arith in rw z (planned-at (k + 1) n ys x each.1 e))

pub waits-in-front : (n : ℕ) (plan : List Planned) (x : Planned) → EachPlanned 0 plan → slice_get plan n ≡ Some x → list_all (λ d. nat_lt d n) x.after ≡ true
waits-in-front n plan x each e = (let p = planned-at 0 n plan x each e in let z : 0 + n ≡ n = omega arith in rw z at p.earlier)

pub copies-few : (s : Step) → copies s ≤ 1
copies-few (Join x) = omega arith
copies-few (Mirror s x) = omega arith
copies-few (Copy s from) = omega arith
copies-few (Switch s) = omega arith
copies-few (Drop s x) = omega arith
copies-few (Retire x) = omega arith

-- ---- a list with one more behind it

slice-left : (xs : List ℕ) (y k : ℕ) → k < length xs → slice_get (xs ++ y ∷ []) k ≡ slice_get xs k
slice-left [] y k l = absurd (omega arith)
slice-left (x ∷ xs) y zero l = refl
slice-left (x ∷ xs) y (suc k) l = slice-left xs y k (omega arith)

slice-last : (xs : List ℕ) (y : ℕ) → slice_get (xs ++ y ∷ []) (length xs) ≡ Some y
slice-last [] y = refl
slice-last (x ∷ xs) y = slice-last xs y

all-less : (m n : ℕ) (ds : List ℕ) → m ≤ n → list_all (λ d. nat_lt d m) ds ≡ true → list_all (λ d. nat_lt d n) ds ≡ true
all-less m n [] l e = refl
all-less m n (d ∷ ds) l e =
    let p = and_parts (nat_lt d m) (list_all (λ d. nat_lt d m) ds) e in
    let less : d < m = ltb-true d m p.0 in
    rw (lt-ltb d n (let w : d < n = omega arith in w), all-less m n ds l p.1) refl

pub low-next : (n : ℕ) (rs : List ℕ) (r : ℕ) → r ≤ n + 1 → list_all (λ r. nat_le r n) rs ≡ true → list_all (λ r. nat_le r (n + 1)) (rs ++ r ∷ []) ≡ true
low-next n [] r l e = (rw (le-leb r (n + 1) l) refl)
low-next n (x ∷ xs) r l e =
    let p = and_parts (nat_le x n) (list_all (λ r. nat_le r n) xs) e in
    let less : x ≤ n = leb-true x n p.0 in
    rw (le-leb x (n + 1) (let w : x ≤ n + 1 = omega arith in w), low-next n xs r l p.1) refl

-- the steps that a step waits for stand in front of so many rounds
pub deps-in-front : (n m : ℕ) (plan : List Planned) (ds : List ℕ) → EachPlanned 0 plan → option_map (λ (x : Planned). x.after) (slice_get plan n) ≡ Some ds → m ≡ n → list_all (λ d. nat_lt d m) ds ≡ true
deps-in-front n m plan ds each e same = by (slice_get plan n) refl e
  where
    by : (o : Option Planned) → slice_get plan n ≡ o → option_map (λ (x : Planned). x.after) o ≡ Some ds → list_all (λ d. nat_lt d m) ds ≡ true
    by None f g = absurd cc
    by (Some x) f g = (let is : x.after ≡ ds = cc in rw (← is, same) (waits-in-front n plan x each f))

step_is : (o : Option Planned) (x : Planned) (t : Step) → o ≡ Some x → option_map (λ (x : Planned). x.step) o ≡ Some t → x.step ≡ t
step_is None x t e f = absurd cc
step_is (Some y) x t e f = (let a : y ≡ x = cc in let b : y.step ≡ t = cc in ap (λ (x : Planned). x.step) (sym a) ∙ b)

after_is : (o : Option Planned) (x : Planned) (ds : List ℕ) → o ≡ Some x → option_map (λ (x : Planned). x.after) o ≡ Some ds → x.after ≡ ds
after_is None x ds e f = absurd cc
after_is (Some y) x ds e f = (let a : y ≡ x = cc in let b : y.after ≡ ds = cc in ap (λ (x : Planned). x.after) (sym a) ∙ b)

cut : (k n : ℕ) → k < n + 1 → (k < n) ⊎ (k ≡ n)
cut k n l = grind arith

pub rounds-next : (plan : List Planned) (n : ℕ) (found new : List ℕ) (t : Step) (ds : List ℕ) → EachPlanned 0 plan → length found ≡ n
    → ((k : ℕ) (x : Planned) → k < n → slice_get plan k ≡ Some x → slice_get found k ≡ Some (greatest found x.after + copies x.step))
    → option_map (λ (x : Planned). x.step) (slice_get plan n) ≡ Some t → option_map (λ (x : Planned). x.after) (slice_get plan n) ≡ Some ds
    → new ≡ found ++ (greatest found ds + copies t) ∷ []
    → (k : ℕ) (x : Planned) → k < n + 1 → slice_get plan k ≡ Some x → slice_get new k ≡ Some (greatest new x.after + copies x.step)
rounds-next plan n found new t ds planned len each step after is k x l e =
    let r : ℕ = greatest found ds + copies t in
    let in_front : list_all (λ d. nat_lt d (length found)) x.after ≡ true = all-less k (length found) x.after (let w : k ≤ length found = omega arith in w) (waits-in-front k plan x planned e) in
    rw is (elim (cut k n l) [
      | inl h ↦ slice-left found r k (let w : k < length found = omega arith in w) ∙ each k x h e ∙ ap (λ v. Some (v + copies x.step)) (sym (greatest-append found x.after r in_front))
      | inr h ↦ (let at : k ≡ length found = h ∙ sym len in
          let mine : slice_get plan n ≡ Some x = ap (slice_get plan) (sym h) ∙ e in
          ap (slice_get (found ++ r ∷ [])) at ∙ slice-last found r
          ∙ ap (λ (zs : List ℕ). Some (greatest found zs + copies t)) (sym (after_is (slice_get plan n) x ds mine after))
          ∙ ap (λ (s : Step). Some (greatest found x.after + copies s)) (sym (step_is (slice_get plan n) x t mine step))
          ∙ ap (λ v. Some (v + copies x.step)) (sym (greatest-append found x.after r in_front)))
    ])

length-last : (xs : List ℕ) (y : ℕ) → length (xs ++ y ∷ []) ≡ length xs + 1
length-last [] y = refl
length-last (x ∷ xs) y = (let more = length-last xs y in omega arith)

pub length-next : (found new : List ℕ) (r n : ℕ) → new ≡ found ++ r ∷ [] → length found ≡ n → length new ≡ n + 1
length-next found new r n is len = ap (λ (xs : List ℕ). length xs) is ∙ length-last found r ∙ ap (λ x. x + 1) len
