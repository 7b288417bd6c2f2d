-- Seats have parts of a board, which together are the board at most once.
use Rattle.std.proofs.Common.{◌≡◌, ◌≢◌, ℕ, zero, suc, ◌+◌, ◌<◌, ◌≤◌, List, [], ◌∷◌, ◌++◌, refl, sym, ap, arith}
use Rattle.std.specs.Prelude.{sum_by}
use mathlib.Core.Option.{some, some-injective, some-ne-none}
use lib.ListN.{get_elem?}
use Rattle.std.proofs.lemmas.List.Sums.{sum_by-cons, sum_by-append}
use Rattle.ring_board.specs.Seats.{SeatView, parts}
use Rattle.ring_board.specs.Views.{joined, halves}
use Rattle.ring_board.specs.Kept.{amount}
use Rattle.ring_board.proofs.Counts.{part-le}

grows : (d e : ℕ) → parts d e + parts d e ≤ parts (suc d) e
grows zero zero = omega arith
grows zero (suc e) = omega arith
grows (suc d) zero = omega arith
grows (suc d) (suc e) = grows d e

halved : (d e : ℕ) → parts d (suc e) + parts d (suc e) ≤ parts d e
halved zero e = omega arith
halved (suc d) e = grows d e

pub all-some : (d : ℕ) → 0 < parts d 0
all-some zero = omega arith
all-some (suc d) = let before = all-some d in omega arith

amount-grows : (d : ℕ) (es : List ℕ) → amount d es + amount d es ≤ amount (suc d) es
amount-grows d [] = omega arith
amount-grows d (e ∷ es) =
    let one = grows d e in
    let rest = amount-grows d es in
    let before = sum_by-cons (λ e. parts d e) e es in
    let after = sum_by-cons (λ e. parts (suc d) e) e es in
    omega arith

-- two halves are no more than the whole
pub halves-le : (d : ℕ) (es : List ℕ) → amount d (halves es) + amount d (halves es) ≤ amount d es
halves-le d [] = omega arith
halves-le d (e ∷ es) =
    let one = halved d e in
    let rest = halves-le d es in
    let cut = sum_by-cons (λ e. parts d e) (suc e) (halves es) in
    let whole = sum_by-cons (λ e. parts d e) e es in
    omega arith

pub amount-append : (d : ℕ) (es fs : List ℕ) → amount d (es ++ fs) ≡ amount d es + amount d fs
amount-append d es fs = sum_by-append (λ e. parts d e) es fs

-- n deeper than d
abbrev up : ℕ → ℕ → ℕ
up zero d = d
up (suc n) d = suc (up n d)

deep : (e d : ℕ) → parts (up e d) e ≡ parts d 0
deep zero d = refl
deep (suc e) d = deep e d

whole-up : (n d : ℕ) (es : List ℕ) → parts d 0 ≤ amount d es → parts (up n d) 0 ≤ amount (up n d) es
whole-up zero d es h = h
whole-up (suc n) d es h = let before = whole-up n d es h in let more = amount-grows (up n d) es in omega arith

no-parts : (es : List ℕ) (d : ℕ) → ((n : ℕ) → amount (up n d) es ≡ 0) → es ≡ []
no-parts [] d h = refl
no-parts (e ∷ es) d h =
    let none = h e in
    let first = sum_by-cons (λ x. parts (up e d) x) e es in
    let is = deep e d in
    let some = all-some d in
    absurd (omega arith)

-- beside parts that are the whole board there are no others
pub alone : (d : ℕ) (es fs : List ℕ) → parts d 0 ≤ amount d es → ((n : ℕ) → amount n es + amount n fs ≤ parts n 0) → fs ≡ []
alone d es fs whole most = no-parts fs d (λ n. (let all = whole-up n d es whole in let both = most (up n d) in omega arith))

-- the parts of seats that are joined
pub parts-joined : (d : ℕ) (ss : List SeatView) → amount d (joined ss).parts ≡ sum_by (λ s. parts d s.share) ss
parts-joined d [] = refl
parts-joined d (s ∷ ss) =
    let both = amount-append d (joined ss).parts (s.share ∷ []) in
    let one = sum_by-cons (λ e. parts d e) s.share [] in
    let rest = parts-joined d ss in
    let all = sum_by-cons (λ (s : SeatView). parts d s.share) s ss in
    omega arith

pub none-left : (es fs : List ℕ) → es ++ fs ≡ [] → (es ≡ []) × (fs ≡ [])
none-left [] fs e = (refl, e)
none-left (x ∷ es) fs e = absurd cc

pub no-halves : (es : List ℕ) → halves es ≡ [] → es ≡ []
no-halves [] e = refl
no-halves (x ∷ es) e = absurd cc

module _ {X : Type 0} (f : X → ℕ) where
  sum-none : (xs : List X) → ((i : ℕ) (x : X) → get_elem? xs i ≡ some x → f x ≡ 0) → sum_by f xs ≡ 0
  sum-none [] h = refl
  sum-none (z ∷ zs) h =
      let first = h 0 z refl in
      let rest = sum-none zs (λ i x at. h (suc i) x at) in
      let all = sum_by-cons f z zs in
      omega arith

  -- where the other items have nothing, one has all
  pub sum-alone : (xs : List X) (id : ℕ) (b : X) → get_elem? xs id ≡ some b → ((i : ℕ) (x : X) → i ≢ id → get_elem? xs i ≡ some x → f x ≡ 0) → sum_by f xs ≡ f b
  sum-alone [] id b e h = absurd (some-ne-none b (sym e))
  sum-alone (z ∷ zs) zero b e h =
      let is : f z ≡ f b = ap f (some-injective z b e) in
      let rest = sum-none zs (λ i x at. h (suc i) x (λ q. omega arith) at) in
      let all = sum_by-cons f z zs in
      omega arith
  sum-alone (z ∷ zs) (suc id) b e h =
      let first = h 0 z (λ q. omega arith) refl in
      let rest = sum-alone zs id b e (λ i x ne at. h (suc i) x (λ q. ne (omega arith)) at) in
      let all = sum_by-cons f z zs in
      omega arith

  -- two items have no more than all
  pub two-le : (xs : List X) (id i : ℕ) (b x : X) → i ≢ id → get_elem? xs id ≡ some b → get_elem? xs i ≡ some x → f b + f x ≤ sum_by f xs
  two-le [] id i b x ne e g = absurd (some-ne-none b (sym e))
  two-le (z ∷ zs) zero zero b x ne e g = absurd (ne refl)
  two-le (z ∷ zs) zero (suc i) b x ne e g =
      let is : f z ≡ f b = ap f (some-injective z b e) in
      let other = part-le f zs i x g in
      let all = sum_by-cons f z zs in
      omega arith
  two-le (z ∷ zs) (suc id) zero b x ne e g =
      let is : f z ≡ f x = ap f (some-injective z x g) in
      let other = part-le f zs id b e in
      let all = sum_by-cons f z zs in
      omega arith
  two-le (z ∷ zs) (suc id) (suc i) b x ne e g =
      let rest = two-le zs id i b x (λ q. ne (ap suc q)) e g in
      let all = sum_by-cons f z zs in
      omega arith
