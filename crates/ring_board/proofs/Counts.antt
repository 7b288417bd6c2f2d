-- How often a step stands in a list, as a worker's and at all, and sums over views of which one changes.
use Rattle.std.proofs.Common.{◌≡◌, ◌≢◌, ◌&&◌, ◌||◌, ◌⊎◌, ℕ, zero, suc, ◌+◌, ◌<◌, ◌≤◌, Bool, true, false, cond, eqb, List, [], ◌∷◌, ◌++◌, map, set, refl, sym, ap, ◌∙◌, arith, eq-eqb, ne_eqb}
use Rattle.std.specs.Prelude.{sum_by}
use mathlib.Core.Logic.{dite}
use mathlib.Core.Option.{some, some-injective, some-ne-none}
use native.Mathlib.Decide.{ℕ_discrete}
use lib.ListN.{get_elem?}
use Rattle.std.proofs.lemmas.List.Sums.{sum_by-cons, sum_by-append}
use Rattle.ring_names.specs.Lists.{has}
use Rattle.ring_names.proofs.Logic.{or_assoc}
use Rattle.ring_board.specs.declared.view.Mark.{Mark}
use Rattle.ring_board.specs.Words.{claimed, finished_word}
use Rattle.ring_board.specs.Seats.{removed, times}
use Rattle.ring_board.specs.Views.{mark, marked, unmarked}
use Rattle.ring_board.specs.Kept.{once}

module _ {X : Type 0} (f : X → ℕ) where
  -- the sum after a change of one item
  pub sum-set : (xs : List X) (i : ℕ) (x y : X) → get_elem? xs i ≡ some x → sum_by f (set xs i y) + f x ≡ sum_by f xs + f y
  sum-set [] i x y e = absurd (some-ne-none x (sym e))
  sum-set (z ∷ zs) zero x y e =
      let is : f z ≡ f x = ap f (some-injective z x e) in
      let before = sum_by-cons f z zs in
      let after = sum_by-cons f y zs in
      omega arith
  sum-set (z ∷ zs) (suc i) x y e =
      let rest = sum-set zs i x y e in
      let before = sum_by-cons f z zs in
      let after = sum_by-cons f z (set zs i y) in
      omega arith

  -- no item has more than all
  pub part-le : (xs : List X) (i : ℕ) (x : X) → get_elem? xs i ≡ some x → f x ≤ sum_by f xs
  part-le [] i x e = absurd (some-ne-none x (sym e))
  part-le (z ∷ zs) zero x e =
      let is : f z ≡ f x = ap f (some-injective z x e) in
      let all = sum_by-cons f z zs in
      omega arith
  part-le (z ∷ zs) (suc i) x e =
      let rest = part-le zs i x e in
      let all = sum_by-cons f z zs in
      omega arith

pub once-same : (m n : ℕ) → m ≡ n → once m n ≡ 1
once-same m n e = ap (λ b. cond b 1 0) (eq-eqb m n e)

pub once-else : (m n : ℕ) → m ≢ n → once m n ≡ 0
once-else m n e = ap (λ b. cond b 1 0) (ne_eqb m n e)

-- what stands once is the same
pub same-once : (m n : ℕ) → 0 < once m n → m ≡ n
same-once m n h = dite (ℕ_discrete m n) (λ e. e) (λ e. let none = once-else m n e in absurd (omega arith))

pub once-le : (m n : ℕ) → once m n ≤ 1
once-le m n = dite (ℕ_discrete m n) (λ e. let one = once-same m n e in omega arith) (λ e. let none = once-else m n e in omega arith)

-- the words of two workers are the same where the workers are
pub once-said : (says : ℕ → ℕ) → ((m n : ℕ) → says m ≡ says n → m ≡ n) → (m n : ℕ) → once (says m) (says n) ≡ once n m
once-said says differ m n =
    dite (ℕ_discrete n m)
    (λ e. once-same (says m) (says n) (ap says (sym e)) ∙ sym (once-same n m e))
    (λ e. once-else (says m) (says n) (λ f. e (sym (differ m n f))) ∙ sym (once-else n m e))

pub claimed-differ : (m n : ℕ) → claimed m ≡ claimed n → m ≡ n
claimed-differ m n e = omega arith

pub finished-differ : (m n : ℕ) → finished_word m ≡ finished_word n → m ≡ n
finished-differ m n e = omega arith

-- a mark more, of this step or of another
pub marked-here : (k w x : ℕ) (ms : List Mark) → marked k x (mark k w ∷ ms) ≡ once x w + marked k x ms
marked-here k w x ms =
    sum_by-cons (λ (m : Mark). cond (eqb k m.step && eqb x m.worker) 1 0) (mark k w) ms
    ∙ ap (λ b. cond (b && eqb x w) 1 0 + marked k x ms) (eq-eqb k k refl)

pub marked-there : (j k w x : ℕ) (ms : List Mark) → j ≢ k → marked j x (mark k w ∷ ms) ≡ marked j x ms
marked-there j k w x ms ne =
    sum_by-cons (λ (m : Mark). cond (eqb j m.step && eqb x m.worker) 1 0) (mark k w) ms
    ∙ ap (λ b. cond (b && eqb x w) 1 0 + marked j x ms) (ne_eqb j k ne)
    ∙ omega arith

pub marked-append : (k w : ℕ) (ms ns : List Mark) → marked k w (ms ++ ns) ≡ marked k w ms + marked k w ns
marked-append k w ms ns = sum_by-append (λ (m : Mark). cond (eqb k m.step && eqb w m.worker) 1 0) ms ns

pub times-cons : (k x : ℕ) (xs : List ℕ) → times k (x ∷ xs) ≡ once k x + times k xs
times-cons k x xs = sum_by-cons (λ (y : ℕ). cond (eqb k y) 1 0) x xs

pub times-append : (k : ℕ) (xs ys : List ℕ) → times k (xs ++ ys) ≡ times k xs + times k ys
times-append k xs ys = sum_by-append (λ (y : ℕ). cond (eqb k y) 1 0) xs ys

both : (p b : Bool) (n : ℕ) → cond (p && b) 1 0 + cond b n 0 ≡ cond b (cond p 1 0 + n) 0
both true true n = refl
both false true n = refl
both true false n = refl
both false false n = refl

either-way : (b : Bool) (n : ℕ) → n ≡ cond b n n
either-way true n = refl
either-way false n = refl

-- among the steps of one worker, a step is that worker's as often as it stands there, and no other's
pub marked-own : (k x w : ℕ) (ks : List ℕ) → marked k x (map (λ j. mark j w) ks) ≡ cond (eqb x w) (times k ks) 0
marked-own k x w [] = either-way (eqb x w) 0
marked-own k x w (j ∷ js) =
    sum_by-cons (λ (m : Mark). cond (eqb k m.step && eqb x m.worker) 1 0) (mark j w) (map (λ j. mark j w) js)
    ∙ ap (λ n. cond (eqb k j && eqb x w) 1 0 + n) (marked-own k x w js)
    ∙ both (eqb k j) (eqb x w) (times k js)
    ∙ ap (λ n. cond (eqb x w) n 0) (sym (times-cons k j js))

pub marked-mine : (k w : ℕ) (ks : List ℕ) → marked k w (map (λ j. mark j w) ks) ≡ times k ks
marked-mine k w ks = marked-own k w w ks ∙ ap (λ b. cond b (times k ks) 0) (eq-eqb w w refl)

some-of : (b c : Bool) (n : ℕ) → (c ≡ true → 0 < n) → (b || c) ≡ true → 0 < cond b 1 0 + n
some-of true c n h e = omega arith
some-of false c n h e = let more = h e in omega arith

pub has-times : (k : ℕ) (ks : List ℕ) → has k ks ≡ true → 0 < times k ks
has-times k [] e = absurd cc
has-times k (x ∷ xs) e = let one = some-of (eqb k x) (has k xs) (times k xs) (has-times k xs) e in omega (arith, times-cons k x xs)

cond-map : (b : Bool) (w x : ℕ) (xs ys : List ℕ) (ms : List Mark) → ms ≡ map (λ j. mark j w) ys → cond b (map (λ j. mark j w) xs) (mark x w ∷ ms) ≡ map (λ j. mark j w) (cond b xs (x ∷ ys))
cond-map true w x xs ys ms e = refl
cond-map false w x xs ys ms e = ap (λ l. mark x w ∷ l) e

pub unmarked-own : (k w : ℕ) (ks : List ℕ) → unmarked k (map (λ j. mark j w) ks) ≡ map (λ j. mark j w) (removed k ks)
unmarked-own k w [] = refl
unmarked-own k w (x ∷ xs) = cond-map (eqb k x) w x xs (removed k xs) _ (unmarked-own k w xs)

-- a step less
pub times-removed : (j k : ℕ) (ks : List ℕ) → has k ks ≡ true → times j (removed k ks) + once j k ≡ times j ks
times-removed j k [] e = absurd cc
times-removed j k (x ∷ xs) e =
    let all = times-cons j x xs in
    dite (ℕ_discrete k x)
    (λ same.
    let cut : removed k (x ∷ xs) ≡ xs = ap (λ b. cond b xs (x ∷ removed k xs)) (eq-eqb k x same) in
    let left : times j (removed k (x ∷ xs)) ≡ times j xs = ap (times j) cut in
    let here : once j k ≡ once j x = ap (once j) same in
    omega arith)
    (λ other.
    let cut : removed k (x ∷ xs) ≡ x ∷ removed k xs = ap (λ b. cond b xs (x ∷ removed k xs)) (ne_eqb k x other) in
    let later : has k xs ≡ true = sym (ap (λ b. b || has k xs) (ne_eqb k x other)) ∙ e in
    let rest = times-removed j k xs later in
    let left : times j (removed k (x ∷ xs)) ≡ once j x + times j (removed k xs) = ap (times j) cut ∙ times-cons j x (removed k xs) in
    omega arith)

-- a step that a worker has, and has no more
pub marked-less : (k w x : ℕ) (ks : List ℕ) → has k ks ≡ true → marked k x (unmarked k (map (λ j. mark j w) ks)) + once x w ≡ marked k x (map (λ j. mark j w) ks)
marked-less k w x ks h =
    let cut = ap (marked k x) (unmarked-own k w ks) ∙ marked-own k x w (removed k ks) in
    let whole = marked-own k x w ks in
    let less = times-removed k k ks h in
    let one = once-same k k refl in
    dite (ℕ_discrete x w)
    (λ e.
    let a : cond (eqb x w) (times k (removed k ks)) 0 ≡ times k (removed k ks) = ap (λ b. cond b (times k (removed k ks)) 0) (eq-eqb x w e) in
    let b : cond (eqb x w) (times k ks) 0 ≡ times k ks = ap (λ b. cond b (times k ks) 0) (eq-eqb x w e) in
    let same = once-same x w e in
    omega arith)
    (λ e.
    let a : cond (eqb x w) (times k (removed k ks)) 0 ≡ 0 = ap (λ b. cond b (times k (removed k ks)) 0) (ne_eqb x w e) in
    let b : cond (eqb x w) (times k ks) 0 ≡ 0 = ap (λ b. cond b (times k ks) 0) (ne_eqb x w e) in
    let none = once-else x w e in
    omega arith)

pub marked-kept : (j k w x : ℕ) (ks : List ℕ) → has k ks ≡ true → j ≢ k → marked j x (unmarked k (map (λ i. mark i w) ks)) ≡ marked j x (map (λ i. mark i w) ks)
marked-kept j k w x ks h ne =
    let less = times-removed j k ks h in
    let none = once-else j k ne in
    let same : times j (removed k ks) ≡ times j ks = omega arith in
    ap (marked j x) (unmarked-own k w ks) ∙ marked-own j x w (removed k ks) ∙ ap (λ n. cond (eqb x w) n 0) same ∙ sym (marked-own j x w ks)

pub has-append : (k : ℕ) (xs ys : List ℕ) → has k (xs ++ ys) ≡ (has k xs || has k ys)
has-append k [] ys = refl
has-append k (x ∷ xs) ys = ap (λ b. eqb k x || b) (has-append k xs ys) ∙ or_assoc (eqb k x) (has k xs) (has k ys)
