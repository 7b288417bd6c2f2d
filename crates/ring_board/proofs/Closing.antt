-- What the words say of the seats that were joined, and that no step stands twice.
use Rattle.std.proofs.Common.{◌≡◌, ◌≢◌, inl, inr, ⊎_elim, true, cond, eqb, eq-eqb, ne_eqb, ℕ, zero, suc, ◌+◌, ◌<◌, ◌≤◌, List, [], ◌∷◌, ◌++◌, map, length, get_or, refl, sym, ap, ◌∙◌, subst, arith, Option, Some, None}
use Rattle.std.specs.Prelude.{sum_by, All, Any, Result, Ok, Err, IfOk}
use Rattle.std.specs.List.{AllByRecursion}
use mathlib.Core.Logic.{dite}
use mathlib.Core.Option.{some, some-injective, some-ne-none}
use native.Mathlib.Decide.{ℕ_discrete}
use lib.ListN.{get_elem?}
use Rattle.std.proofs.lemmas.List.{map-append, get_or_default, get_or_at, get_or_append_left}
use Rattle.std.proofs.lemmas.List.Elements.{All-from_recursion}
use Rattle.std.proofs.lemmas.List.Sums.{sum_by-cons}
use Rattle.std.proofs.lemmas.Bool.{or_right, or_left}
use Rattle.atomic_table.specs.Table.{Final, Seen}
use Rattle.ring_names.specs.Lists.{has}
use Rattle.ring_board.specs.declared.view.Mark.{Mark}
use Rattle.ring_board.specs.declared.view.Size.{Size}
use Rattle.ring_board.specs.declared.view.View.{View}
use Rattle.ring_board.specs.Words.{claimed, finished_word, IsWord}
use Rattle.ring_board.specs.Seats.{SeatView, Fits, parts, AreAll, Tells, IsTold, times, held_times, finished_times}
use Rattle.ring_board.specs.Views.{mark, marked, marks_of, view_of, joined, IsSeat}
use Rattle.ring_board.specs.Kept.{once, word_of, amount, Matches, Kept, Sees, Knower}
use Rattle.ring_board.proofs.Counts.{claimed-differ, finished-differ, once-le, once-same, once-else, same-once, marked-here, marked-there, marked-append, marked-own, times-cons, times-append, has-append}
use Rattle.ring_board.proofs.Parts.{alone, parts-joined, sum-alone, two-le}
use Rattle.ring_board.proofs.Steps.{sees}
use Rattle.ring_board.proofs.Seats.{steps-of, fits}

at_get : (xs : List ℕ) (i x : ℕ) → get_elem? xs i ≡ some x → get_or xs i 0 ≡ x
at_get [] i x e = absurd (some-ne-none x (sym e))
at_get (y ∷ ys) zero x e = some-injective y x e
at_get (y ∷ ys) (suc i) x e = at_get ys i x e

-- what is in a list, at its place
pub within : {X : Type 0} (P : X → Type 0) (xs zs : List X) (x : X) → AllByRecursion P (xs ++ x ∷ zs) → P x
within P [] zs x h = h.0
within P (y ∷ xs) zs x h = within P xs zs x h.1

all-fit : (ss : List SeatView) (k word : ℕ) → AllByRecursion IsSeat ss → Sees (joined ss) k word → AllByRecursion (λ s. Fits s k word) ss
all-fit [] k word all h = tt
all-fit (s ∷ ss) k word all h =
    let held = λ (w : ℕ). marked-append k w (joined ss).held (view_of s).held in
    let finished = λ (w : ℕ). marked-append k w (joined ss).finished (view_of s).finished in
    let known = has-append k (joined ss).known s.known in (
      fits s k word all.0
          (record {
            held = λ w small. (let sum = held w in let most = h.held w small in omega arith);
            finished = λ w small. (let sum = finished w in let most = h.finished w small in omega arith);
            known = λ e. h.known (known ∙ or_right (has k (joined ss).known) (has k s.known) e);
          }),
      all-fit ss k word all.1
          (record {
            held = λ w small. (let sum = held w in let most = h.held w small in omega arith);
            finished = λ w small. (let sum = finished w in let most = h.finished w small in omega arith);
            known = λ e. h.known (known ∙ or_left (has k (joined ss).known) (has k s.known) e);
          }),
    )

-- the steps of marks
abbrev steps : List Mark → List ℕ
steps ms = map (λ (m : Mark). m.step) ms

abbrev Few : List Mark → Type 0
Few ms = AllByRecursion (λ (m : Mark). m.worker < 65) ms

never : (k : ℕ) (ms : List Mark) → Few ms → ((w : ℕ) → w < 65 → marked k w ms ≡ 0) → times k (steps ms) ≡ 0
never k [] few h = refl
never k (m ∷ ms) few h =
    dite (ℕ_discrete k m.step)
    (λ e.
    let here : marked k m.worker (mark k m.worker ∷ ms) ≡ once m.worker m.worker + marked k m.worker ms = marked-here k m.worker m.worker ms in
    let one = once-same m.worker m.worker refl in
    let none : marked k m.worker (mark k m.worker ∷ ms) ≡ 0 = subst (λ j. marked k m.worker (mark j m.worker ∷ ms) ≡ 0) (sym e) (h m.worker few.0) in
    absurd (omega arith))
    (λ e.
    let rest = never k ms few.1 (λ w small. sym (marked-there k m.step m.worker w ms e) ∙ h w small) in
    let first = once-else k m.step e in
    let all = times-cons k m.step (steps ms) in
    omega arith)

module _ (says : ℕ → ℕ) (differ : (w x : ℕ) → says w ≡ says x → w ≡ x) (k word : ℕ) where
  -- what each worker has at most as its word says is there once at most
  at-most-once : (ms : List Mark) → Few ms → ((w : ℕ) → w < 65 → marked k w ms ≤ once word (says w)) → times k (steps ms) ≤ 1
  at-most-once [] few h = omega arith
  at-most-once (m ∷ ms) few h =
      let all = times-cons k m.step (steps ms) in
      dite (ℕ_discrete k m.step)
      (λ e.
      let more : (w : ℕ) → marked k w (m ∷ ms) ≡ once w m.worker + marked k w ms = λ w. subst (λ j. marked k w (mark j m.worker ∷ ms) ≡ once w m.worker + marked k w ms) e (marked-here k m.worker w ms) in
      let one = once-same m.worker m.worker refl in
      let mine = more m.worker in
      let most = h m.worker few.0 in
      let is : word ≡ says m.worker = same-once word (says m.worker) (omega arith) in
      let single = once-le word (says m.worker) in
      let rest = never k ms few.1
      (λ w small. dite (ℕ_discrete w m.worker)
      (λ f. subst (λ x. marked k x ms ≡ 0) (sym f) (omega arith))
      (λ f.
      let other = once-else word (says w) (λ g. f (differ w m.worker (sym g ∙ is))) in
      let bound = h w small in
      let part = more w in
      omega arith)) in
      let first = once-same k m.step e in
      omega arith)
      (λ e.
      let rest = at-most-once ms few.1
      (λ w small.
      let bound = h w small in
      let same = marked-there k m.step m.worker w ms e in
      omega arith) in
      let first = once-else k m.step e in
      omega arith)

few-append : (ms ns : List Mark) → Few ms → Few ns → Few (ms ++ ns)
few-append [] ns f g = g
few-append (m ∷ ms) ns f g = (f.0, few-append ms ns f.1 g)

few-marks : (o : Option ℕ) (ks : List ℕ) → ((w : ℕ) → o ≡ Some w → w < 65) → Few (marks_of o ks)
few-marks None ks h = tt
few-marks (Some w) [] h = tt
few-marks (Some w) (k ∷ ks) h = (h w refl, few-marks (Some w) ks h)

-- the marks that lists of seats stand for
abbrev marks : (SeatView → List ℕ) → List SeatView → List Mark
marks list [] = []
marks list (s ∷ ss) = marks list ss ++ marks_of s.worker (list s)

few-all : (list : SeatView → List ℕ) (ss : List SeatView) → AllByRecursion IsSeat ss → Few (marks list ss)
few-all list [] all = tt
few-all list (s ∷ ss) all = few-append (marks list ss) (marks_of s.worker (list s)) (few-all list ss all.1) (few-marks s.worker (list s) (λ w e. (all.0.worker w e).1))

times-all : (list : SeatView → List ℕ) → ((s : SeatView) → IsSeat s → s.worker ≡ None → list s ≡ []) → (k : ℕ) (ss : List SeatView) → AllByRecursion IsSeat ss
    → sum_by (λ s. times k (list s)) ss ≡ times k (steps (marks list ss))
times-all list idle k [] all = refl
times-all list idle k (s ∷ ss) all =
    let first = sum_by-cons (λ (s : SeatView). times k (list s)) s ss in
    let rest = times-all list idle k ss all.1 in
    let own = ap (times k) (steps-of s.worker (list s) (idle s all.0)) in
    let cut = ap (times k) (map-append (λ (m : Mark). m.step) (marks list ss) (marks_of s.worker (list s))) ∙ times-append k (steps (marks list ss)) (steps (marks_of s.worker (list s))) in
    omega arith

same-held : (ss : List SeatView) → marks (λ s. s.held) ss ≡ (joined ss).held
same-held [] = refl
same-held (s ∷ ss) = ap (λ l. l ++ marks_of s.worker s.held) (same-held ss)

same-finished : (ss : List SeatView) → marks (λ s. s.finished) ss ≡ (joined ss).finished
same-finished [] = refl
same-finished (s ∷ ss) = ap (λ l. l ++ marks_of s.worker s.finished) (same-finished ss)

-- a step that stands in the list is there
times-has : (k : ℕ) (ks : List ℕ) → 0 < times k ks → has k ks ≡ true
times-has k [] h = absurd (omega arith)
times-has k (x ∷ xs) h =
    dite (ℕ_discrete k x)
    (λ e. or_left (eqb k x) (has k xs) (eq-eqb k x e))
    (λ e.
    let first = once-else k x e in
    let all = times-cons k x xs in
    or_right (eqb k x) (has k xs) (times-has k xs (omega arith)))

-- a mark of worker w among those of one worker
own-mark : (o : Option ℕ) (ks : List ℕ) (k w : ℕ) → 0 < marked k w (marks_of o ks) → (o ≡ Some w) × (has k ks ≡ true)
own-mark None ks k w h = absurd (omega arith)
own-mark (Some x) ks k w h =
    let all = marked-own k w x ks in
    dite (ℕ_discrete w x)
    (λ e.
    let mine : marked k w (marks_of (Some x) ks) ≡ times k ks = all ∙ ap (λ b. cond b (times k ks) 0) (eq-eqb w x e) in
    (ap Some (sym e), times-has k ks (omega arith)))
    (λ e.
    let none : marked k w (marks_of (Some x) ks) ≡ 0 = all ∙ ap (λ b. cond b (times k ks) 0) (ne_eqb w x e) in
    absurd (omega arith))

any-more : {X : Type 0} (P : X → Type 0) (y : X) (xs : List X) → Any P xs → Any P (y ∷ xs)
any-more P y xs t = (suc t.0, t.1, (let near = t.2 in omega arith), t.3, t.4)

-- a mark among those of all seats is one of a seat
some-seat : (list : SeatView → List ℕ) (k w : ℕ) (ss : List SeatView) → 0 < marked k w (marks list ss) → Any (λ s. (s.worker ≡ Some w) × (has k (list s) ≡ true)) ss
some-seat list k w [] h = absurd (omega arith)
some-seat list k w (s ∷ ss) h =
    let both = marked-append k w (marks list ss) (marks_of s.worker (list s)) in
    dite (ℕ_discrete (marked k w (marks_of s.worker (list s))) 0)
    (λ e. any-more (λ s. (s.worker ≡ Some w) × (has k (list s) ≡ true)) s ss (some-seat list k w ss (omega arith)))
    (λ e. (0, s, omega arith, refl, own-mark s.worker (list s) k w (omega arith)))

any-as : {X : Type 0} (P Q : X → Type 0) (xs : List X) → ((x : X) → P x → Q x) → Any P xs → Any Q xs
any-as P Q xs f t = (t.0, t.1, t.2, t.3, f t.1 t.4)

-- a board that was closed with one seat, which knew what all of its seats knew
module _ (size : Size) (id : ℕ) (m : Knower) (words : List ℕ) (homes : List (Option (Unit {0}))) (last : Final (Seen (Kept size) id m.0) words homes)
    (ss : List SeatView) (all : AllByRecursion IsSeat ss) (whole : m ≡ (joined ss, [])) where
  seen : (k : ℕ) → Sees (joined ss) k (word_of words k)
  seen k = subst (λ (z : View × List ℕ). Sees z.0 k (word_of z.1 k)) (λ i. ((whole i).0, last.2 i)) (sees size last.0 id m.0 k last.1.0 last.1.1)

  pub held-once : (k : ℕ) → held_times k ss ≤ 1
  held-once k =
      let total = times-all (λ s. s.held) (λ s is e. (is.idle e).0) k ss all in
      let once_each = at-most-once claimed claimed-differ k (word_of words k) (marks (λ s. s.held) ss) (few-all (λ s. s.held) ss all)
      (λ w small. subst (λ ms. marked k w ms ≤ once (word_of words k) (claimed w)) (sym (same-held ss)) ((seen k).held w small)) in
      omega arith

  pub finished-once : (k : ℕ) → finished_times k ss ≤ 1
  finished-once k =
      let total = times-all (λ s. s.finished) (λ s is e. (is.idle e).1) k ss all in
      let once_each = at-most-once finished_word finished-differ k (word_of words k) (marks (λ s. s.finished) ss) (few-all (λ s. s.finished) ss all)
      (λ w small. subst (λ ms. marked k w ms ≤ once (word_of words k) (finished_word w)) (sym (same-finished ss)) ((seen k).finished w small)) in
      omega arith

  -- where these are all seats, the others have no part of the board, and so no step
  module _ (few : size.workers ≤ 65) (are_all : AreAll ss) where
    others : (i : ℕ) (x : View) → i ≢ id → get_elem? last.0.views i ≡ some x → (x.held ≡ []) × (x.finished ≡ [])
    others i x ne at =
        let own : (d : ℕ) → amount d m.0.parts ≡ sum_by (λ s. parts d s.share) ss = λ d. ap (λ (z : Knower). amount d z.0.parts) whole ∙ parts-joined d ss in
        let all_parts = are_all.1 in
        let equal = own are_all.0 in
        last.1.0.spent i x at
        (alone are_all.0 m.0.parts x.parts (omega arith)
        (λ n. (let most = last.1.0.once_all n in let two = two-le (λ (v : View). amount n v.parts) last.0.views id i m.0 x ne last.1.1 at in omega arith)))

    all-marks : (list : View → List Mark) (says : ℕ → ℕ) → Matches list says last.0.words last.0.views
        → ((i : ℕ) (x : View) → i ≢ id → get_elem? last.0.views i ≡ some x → list x ≡ []) → (k w : ℕ) → w < 65 → marked k w (list (joined ss)) ≡ once (word_of words k) (says w)
    all-marks list says match none k w small =
        ap (λ (z : Knower). marked k w (list z.0)) (sym whole)
        ∙ sym (sum-alone (λ (v : View). marked k w (list v)) last.0.views id m.0 last.1.1 (λ i x ne at. ap (marked k w) (none i x ne at)))
        ∙ match k w small
        ∙ ap (λ (z : List ℕ). once (word_of z k) (says w)) last.2

    pub each-told : (k : ℕ) → IsTold ss k (word_of words k)
    each-told k =
        let word : IsWord size.workers (word_of words k) = subst (λ (z : List ℕ). IsWord size.workers (word_of z k)) last.2 (last.1.0.words k) in
        ⊎_elim
        (λ e. inl e)
        (λ t.
        let below = t.1 in
        let small : t.0 < 65 = omega arith in
        ⊎_elim
        (λ e.
        let one = once-same (word_of words k) (claimed t.0) e in
        let marks_there = all-marks (λ v. v.held) claimed last.1.0.held (λ i x ne at. (others i x ne at).0) k t.0 small in
        let joined_there = ap (marked k t.0) (same-held ss) in
        inr (any-as (λ s. (s.worker ≡ Some t.0) × (has k s.held ≡ true)) (Tells k (word_of words k)) ss (λ s p. (t.0, p.0, inl (p.1, e))) (some-seat (λ s. s.held) k t.0 ss (omega arith))))
        (λ e.
        let one = once-same (word_of words k) (finished_word t.0) e in
        let marks_there = all-marks (λ v. v.finished) finished_word last.1.0.finished (λ i x ne at. (others i x ne at).1) k t.0 small in
        let joined_there = ap (marked k t.0) (same-finished ss) in
        inr (any-as (λ s. (s.worker ≡ Some t.0) × (has k s.finished ≡ true)) (Tells k (word_of words k)) ss (λ s p. (t.0, p.0, inr (p.1, e))) (some-seat (λ s. s.finished) k t.0 ss (omega arith))))
        t.2)
        word

    pub known-words : (steps : ℕ) (shown : List ℕ) (copied : (k : ℕ) → k < steps → get_or shown k 0 ≡ word_of words k) (k : ℕ) → k < steps → IsTold ss k (get_or shown k 0)
    known-words steps shown copied k below = subst (IsTold ss k) (sym (copied k below)) (each-told k)

  module _ (steps : ℕ) (shown : List ℕ) (copied : (k : ℕ) → k < steps → get_or shown k 0 ≡ word_of words k) where
    pub told : All (λ s. (k : ℕ) → k < steps → Fits s k (get_or shown k 0)) ss
    told i d near k below = subst (Fits (get_or ss i d) k) (sym (copied k below)) (All-from_recursion (λ s. Fits s k (word_of words k)) ss (all-fit ss k (word_of words k) all (seen k)) i d near)

    pub proper : (workers : ℕ) → size.workers ≡ workers → length shown ≡ steps → All (IsWord workers) shown
    proper workers same count k d near =
        let below : k < steps = omega arith in
        let word : IsWord workers (word_of words k) = subst (λ (z : ℕ × List ℕ). IsWord z.0 (word_of z.1 k)) (λ i. (same i, last.2 i)) (last.1.0.words k) in
        subst (IsWord workers) (sym (get_or_default shown k d 0 near ∙ copied k below)) word

-- a fact of an Ok from two others
pub both-ok : {T E : Type 0} (P Q R : T → Type 0) (r : Result T E) → ((v : T) → P v → Q v → R v) → IfOk r P → IfOk r Q → IfOk r R
both-ok P Q R (Ok v) f p q = f v p q
both-ok P Q R (Err e) f p q = tt

-- words that are copied, one more
pub copied-more : (xs ys words : List ℕ) (n w : ℕ) → length xs ≡ n → ys ≡ xs ++ w ∷ [] → get_elem? words (n + 1) ≡ some w
    → ((k : ℕ) → k < n → get_or xs k 0 ≡ get_or words (k + 1) 0) → (k : ℕ) → k < n + 1 → get_or ys k 0 ≡ get_or words (k + 1) 0
copied-more xs ys words n w count is at was k below =
    dite (ℕ_discrete k n)
    (λ e. ap (λ (l : List ℕ). get_or l k 0) is ∙ get_or_at xs w [] 0 k (count ∙ sym e) ∙ sym (at_get words (n + 1) w at) ∙ ap (λ i. get_or words (i + 1) 0) (sym e))
    (λ e.
    let near : k < n = omega arith in
    ap (λ (l : List ℕ). get_or l k 0) is ∙ get_or_append_left xs (w ∷ []) 0 k (omega arith) ∙ was k near)
