-- Each atomic step keeps the rule of a board.
use Rattle.std.proofs.Common.{◌≡◌, ◌≢◌, ◌||◌, ℕ, ◌+◌, ◌<◌, ◌≤◌, true, eqb, List, [], ◌∷◌, ◌++◌, map, length, set, refl, sym, ap, ◌∙◌, subst, inl, inr, ⊎_elim, arith, eq-eqb, ne_eqb, length-set, get_or-set_same, get_or-set_other, Option}
use Rattle.std.specs.Prelude.{sum_by}
use mathlib.Core.Logic.{dite}
use mathlib.Core.Option.{none, some}
use native.Mathlib.Decide.{ℕ_discrete, dec_le}
use lib.ListN.{get_elem?}
use prog.Atomic.{either}
use Rattle.atomic_table.specs.Table.{State, step, keeps, stepped, Allows, Splits, Joins}
use Rattle.atomic_table.proofs.Lists.{at_set, set_else, at_snoc}
use Rattle.std.proofs.lemmas.List.Sums.{sum_by_push}
use Rattle.std.proofs.lemmas.Bool.{or_cases}
use Rattle.ring_names.specs.Lists.{has}
use Rattle.ring_board.specs.declared.view.Mark.{Mark}
use Rattle.ring_board.specs.declared.view.Size.{Size}
use Rattle.ring_board.specs.declared.view.View.{View}
use Rattle.ring_board.specs.Words.{claimed, finished_word, IsWord}
use Rattle.ring_board.specs.Seats.{times}
use Rattle.ring_board.specs.Views.{mark, marked, unmarked, with_held, without_held, with_finished, with_known, with_seen, with_half, half_of, nothing, together}
use Rattle.ring_board.specs.Kept.{once, word_of, Matches, amount, Kept, Sees, Claims, Looks, claims, gives_back, finishes, looks}
use Rattle.ring_board.proofs.Parts.{halves-le, amount-append, none-left, no-halves}
use Rattle.ring_board.proofs.Counts.{sum-set, part-le, once-else, same-once, marked-here, marked-there, marked-append, marked-mine, marked-less, marked-kept, has-times, has-append, once-said, claimed-differ, finished-differ}

abbrev pub Board : Type 0
Board = State (Option (Unit {0})) View

-- the slots that a seat has, which are none
abbrev pub Taken : Type 0
Taken = List (ℕ × Option (Unit {0}))

-- what the rule says of one view
pub sees : (size : Size) (s : Board) (id : ℕ) (v : View) (k : ℕ) → Kept size s → get_elem? s.views id ≡ some v → Sees v k (word_of s.words k)
sees size s id v k kept at =
    record {
      held = λ w small. (let all = kept.held k w small in let part = part-le (λ (u : View). marked k w u.held) s.views id v at in omega arith);
      finished = λ w small. (let all = kept.finished k w small in let part = part-le (λ (u : View). marked k w u.finished) s.views id v at in omega arith);
      known = λ h. kept.known id v at k h;
    }

module _ (list : View → List Mark) (says : ℕ → ℕ) where
  -- a view's marks change as the words do
  abbrev pub Turns : List ℕ → List ℕ → View → View → Type 0
  Turns before after v u =
      (j w : ℕ) → w < 65 → marked j w (list u) + once (word_of before j) (says w) ≡ marked j w (list v) + once (word_of after j) (says w)

  matches : (before after : List ℕ) (views : List View) (id : ℕ) (v u : View) → get_elem? views id ≡ some v → Turns before after v u
      → Matches list says before views → Matches list says after (set views id u)
  matches before after views id v u at turns was j w small =
      let sum = sum-set (λ (x : View). marked j w (list x)) views id v u at in
      let own = turns j w small in
      let all = was j w small in
      omega arith

  -- only the word of step k changes
  pub turns-at : (words : List ℕ) (k n : ℕ) (v u : View) → k + 1 < length words
      → ((w : ℕ) → w < 65 → marked k w (list u) + once (word_of words k) (says w) ≡ marked k w (list v) + once n (says w))
      → ((j w : ℕ) → j ≢ k → marked j w (list u) ≡ marked j w (list v))
      → Turns words (set words (k + 1) n) v u
  turns-at words k n v u long here there j w small =
      dite (ℕ_discrete j k)
      (λ e.
      let is : word_of (set words (k + 1) n) k ≡ n = get_or-set_same words (k + 1) n 0 long in
      let at : once (word_of (set words (k + 1) n) k) (says w) ≡ once n (says w) = ap (λ m. once m (says w)) is in
      let same : marked k w (list u) + once (word_of words k) (says w) ≡ marked k w (list v) + once (word_of (set words (k + 1) n) k) (says w) = here w small ∙ ap (λ m. marked k w (list v) + m) (sym at) in
      subst (λ i. marked i w (list u) + once (word_of words i) (says w) ≡ marked i w (list v) + once (word_of (set words (k + 1) n) i) (says w)) (sym e) same)
      (λ e.
      let ne : j + 1 ≢ k + 1 = (λ f. e (omega arith)) in
      let is : word_of (set words (k + 1) n) j ≡ word_of words j = get_or-set_other words (k + 1) (j + 1) n 0 ne in
      let at : once (word_of (set words (k + 1) n) j) (says w) ≡ once (word_of words j) (says w) = ap (λ m. once m (says w)) is in
      let same = there j w e in
      omega arith)

words-at : (words : List ℕ) (k n : ℕ) (P : ℕ → Type 0) → k + 1 < length words → P n → ((j : ℕ) → P (word_of words j)) → (j : ℕ) → P (word_of (set words (k + 1) n) j)
words-at words k n P long here there j =
    dite (ℕ_discrete j k)
    (λ e. subst (λ i. P (word_of (set words (k + 1) n) i)) (sym e) (subst P (sym (get_or-set_same words (k + 1) n 0 long)) here))
    (λ e. subst P (sym (get_or-set_other words (k + 1) (j + 1) n 0 (λ f. e (omega arith)))) (there j))

done-later : (words : List ℕ) (k n j : ℕ) → k + 1 < length words → (128 ≤ word_of words k → 128 ≤ n) → 128 ≤ word_of words j → 128 ≤ word_of (set words (k + 1) n) j
done-later words k n j long stays done =
    dite (ℕ_discrete j k)
    (λ e.
    let here : 128 ≤ word_of words k = subst (λ i. 128 ≤ word_of words i) e done in
    subst (λ i. 128 ≤ word_of (set words (k + 1) n) i) (sym e) (subst (λ m. 128 ≤ m) (sym (get_or-set_same words (k + 1) n 0 long)) (stays here)))
    (λ e. subst (λ m. 128 ≤ m) (sym (get_or-set_other words (k + 1) (j + 1) n 0 (λ f. e (omega arith)))) done)

known-more : (words : List ℕ) (k : ℕ) (known : List ℕ) → 128 ≤ word_of words k → ((j : ℕ) → has j known ≡ true → 128 ≤ word_of words j) → (j : ℕ) → has j (k ∷ known) ≡ true → 128 ≤ word_of words j
known-more words k known done was j h =
    dite (ℕ_discrete j k)
    (λ e. subst (λ i. 128 ≤ word_of words i) (sym e) done)
    (λ e. was j (sym (ap (λ b. b || has j known) (ne_eqb j k e)) ∙ h))

-- one word and one view change together
moved : (size : Size) (s : Board) (id k n : ℕ) (v u : View) (c : Taken) → Kept size s → get_elem? s.views id ≡ some v → k < size.steps → IsWord size.workers n
    → Turns (λ (x : View). x.held) claimed s.words (set s.words (k + 1) n) v u
    → Turns (λ (x : View). x.finished) finished_word s.words (set s.words (k + 1) n) v u
    → (128 ≤ word_of s.words k → 128 ≤ n)
    → ((j : ℕ) → has j u.known ≡ true → 128 ≤ word_of s.words j)
    → u.parts ≡ v.parts
    → (u.parts ≡ [] → (u.held ≡ []) × (u.finished ≡ []))
    → Kept size (stepped s (k + 1) n id c u keeps)
moved size s id k n v u c kept at below word held finished stays known same spent =
    let count = kept.count in
    let long : k + 1 < length s.words = omega arith in
    let later : (j : ℕ) → 128 ≤ word_of s.words j → 128 ≤ word_of (set s.words (k + 1) n) j = λ j. done-later s.words k n j long stays in
    record {
      spare = get_or-set_other s.words (k + 1) 0 n 0 (λ e. omega arith) ∙ kept.spare;
      count = length-set s.words (k + 1) n ∙ kept.count;
      words = words-at s.words k n (IsWord size.workers) long word kept.words;
      held = matches (λ (x : View). x.held) claimed s.words (set s.words (k + 1) n) s.views id v u at held kept.held;
      finished = matches (λ (x : View). x.finished) finished_word s.words (set s.words (k + 1) n) s.views id v u at finished kept.finished;
      known = λ i x there j has_it. ⊎_elim
          (λ t. later j (known j (subst (λ (y : View). has j y.known ≡ true) (sym t.1) has_it)))
          (λ t. later j (kept.known i x t.1 j has_it))
          (at_set s.views id i u x there);
      once_all = λ d. (let sum = sum-set (λ (x : View). amount d x.parts) s.views id v u at in let own = ap (amount d) same in let all = kept.once_all d in omega arith);
      spent = λ i x there none. ⊎_elim
          (λ t. subst (λ (y : View). (y.held ≡ []) × (y.finished ≡ [])) t.1 (spent (ap (λ (y : View). y.parts) t.1 ∙ none)))
          (λ t. kept.spent i x t.1 none)
          (at_set s.views id i u x there);
    }

-- marks that stay, where the word says the same of each worker as before
unturned : (list : View → List Mark) (says : ℕ → ℕ) (words : List ℕ) (k n : ℕ) (v u : View) → k + 1 < length words → list u ≡ list v
    → ((w : ℕ) → w < 65 → once (word_of words k) (says w) ≡ once n (says w)) → Turns list says words (set words (k + 1) n) v u
unturned list says words k n v u long same again =
    turns-at list says words k n v u long
    (λ w small. let word = again w small in let marks = ap (marked k w) same in omega arith)
    (λ j w _. ap (marked j w) same)

-- where the word stays, what is known done may change
stood : (size : Size) (s : Board) (id k : ℕ) (v u : View) (c : Taken) → Kept size s → get_elem? s.views id ≡ some v → k < size.steps
    → u.held ≡ v.held → u.finished ≡ v.finished → ((j : ℕ) → has j u.known ≡ true → 128 ≤ word_of s.words j) → u.parts ≡ v.parts
    → Kept size (stepped s (k + 1) (word_of s.words k) id c u keeps)
stood size s id k v u c kept at below held finished known same =
    let count = kept.count in
    let long : k + 1 < length s.words = omega arith in
    let n : ℕ = word_of s.words k in
    moved size s id k n v u c kept at below (kept.words k)
    (unturned (λ (x : View). x.held) claimed s.words k n v u long held (λ w _. refl))
    (unturned (λ (x : View). x.finished) finished_word s.words k n v u long finished (λ w _. refl))
    (λ h. h)
    known
    same
    (λ e. (let none = kept.spent id v at (sym same ∙ e) in (held ∙ none.0, finished ∙ none.1)))

spelled : (P : ℕ → ℕ → Type 0) (k w : ℕ) → P k w → (i x : ℕ) → k ≡ i → w ≡ x → P i x
spelled P k w p i x e f = subst (λ (z : ℕ × ℕ). P z.0 z.1) (λ t. (e t, f t)) p

-- the step k is worker w's now, and no worker had it before
won : (size : Size) (s : Board) (id k w : ℕ) (v : View) (c : Taken) → Kept size s → get_elem? s.views id ≡ some v → k < size.steps → w < size.workers → w < 65
    → v.parts ≢ [] → word_of s.words k ≡ 0 → Kept size (stepped s (k + 1) (w + 1) id c (with_held k w v) keeps)
won size s id k w v c kept at below own small some_part free =
    let count = kept.count in
    let long : k + 1 < length s.words = omega arith in
    let u : View = with_held k w v in
    moved size s id k (w + 1) v u c kept at below (inr (w, own, inl refl))
    (turns-at (λ (x : View). x.held) claimed s.words k (w + 1) v u long
    (λ x _.
    let before : once (word_of s.words k) (x + 1) ≡ 0 = once-else (word_of s.words k) (x + 1) (λ e. omega arith) in
    let after = once-said claimed claimed-differ w x in
    let more = marked-here k w x v.held in
    omega arith)
    (λ j x ne. marked-there j k w x v.held ne))
    (unturned (λ (x : View). x.finished) finished_word s.words k (w + 1) v u long refl
    (λ x _. once-else (word_of s.words k) (128 + x) (λ e. omega arith) ∙ sym (once-else (w + 1) (128 + x) (λ e. omega arith))))
    (λ h. absurd (omega arith))
    (λ j h. kept.known id v at j h)
    refl
    (λ e. absurd (some_part e))

module _ (size : Size) (slots id k : ℕ) (below : k < size.steps) where
  -- a claim by compare-exchange
  pub claiming : (w : ℕ) (v : View) (c : Taken) → slots ≡ size.workers → w < size.workers → w < 65 → v.parts ≢ []
      → Allows (Kept size) slots id (v, c) (k + 1) (λ n. either (eqb n 0) (w + 1) n) (claims (step slots (k + 1) 0 (w + 1) none) (v, c))
  claiming w v c same own small some_part s kept _ at _ =
      let n : ℕ = word_of s.words k in
      let word : IsWord slots n = subst (λ m. IsWord m n) (sym same) (kept.words k) in
      let told = sees size s id v k kept at in
      dite (ℕ_discrete n 0)
      (λ free.
      let u : View = with_held k w v in (
        u,
        keeps,
        tt,
        subst (λ b. Kept size (stepped s (k + 1) (either b (w + 1) n) id c u keeps)) (sym (eq-eqb n 0 free)) (won size s id k w v c kept at below own small some_part free),
        λ i x e f. spelled (λ i x. Claims slots (v, c) i x n (u, c)) k w (record { proper = word; sees = told; won = λ _. refl; taken = λ not. absurd (not free) }) i x (omega arith) (omega arith),
      ))
      (λ taken.
      let u : View = with_seen k n v in (
        u,
        keeps,
        tt,
        subst (λ b. Kept size (stepped s (k + 1) (either b (w + 1) n) id c u keeps)) (sym (ne_eqb n 0 taken)) (stood size s id k v u c kept at below refl refl (kept.known id v at) refl),
        λ i x e f. spelled (λ i x. Claims slots (v, c) i x n (u, c)) k w (record { proper = word; sees = told; won = λ free. absurd (taken free); taken = λ _. refl }) i x (omega arith) (omega arith),
      ))

  -- a look by load
  pub looking : (v : View) (c : Taken) → Allows (Kept size) slots id (v, c) (k + 1) (λ n. n) (looks (step slots (k + 1) 0 0 none) (v, c))
  looking v c s kept _ at _ =
      let n : ℕ = word_of s.words k in
      let told = sees size s id v k kept at in
      dite (dec_le 128 n)
      (λ done.
      let u : View = with_known k v in (
        u,
        keeps,
        tt,
        stood size s id k v u c kept at below refl refl (known-more s.words k v.known done (kept.known id v at)) refl,
        λ i e. spelled (λ i _. Looks (v, c) i n (u, c)) k 0 (record { sees = told; done = λ _. refl; undone = λ less. absurd (omega arith) }) i 0 (omega arith) refl,
      ))
      (λ undone. (
        v,
        keeps,
        tt,
        stood size s id k v v c kept at below refl refl (kept.known id v at) refl,
        λ i e. spelled (λ i _. Looks (v, c) i n (v, c)) k 0 (record { sees = told; done = λ h. absurd (undone h); undone = λ _. refl }) i 0 (omega arith) refl,
      ))

-- the word of a step that a worker has
pub had-word : (says : ℕ → ℕ) (ms : List Mark) (k w word : ℕ) (ks : List ℕ) → marked k w ms ≤ once word (says w) → ms ≡ map (λ j. mark j w) ks → has k ks ≡ true → word ≡ says w
had-word says ms k w word ks most own h =
    let mine : marked k w ms ≡ times k ks = ap (marked k w) own ∙ marked-mine k w ks in
    let some = has-times k ks h in
    same-once word (says w) (omega arith)

module _ (size : Size) (s : Board) (id k w : ℕ) (v : View) (c : Taken) (ks : List ℕ) (own : v.held ≡ map (λ j. mark j w) ks) (here : has k ks ≡ true) (kept : Kept size s) (at : get_elem? s.views id ≡ some v) (below : k < size.steps) (small : w < 65) (some_part : v.parts ≢ []) where
  was : word_of s.words k ≡ w + 1
  was = had-word claimed v.held k w (word_of s.words k) ks ((sees size s id v k kept at).held w small) own here

  -- the word becomes one that no worker claims, and the step is held no more
  unheld : (n : ℕ) (f : List Mark) → ((x : ℕ) → x < 65 → once n (x + 1) ≡ 0) → k + 1 < length s.words
      → Turns (λ (x : View). x.held) claimed s.words (set s.words (k + 1) n) v (record v { held = unmarked k v.held; finished = f })
  unheld n f nobody's long =
      let u : View = record v { held = unmarked k v.held; finished = f } in
      turns-at (λ (x : View). x.held) claimed s.words k n v u long
      (λ x low.
      let before : once (word_of s.words k) (x + 1) ≡ once x w = ap (λ m. once m (x + 1)) was ∙ once-said claimed claimed-differ w x in
      let after = nobody's x low in
      let less = subst (λ ms. marked k x (unmarked k ms) + once x w ≡ marked k x ms) (sym own) (marked-less k w x ks here) in
      omega arith)
      (λ j x ne. subst (λ ms. marked j x (unmarked k ms) ≡ marked j x ms) (sym own) (marked-kept j k w x ks here ne))

  freed : Kept size (stepped s (k + 1) 0 id c (without_held k v) keeps)
  freed =
      let count = kept.count in
      let long : k + 1 < length s.words = omega arith in
      let word = was in
      moved size s id k 0 v (without_held k v) c kept at below (inl refl)
      (unheld 0 v.finished (λ x _. once-else 0 (x + 1) (λ e. omega arith)) long)
      (unturned (λ (x : View). x.finished) finished_word s.words k 0 v (without_held k v) long refl
      (λ x _. once-else (word_of s.words k) (128 + x) (λ e. omega arith) ∙ sym (once-else 0 (128 + x) (λ e. omega arith))))
      (λ h. absurd (omega arith))
      (kept.known id v at)
      refl
      (λ e. absurd (some_part e))

  done : w < size.workers → Kept size (stepped s (k + 1) (128 + w) id c (with_finished k w v) keeps)
  done mine =
      let count = kept.count in
      let long : k + 1 < length s.words = omega arith in
      let word = was in
      let u : View = with_finished k w v in
      moved size s id k (128 + w) v u c kept at below (inr (w, mine, inr refl))
      (unheld (128 + w) u.finished (λ x low. once-else (128 + w) (x + 1) (λ e. omega arith)) long)
      (turns-at (λ (x : View). x.finished) finished_word s.words k (128 + w) v u long
      (λ x _.
      let before : once (word_of s.words k) (128 + x) ≡ 0 = once-else (word_of s.words k) (128 + x) (λ e. omega arith) in
      let after = once-said finished_word finished-differ w x in
      let more = marked-here k w x v.finished in
      omega arith)
      (λ j x ne. marked-there j k w x v.finished ne))
      (λ h. omega arith)
      (kept.known id v at)
      refl
      (λ e. absurd (some_part e))

module _ (size : Size) (slots id k w : ℕ) (below : k < size.steps) (small : w < 65) (v : View) (c : Taken) (ks : List ℕ) (own : v.held ≡ map (λ j. mark j w) ks) (here : has k ks ≡ true) (some_part : v.parts ≢ []) where
  -- a step that is held is given back by store
  pub giving : Allows (Kept size) slots id (v, c) (k + 1) (λ _. 0) (λ _. gives_back (step slots (k + 1) 0 0 none) (v, c) 0)
  giving s kept _ at _ = (
    without_held k v,
    keeps,
    tt,
    freed size s id k w v c ks own here kept at below small some_part,
    λ i e. (let k_is : k ≡ i = omega arith in λ t. (without_held (k_is t) v, c)),
  )

  -- a step that is held is finished by store
  pub finishing : w < size.workers → Allows (Kept size) slots id (v, c) (k + 1) (λ _. 128 + w) (λ _. finishes (step slots (k + 1) (128 + w) 0 none) (v, c) (128 + w))
  finishing mine s kept _ at _ = (
    with_finished k w v,
    keeps,
    tt,
    done size s id k w v c ks own here kept at below small some_part mine,
    λ i x e f. (let k_is : k ≡ i = omega arith in let w_is : w ≡ x = omega arith in λ t. (with_finished (k_is t) (w_is t) v, c)),
  )

-- the sum after a view gives a part to a new one
sum-split : (f : View → ℕ) (views : List View) (id : ℕ) (v left right : View) → get_elem? views id ≡ some v → sum_by f (set views id left ++ right ∷ []) + f v ≡ sum_by f views + f left + f right
sum-split f views id v left right at =
    let first = sum-set f views id v left at in
    let second = sum_by_push f (set views id left) right in
    omega arith

-- a seat more, which knows nothing, and has half of what the other has of the board
pub seating : (size : Size) (id : ℕ) (v : View) → Splits (Kept size) id v (with_half v) (half_of v)
seating size id v s kept at =
    let left : View = with_half v in
    let right : View = half_of v in
    record {
      spare = kept.spare;
      count = kept.count;
      words = kept.words;
      held = λ k w small. (let sum = sum-split (λ (x : View). marked k w x.held) s.views id v left right at in let all = kept.held k w small in omega arith);
      finished = λ k w small. (let sum = sum-split (λ (x : View). marked k w x.finished) s.views id v left right at in let all = kept.finished k w small in omega arith);
      known = λ i x there k h. ⊎_elim
          (λ t. ⊎_elim
          (λ r. kept.known id v at k (subst (λ (y : View). has k y.known ≡ true) (sym r.1) h))
          (λ r. kept.known i x r.1 k h)
          (at_set s.views id i left x t))
          (λ e. let empty : has k right.known ≡ true = subst (λ (y : View). has k y.known ≡ true) (sym e) h in absurd cc)
          (at_snoc (set s.views id left) right x i there);
      once_all = λ d. (let sum = sum-split (λ (x : View). amount d x.parts) s.views id v left right at in let cut = halves-le d v.parts in let all = kept.once_all d in omega arith);
      spent = λ i x there none. ⊎_elim
          (λ t. ⊎_elim
          (λ r. subst (λ (y : View). (y.held ≡ []) × (y.finished ≡ [])) r.1 (kept.spent id v at (no-halves v.parts (ap (λ (y : View). y.parts) r.1 ∙ none))))
          (λ r. kept.spent i x r.1 none)
          (at_set s.views id i left x t))
          (λ e. subst (λ (y : View). (y.held ≡ []) × (y.finished ≡ [])) e (refl, refl))
          (at_snoc (set s.views id left) right x i there);
    }

-- the sum after one view takes in another
sum-joined : (f : View → ℕ) (views : List View) (id other : ℕ) (v u b n : View) → get_elem? views id ≡ some v → get_elem? (set views id b) other ≡ some u → f b ≡ f v + f u → f n ≡ 0
    → sum_by f (set (set views id b) other n) ≡ sum_by f views
sum-joined f views id other v u b n at there both empty =
    let first = sum-set f views id v b at in
    let second = sum-set f (set views id b) other u n there in
    omega arith

-- a seat takes in another, which is spent
pub joining : (size : Size) (id : ℕ) (v : View) (other : ℕ) (u : View) → Joins (Kept size) id v other u (together v u) nothing
joining size id v other u s kept at ne there =
    let b : View = together v u in
    let before : get_elem? s.views other ≡ some u = sym (set_else s.views id other b ne) ∙ there in
    record {
      spare = kept.spare;
      count = kept.count;
      words = kept.words;
      held = λ k w small. (sum-joined (λ x. marked k w x.held) s.views id other v u b nothing at there (marked-append k w v.held u.held) refl ∙ kept.held k w small);
      finished = λ k w small. (sum-joined (λ x. marked k w x.finished) s.views id other v u b nothing at there (marked-append k w v.finished u.finished) refl ∙ kept.finished k w small);
      known = λ i x at_i k h. ⊎_elim
          (λ t. let empty : has k nothing.known ≡ true = subst (λ (y : View). has k y.known ≡ true) (sym t.1) h in absurd cc)
          (λ t. ⊎_elim
          (λ r.
          let all : has k (v.known ++ u.known) ≡ true = subst (λ (y : View). has k y.known ≡ true) (sym r.1) h in
          ⊎_elim (kept.known id v at k) (kept.known other u before k) (or_cases (has k v.known) (has k u.known) (sym (has-append k v.known u.known) ∙ all)))
          (λ r. kept.known i x r.1 k h)
          (at_set s.views id i b x t.1))
          (at_set (set s.views id b) other i nothing x at_i);
      once_all = λ d. (let sum = sum-joined (λ (x : View). amount d x.parts) s.views id other v u b nothing at there (amount-append d v.parts u.parts) refl in let all = kept.once_all d in omega arith);
      spent = λ i x at_i none. ⊎_elim
          (λ t. subst (λ (y : View). (y.held ≡ []) × (y.finished ≡ [])) t.1 (refl, refl))
          (λ t. ⊎_elim
          (λ r.
          let apart = none-left v.parts u.parts (ap (λ (y : View). y.parts) r.1 ∙ none) in
          let first = kept.spent id v at apart.0 in
          let second = kept.spent other u before apart.1 in
          subst (λ (y : View). (y.held ≡ []) × (y.finished ≡ [])) r.1 (λ j. first.0 j ++ second.0 j, λ j. first.1 j ++ second.1 j))
          (λ r. kept.spent i x r.1 none)
          (at_set s.views id i b x t.1))
          (at_set (set s.views id b) other i nothing x at_i);
    }
