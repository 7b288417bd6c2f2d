-- The steps of a move, and those for which they wait.
use Rattle.std.proofs.Common.{◌≡◌, ◌∙◌, ℕ, suc, zero, ◌+◌, ◌<◌, ◌≤◌, Bool, true, false, List, [], ◌∷◌, ◌++◌, length, get_or, take, drop, inl, inr, refl, sym, ap, arith}
use Rattle.std.specs.Prelude.{Option, Some, None, option_map, slice_get, not, ◌&&◌, ◌||◌, ◌==◌, nat_lt}
use Rattle.std.specs.List.{All, filter, list_all, list_any, take_while, range_with_len}
use Rattle.std.proofs.lemmas.Bool.{and_parts, lt-ltb, ltb-true, eqb-true, or_cases as either}
use Rattle.std.proofs.lemmas.List.{append_assoc, take_all, at_drop_more}
use Rattle.std.proofs.lemmas.List.Elements.{All-nil, All-cons, All-append, All-take, All-filter, All-from_get_or}
use Rattle.std.proofs.lemmas.List.Folds.{list_any_more}
use Rattle.std.proofs.lemmas.List.Sums.{take_while-cons}
use Rattle.ring_names.specs.declared.ids.Slot.{Slot}
use Rattle.ring_names.specs.declared.ids.NodeId.{NodeId}
use Rattle.ring_names.specs.Lists.{has}
use Rattle.ring_table.specs.Value.{RingValue}
use Rattle.texts.specs.Numbers.{ascending}
use Rattle.plan_text.specs.declared.step.Planned.{Planned}
use Rattle.plan_text.specs.Steps.{steps_of, depends, mirror_of}
use Rattle.plan_text.specs.Valid.{IsPlan, EachPlanned}
use Rattle.plan_stage.proofs.Rising.{steps-ascend}
use Rattle.plan_text.proofs.Pushed.{steps_of-within}
use Rattle.plan_text.proofs.Searched.{depends-deps}
use Rattle.plan_moves.specs.declared.movement.Move.{Move}
use Rattle.plan_moves.specs.Moves.{moved_by, served_before, moves_from, moves}
use Rattle.plan_cover.specs.declared.present.Serving.{Serving}
use Rattle.plan_moves.specs.MoveLines.{sets_mirror, move_steps, is_awaited, move_after}
use Rattle.plan_moves.proofs.Ascending.{greater-ascend, front-ascend, equal-numbers, passing-range, has-passing, has-range, has-more}

-- ---- a move's steps

slot-within : (plan : List Planned) (slot : Slot) → All (λ s. s < length plan) (steps_of plan slot)
slot-within plan slot = All-from_get_or (λ s. s < length plan) (steps_of plan slot) 0 (steps_of-within plan slot)

pub later-within : (plan : List Planned) (slot : Slot) (n : ℕ) → All (λ s. s < length plan) (filter (λ s. nat_lt n s) (steps_of plan slot))
later-within plan slot n = All-filter (λ s. nat_lt n s) (λ s. s < length plan) (steps_of plan slot) (slot-within plan slot)

pub move-ascends : (plan : List Planned) (m : Move) → ascending (move_steps plan m) ≡ true
move-ascends plan m = front-ascend (λ s. not (sets_mirror plan s)) m.mirror (filter (λ s. nat_lt m.mirror s) (steps_of plan m.slot)) (greater-ascend m.mirror (steps_of plan m.slot) (steps-ascend plan m.slot))

pub move-within : (plan : List Planned) (m : Move) → m.mirror < length plan → All (λ s. s < length plan) (move_steps plan m)
move-within plan m l =
    let p : ℕ → Bool = λ s. not (sets_mirror plan s) in
    let rest : List ℕ = filter (λ s. nat_lt m.mirror s) (steps_of plan m.slot) in
    All-cons (λ s. s < length plan) m.mirror (take_while p rest) l (All-take (λ s. s < length plan) _ rest (later-within plan m.slot m.mirror))

-- the steps in front of the next mirror, with one more, and with that mirror
pub front-more : (p : ℕ → Bool) (xs front new whole : List ℕ) (i d : ℕ) → i < length xs → p (get_or xs i d) ≡ true → front ++ take_while p (drop i xs) ≡ whole → new ≡ front ++ get_or xs i d ∷ [] → new ++ take_while p (drop (i + 1) xs) ≡ whole
front-more p xs front new whole i d l passes told is =
    let step : take_while p (drop i xs) ≡ get_or xs i d ∷ take_while p (drop (i + 1) xs) =
    at_drop_more (take_while p) xs i d l ∙ take_while-cons p (get_or xs i d) (drop (i + 1) xs) ∙ rw passes refl in
    rw is (append_assoc front (get_or xs i d ∷ []) (take_while p (drop (i + 1) xs)) ∙ ap (λ (l : List ℕ). front ++ l) (sym step) ∙ told)

-- ---- what a move's steps wait for

has-below : (n k : ℕ) (xs : List ℕ) → list_all (λ a. nat_lt a k) xs ≡ true → has n xs ≡ true → n < k
has-below n k [] h e = absurd cc
has-below n k (x ∷ xs) h e =
    let b = and_parts (nat_lt x k) (list_all (λ a. nat_lt a k) xs) h in
    elim (either (n == x) (has n xs) e) [
      | inl is ↦ (let i = eqb-true n x is in let l = ltb-true x k b.0 in omega arith)
      | inr there ↦ has-below n k xs b.1 there
    ]

earlier : (k : ℕ) (plan : List Planned) (n s : ℕ) → EachPlanned k plan → depends plan n s ≡ true → n < k + length plan
earlier k [] n s each e = absurd cc
earlier k (x ∷ xs) n zero each e = (let l = has-below n k x.after each.0.earlier e in omega arith)
earlier k (x ∷ xs) n (suc s) each e = (let l = earlier (k + 1) xs n s each.1 e in omega arith)

-- what a step waits for is in the plan
pub dependency-within : (plan : List Planned) (s n : ℕ) (ds : List ℕ) → IsPlan plan → option_map (λ (x : Planned). x.after) (slice_get plan s) ≡ Some ds → has n ds ≡ true → n < length plan
dependency-within plan s n ds valid at e = (let l = earlier 0 plan n s valid.each (sym (depends-deps plan n s ds at) ∙ e) in omega arith)

-- numbers that ascend and are those for which the steps wait
pub after-is : (plan : List Planned) (steps found : List ℕ) → ascending found ≡ true → ((n : ℕ) → has n found ≡ true → n < length plan) → ((n : ℕ) → has n found ≡ is_awaited plan steps n) → found ≡ move_after plan steps
after-is plan steps found up within is = equal-numbers found (move_after plan steps) up (passing-range (is_awaited plan steps) (length plan)) (λ n. is n ∙ sym (there n (is_awaited plan steps n) refl))
  where
    inside : (n : ℕ) → is_awaited plan steps n ≡ true → nat_lt n (0 + length plan) ≡ true
    inside n e = (let l = within n (is n ∙ e) in lt-ltb n (0 + length plan) (omega arith))

    none : (b : Bool) → (b && false) ≡ false
    none true = refl
    none false = refl

    there : (n : ℕ) (b : Bool) → is_awaited plan steps n ≡ b → has n (move_after plan steps) ≡ is_awaited plan steps n
    there n true e = has-passing (is_awaited plan steps) (range_with_len 0 (length plan)) n ∙ rw (has-range 0 (length plan) n (omega arith), inside n e) refl
    there n false e = has-passing (is_awaited plan steps) (range_with_len 0 (length plan)) n ∙ rw e (none (has n (range_with_len 0 (length plan))))

-- one more number that is none of the own, and one that is
more-added : (e o t h : Bool) → (e ≡ true → h ≡ false) → (e || (o || (t && not h))) ≡ (o || ((t || e) && not h))
more-added true o t h f = rw (f refl) (all o t)
  where
    all : (o t : Bool) → true ≡ (o || ((t || true) && true))
    all true t = refl
    all false true = refl
    all false false = refl
more-added false o true h f = refl
more-added false o false h f = refl

more-skipped : (e o t h : Bool) → (e ≡ true → h ≡ true) → (o || (t && not h)) ≡ (o || ((t || e) && not h))
more-skipped true o t h f = rw (f refl) (none o t)
  where
    none : (o t : Bool) → (o || (t && false)) ≡ (o || ((t || true) && false))
    none true t = refl
    none false true = refl
    none false false = refl
more-skipped false o true h f = refl
more-skipped false o false h f = refl

pub waits-added : (found new old after own : List ℕ) (i x : ℕ) → i < length after → x ≡ get_or after i 0 → has x own ≡ false → ((n : ℕ) → has n found ≡ (has n old || (has n (take i after) && not (has n own))))
    → ((n : ℕ) → has n new ≡ ((n == x) || has n found)) → (n : ℕ) → has n new ≡ (has n old || (has n (take (i + 1) after) && not (has n own)))
waits-added found new old after own i x l at apart told is n =
    is n ∙ ap (λ (b : Bool). (n == x) || b) (told n) ∙ more-added (n == x) (has n old) (has n (take i after)) (has n own) (λ e. ap (λ (m : ℕ). has m own) (eqb-true n x e) ∙ apart)
    ∙ ap (λ (b : Bool). has n old || (b && not (has n own))) (ap (λ (m : ℕ). has n (take i after) || (n == m)) at ∙ sym (has-more n after i 0 l))

pub waits-skipped : (found old after own : List ℕ) (i x : ℕ) → i < length after → x ≡ get_or after i 0 → has x own ≡ true → ((n : ℕ) → has n found ≡ (has n old || (has n (take i after) && not (has n own))))
    → (n : ℕ) → has n found ≡ (has n old || (has n (take (i + 1) after) && not (has n own)))
waits-skipped found old after own i x l at among told n =
    told n ∙ more-skipped (n == x) (has n old) (has n (take i after)) (has n own) (λ e. ap (λ (m : ℕ). has m own) (eqb-true n x e) ∙ among)
    ∙ ap (λ (b : Bool). has n old || (b && not (has n own))) (ap (λ (m : ℕ). has n (take i after) || (n == m)) at ∙ sym (has-more n after i 0 l))

-- with what one step more waits for
pub awaited-more : (plan : List Planned) (own found new ds : List ℕ) (i n : ℕ) → i < length own → option_map (λ (x : Planned). x.after) (slice_get plan (get_or own i 0)) ≡ Some ds
    → has n found ≡ (list_any (λ s. depends plan n s) (take i own) && not (has n own)) → has n new ≡ (has n found || (has n ds && not (has n own)))
    → has n new ≡ (list_any (λ s. depends plan n s) (take (i + 1) own) && not (has n own))
awaited-more plan own found new ds i n l at told is =
    let front : Bool = list_any (λ s. depends plan n s) (take i own) in
    let other : Bool = not (has n own) in
    is ∙ ap (λ (b : Bool). b || (has n ds && other)) told ∙ ap (λ (b : Bool). (front && other) || (b && other)) (depends-deps plan n (get_or own i 0) ds at)
    ∙ shared front (depends plan n (get_or own i 0)) other ∙ ap (λ (b : Bool). b && other) (sym (list_any_more (λ s. depends plan n s) own i 0 l))
  where
    shared : (a b c : Bool) → ((a && c) || (b && c)) ≡ ((a || b) && c)
    shared true true true = refl
    shared true true false = refl
    shared true false true = refl
    shared true false false = refl
    shared false b c = refl

pub found-within : (plan : List Planned) (own found new ds : List ℕ) (s n : ℕ) → IsPlan plan → option_map (λ (x : Planned). x.after) (slice_get plan s) ≡ Some ds → (has n found ≡ true → n < length plan)
    → has n new ≡ (has n found || (has n ds && not (has n own))) → has n new ≡ true → n < length plan
found-within plan own found new ds s n valid at old is e = elim (either (has n found) (has n ds && not (has n own)) (sym is ∙ e)) [
  | inl h ↦ old h
  | inr h ↦ dependency-within plan s n ds valid at (and_parts (has n ds) (not (has n own)) h).0
]

pub all-awaited : (plan : List Planned) (own found : List ℕ) (i n : ℕ) → length own ≤ i → has n found ≡ (list_any (λ s. depends plan n s) (take i own) && not (has n own)) → has n found ≡ is_awaited plan own n
all-awaited plan own found i n l told = told ∙ ap (λ (xs : List ℕ). list_any (λ s. depends plan n s) xs && not (has n own)) (take_all i own l)

-- ---- the mirrors are steps of the plan

mirror-here : (serve : Slot → Serving) (n k : ℕ) (o : Option (Slot × NodeId)) → n < k
    → All (λ (m : Move). m.mirror < k) (elim o [ Some m ↦ record { slot = m.0; from = (serve m.0).owner; to = m.1; mirror = n } ∷ [] | None ↦ [] ])
mirror-here serve n k None l = All-nil (λ (m : Move). m.mirror < k)
mirror-here serve n k (Some x) l = All-cons (λ (m : Move). m.mirror < k) (record { slot = x.0; from = (serve x.0).owner; to = x.1; mirror = n }) [] l (All-nil (λ (m : Move). m.mirror < k))

mirrors-from : (ring : RingValue) (plan : List Planned) (n k : ℕ) (xs : List Planned) → k ≡ n + length xs → All (λ (m : Move). m.mirror < k) (moves_from ring plan n xs)
mirrors-from ring plan n k [] e = All-nil (λ (m : Move). m.mirror < k)
mirrors-from ring plan n k (x ∷ xs) e =
    All-append (λ (m : Move). m.mirror < k) (moved_by (served_before ring plan n) n x.step) (moves_from ring plan (n + 1) xs) (mirror-here (served_before ring plan n) n k (mirror_of x.step) (omega arith)) (mirrors-from ring plan (n + 1) k xs (omega arith))

pub mirrors-within : (ring : RingValue) (plan : List Planned) → All (λ (m : Move). m.mirror < length plan) (moves ring plan)
mirrors-within ring plan = mirrors-from ring plan 0 (length plan) plan (omega arith)
