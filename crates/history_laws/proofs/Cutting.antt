-- A history cut entry by entry.
use Rattle.std.proofs.Common.{◌≡◌, ◌⊎◌, ◌∙◌, inl, inr, ℕ, zero, suc, ◌+◌, ◌<◌, ◌≤◌, Bool, List, [], ◌∷◌, ◌++◌, length, length-append, get_or, drop, refl, sym, ap, arith, append_assoc}
use Rattle.std.proofs.Math.Path.{fun_ext}
use Rattle.std.proofs.lemmas.Bool.{cases_lt, le-leb}
use Rattle.std.specs.Prelude.{Option, Some, None, option_to_list, ◌||◌, nat_le}
use Rattle.ring_names.proofs.Logic.{or_true}
use Rattle.ring_table.specs.Value.{RingValue}
use Rattle.plan_runs.specs.declared.event.Event.{Event}
use Rattle.plan_runs.specs.declared.event.Event.TheVariants.{StartPut, StartGet}
use Rattle.plan_runs.specs.declared.event.Entry.{Entry}
use Rattle.ring_names.specs.declared.choice.Choice.{Choice}
use Rattle.history_laws.specs.Choices.{is_chosen}
use Rattle.history_laws.specs.Parts.{puts_after, gets_after, entry_in, with_entry, all_puts, all_gets, part_after, part_of, is_key_in, is_marked, or_none}
use Rattle.history_laws.specs.Cuts.{CutValue, after_event, entry_next}

-- what is cut so far, and what is still to come, are the part
abbrev pub Cuts : RingValue → (ℕ → Bool) → List Entry → List Entry → List Bool → List Bool → ℕ → Type 0
Cuts ring is_in entries so_far ps gs k = (so_far ++ part_after ring is_in ps gs (drop k entries) ≡ part_after ring is_in [] [] entries) × (length ps ≤ k) × (length gs ≤ k)

one_step : (ring : RingValue) (is_in : ℕ → Bool) (ps gs : List Bool) (x : Entry) (xs : List Entry)
    → part_after ring is_in ps gs (x ∷ xs) ≡ option_to_list (entry_in ring is_in ps gs x) ++ part_after ring is_in (puts_after ring is_in ps x.event) (gets_after ring is_in gs x.event) xs
one_step ring is_in ps gs x xs = by (entry_in ring is_in ps gs x)
  where
    later : List Entry
    later = part_after ring is_in (puts_after ring is_in ps x.event) (gets_after ring is_in gs x.event) xs

    by : (o : Option Entry) → with_entry o later ≡ option_to_list o ++ later
    by (Some y) = refl
    by None = refl

pub puts_grow : (ring : RingValue) (is_in : ℕ → Bool) (ps : List Bool) (e : Event) → length (puts_after ring is_in ps e) ≤ length ps + 1
puts_grow ring is_in ps (StartPut writer key value seen) = (let l = length-append ps (is_key_in ring is_in key ∷ []) in omega arith)
puts_grow ring is_in ps e = omega arith

pub gets_grow : (ring : RingValue) (is_in : ℕ → Bool) (gs : List Bool) (e : Event) → length (gets_after ring is_in gs e) ≤ length gs + 1
gets_grow ring is_in gs (StartGet key) = (let l = length-append gs (is_key_in ring is_in key ∷ []) in omega arith)
gets_grow ring is_in gs e = omega arith

dropped : (xs : List Entry) (k : ℕ) (x : Entry) → k < length xs → x ≡ get_or xs k x → drop k xs ≡ x ∷ drop (k + 1) xs
dropped [] k x l e = absurd (omega arith)
dropped (y ∷ xs) zero x l e = ap (λ z. z ∷ xs) (sym e)
dropped (y ∷ xs) (suc k) x l e = dropped xs k x (omega arith) e ∙ (let f : k + 1 ≡ suc k = omega arith in let g : suc (suc k) ≡ suc k + 1 = omega arith in ap (λ z. x ∷ drop z xs) f ∙ ap (λ z. x ∷ drop z (y ∷ xs)) g)

cuts_next : (ring : RingValue) (is_in : ℕ → Bool) (entries so_far next : List Entry) (ps gs qs hs : List Bool) (k : ℕ) (x : Entry) (o : Option Entry) → k < length entries → x ≡ get_or entries k x
    → o ≡ entry_in ring is_in ps gs x → qs ≡ puts_after ring is_in ps x.event → hs ≡ gets_after ring is_in gs x.event → next ≡ so_far ++ option_to_list o → Cuts ring is_in entries so_far ps gs k → Cuts ring is_in entries next qs hs (k + 1)
cuts_next ring is_in entries so_far next ps gs qs hs k x o l at e q h n c =
    let later : List Entry = part_after ring is_in (puts_after ring is_in ps x.event) (gets_after ring is_in gs x.event) (drop (k + 1) entries) in
    let a : part_after ring is_in ps gs (drop k entries) ≡ option_to_list o ++ later = ap (part_after ring is_in ps gs) (dropped entries k x l at) ∙ (one_step ring is_in ps gs x (drop (k + 1) entries) ∙ ap (λ z. option_to_list z ++ later) (sym e)) in
    let b : next ++ part_after ring is_in qs hs (drop (k + 1) entries) ≡ next ++ later = ap (λ z. next ++ part_after ring is_in z hs (drop (k + 1) entries)) q ∙ ap (λ z. next ++ part_after ring is_in (puts_after ring is_in ps x.event) z (drop (k + 1) entries)) h in
    let d : next ++ later ≡ so_far ++ (option_to_list o ++ later) = ap (λ z. z ++ later) n ∙ append_assoc so_far (option_to_list o) later in
    let lq = puts_grow ring is_in ps x.event in
    let lh = gets_grow ring is_in gs x.event in
    let mq = ap length q in
    let mh = ap length h in
    let c1 : length ps ≤ k = c.1 in
    let c2 : length gs ≤ k = c.2 in
    (b ∙ (d ∙ (ap (λ z. so_far ++ z) (sym a) ∙ c.0)), omega arith, omega arith)

-- a cut of the part that goes on by an entry
pub cut_goes_on : (ring : RingValue) (marks : List Bool) (entries so_far next : List Entry) (old new : CutValue) (k : ℕ) (x : Entry) (o : Option Entry) → k < length entries → x ≡ get_or entries k x
    → o ≡ entry_next old x → new ≡ after_event old x.event → next ≡ so_far ++ option_to_list o
    → (old.ring ≡ ring) × (old.partitions ≡ marks) × Cuts ring (or_none ring (is_marked marks)) entries so_far old.puts old.gets k
    → (new.ring ≡ ring) × (new.partitions ≡ marks) × Cuts ring (or_none ring (is_marked marks)) entries next new.puts new.gets (k + 1)
cut_goes_on ring marks entries so_far next old new k x o l at e a n (r, m, c) =
    let test : CutValue → ℕ → Bool = λ v. or_none v.ring (is_marked v.partitions) in
    let same : test old ≡ or_none ring (is_marked marks) = λ i. or_none (r i) (is_marked (m i)) in
    let found : o ≡ entry_in ring (or_none ring (is_marked marks)) old.puts old.gets x = e ∙ (λ i. entry_in (r i) (same i) old.puts old.gets x) in
    let puts : new.puts ≡ puts_after ring (or_none ring (is_marked marks)) old.puts x.event = ap (λ v. v.puts) a ∙ (λ i. puts_after (r i) (same i) old.puts x.event) in
    let gets : new.gets ≡ gets_after ring (or_none ring (is_marked marks)) old.gets x.event = ap (λ v. v.gets) a ∙ (λ i. gets_after (r i) (same i) old.gets x.event) in
    (ap (λ v. v.ring) a ∙ r, ap (λ v. v.partitions) a ∙ m, cuts_next ring (or_none ring (is_marked marks)) entries so_far next old.puts old.gets new.puts new.gets k x o l at found puts gets n c)

nothing_more : (xs : List Entry) → xs ≡ xs ++ []
nothing_more [] = refl
nothing_more (x ∷ xs) = ap (λ z. x ∷ z) (nothing_more xs)

pub cut_none : (xs ys : List Entry) (o : Option Entry) → o ≡ None → ys ≡ xs → ys ≡ xs ++ option_to_list o
cut_none xs ys o n e = e ∙ (nothing_more xs ∙ ap (λ z. xs ++ option_to_list z) (sym n))

pub cut_one : (xs ys : List Entry) (x : Entry) (o : Option Entry) → o ≡ Some x → ys ≡ xs ++ x ∷ [] → ys ≡ xs ++ option_to_list o
cut_one xs ys x o n e = e ∙ ap (λ z. xs ++ option_to_list z) (sym n)

-- ---- a history in two

with_more : (o : Option Entry) (xs ys : List Entry) → with_entry o (xs ++ ys) ≡ with_entry o xs ++ ys
with_more (Some x) xs ys = refl
with_more None xs ys = refl

-- the part of a front is a front of the part
pub in_two : (ring : RingValue) (is_in : ℕ → Bool) (xs ys : List Entry) (ps gs : List Bool)
    → part_after ring is_in ps gs (xs ++ ys) ≡ part_after ring is_in ps gs xs ++ part_after ring is_in (all_puts ring is_in ps xs) (all_gets ring is_in gs xs) ys
in_two ring is_in [] ys ps gs = refl
in_two ring is_in (x ∷ xs) ys ps gs =
    let qs = puts_after ring is_in ps x.event in
    let hs = gets_after ring is_in gs x.event in
    ap (with_entry (entry_in ring is_in ps gs x)) (in_two ring is_in xs ys qs hs)
    ∙ with_more (entry_in ring is_in ps gs x) (part_after ring is_in qs hs xs) (part_after ring is_in (all_puts ring is_in qs xs) (all_gets ring is_in hs xs) ys)

-- ---- one entry more

module _ (ring : RingValue) (is_in : ℕ → Bool) where
  pub puts_more : (ps : List Bool) (xs : List Entry) (x : Entry) → all_puts ring is_in ps (xs ++ x ∷ []) ≡ puts_after ring is_in (all_puts ring is_in ps xs) x.event
  puts_more ps [] x = refl
  puts_more ps (y ∷ xs) x = puts_more (puts_after ring is_in ps y.event) xs x

  pub gets_more : (gs : List Bool) (xs : List Entry) (x : Entry) → all_gets ring is_in gs (xs ++ x ∷ []) ≡ gets_after ring is_in (all_gets ring is_in gs xs) x.event
  gets_more gs [] x = refl
  gets_more gs (y ∷ xs) x = gets_more (gets_after ring is_in gs y.event) xs x

one_entry : (o : Option Entry) → with_entry o [] ≡ option_to_list o
one_entry (Some x) = refl
one_entry None = refl

-- the part grows by what the entry is in it
pub part_more : (ring : RingValue) (is_in : ℕ → Bool) (xs : List Entry) (x : Entry)
    → part_of ring is_in (xs ++ x ∷ []) ≡ part_of ring is_in xs ++ option_to_list (entry_in ring (or_none ring is_in) (all_puts ring (or_none ring is_in) [] xs) (all_gets ring (or_none ring is_in) [] xs) x)
part_more ring is_in xs x =
    in_two ring (or_none ring is_in) xs (x ∷ []) [] []
    ∙ ap (λ (l : List Entry). part_of ring is_in xs ++ l) (one_entry (entry_in ring (or_none ring is_in) (all_puts ring (or_none ring is_in) [] xs) (all_gets ring (or_none ring is_in) [] xs) x))

-- ---- the partitions that are marked are those that are chosen

module _ (ring : RingValue) (choice : Choice) (marks : List Bool) (same : (p : ℕ) → p < ring.q → is_marked marks p ≡ is_chosen choice p) where
  pub chosen_same : or_none ring (is_marked marks) ≡ or_none ring (is_chosen choice)
  chosen_same = fun_ext (λ p. by p (cases_lt p ring.q))
    where
      by : (p : ℕ) → (p < ring.q) ⊎ (ring.q ≤ p) → or_none ring (is_marked marks) p ≡ or_none ring (is_chosen choice) p
      by p (inl l) = ap (λ b. b || nat_le ring.q p) (same p l)
      by p (inr l) = rw (le-leb ring.q p l) (or_true (is_marked marks p) ∙ sym (or_true (is_chosen choice p)))

  pub part_same : (xs : List Entry) → part_of ring (is_marked marks) xs ≡ part_of ring (is_chosen choice) xs
  part_same xs = ap (λ t. part_after ring t [] [] xs) chosen_same
