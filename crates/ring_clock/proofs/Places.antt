-- Counters by place.
use Rattle.std.proofs.Common.{◌≡◌, ◌≢◌, ◌↔◌, ◌∙◌, ◌⊎◌, inl, inr, ℕ, zero, suc, ◌+◌, ◌-◌, ◌*◌, ◌/◌, ◌%◌, ◌<◌, ◌≤◌, List, [], ◌∷◌, length, get_or, refl, sym, subst, arith, ap}
use Rattle.std.specs.Prelude.{max, set, replicate}
use Rattle.std.specs.List.{All}
use Rattle.std.proofs.lemmas.List.Elements.{All-head, All-tail}
use Rattle.std.proofs.lemmas.List.{get_or_past, get_or-set_same, get_or-set_other, get_or-replicate}
use Rattle.std.proofs.lemmas.Bool.{ne_eqb, eq-eqb, cases_lt}
use Rattle.ring_clock.specs.declared.entry.Entry.{Entry}
use Rattle.ring_clock.specs.Clock.{counter, IsAbove, IsClock, IsAtMost}
use Rattle.ring_clock.specs.Groups.{group, group_in, IsOfGroup, IsBlock}
use Rattle.ring_clock.specs.Places.{entry_of, entries_from, IsLow}
use Rattle.ring_clock.proofs.Counting.{by_equal}
use Rattle.ring_clock.proofs.Entries.{here, there, absent, by_writer}
use Rattle.ring_clock.proofs.Groups.{merged_block}

-- a counter of 0 has no entry
none_here : (s c : ℕ) (cs : List ℕ) → c ≡ 0 → entries_from s (c ∷ cs) ≡ entries_from (s + 1) cs
none_here s c cs none = rw (eq-eqb c 0 none) refl

some_here : (s c : ℕ) (cs : List ℕ) → c ≢ 0 → entries_from s (c ∷ cs) ≡ entry_of s c ∷ entries_from (s + 1) cs
some_here s c cs some = rw (ne_eqb c 0 some) refl

-- writers before the first one have no counter
above : (v s : ℕ) (cs : List ℕ) → v < s → IsAbove v (entries_from s cs)
above v s [] less = tt
above v s (c ∷ cs) less = by_equal c 0 (IsAbove v (entries_from s (c ∷ cs)))
    (λ none. subst (IsAbove v) (sym (none_here s c cs none)) (above v (s + 1) cs (omega arith)))
    (λ some. subst (IsAbove v) (sym (some_here s c cs some)) (less, above v (s + 1) cs (omega arith)))

in_order : (s : ℕ) (cs : List ℕ) → IsClock (entries_from s cs)
in_order s [] = tt
in_order s (c ∷ cs) = by_equal c 0 (IsClock (entries_from s (c ∷ cs)))
    (λ none. subst IsClock (sym (none_here s c cs none)) (in_order (s + 1) cs))
    (λ some. subst IsClock (sym (some_here s c cs some)) (omega (arith, some), above s (s + 1) cs (omega arith), in_order (s + 1) cs))

before : (s : ℕ) (cs : List ℕ) (w : ℕ) → w < s → counter (entries_from s cs) w ≡ 0
before s cs w less = absent w (entries_from s cs) w (above w s cs less) (omega arith)

-- the writer's counter stands at its place
placed : (s : ℕ) (cs : List ℕ) (k : ℕ) → counter (entries_from s cs) (s + k) ≡ get_or cs k 0
placed s [] k = refl
placed s (c ∷ cs) zero = by_equal c 0 (counter (entries_from s (c ∷ cs)) (s + 0) ≡ c)
    (λ none. ap (λ es. counter es (s + 0)) (none_here s c cs none) ∙ before (s + 1) cs (s + 0) (omega arith) ∙ sym none)
    (λ some. ap (λ es. counter es (s + 0)) (some_here s c cs some) ∙ here (entry_of s c) (entries_from (s + 1) cs) (s + 0) (omega arith))
placed s (c ∷ cs) (suc k) =
    let on : counter (entries_from (s + 1) cs) (s + suc k) ≡ get_or cs k 0 = subst (λ w. counter (entries_from (s + 1) cs) w ≡ get_or cs k 0) (omega arith) (placed (s + 1) cs k) in
    by_equal c 0 (counter (entries_from s (c ∷ cs)) (s + suc k) ≡ get_or cs k 0)
    (λ none. ap (λ es. counter es (s + suc k)) (none_here s c cs none) ∙ on)
    (λ some. ap (λ es. counter es (s + suc k)) (some_here s c cs some) ∙ there (entry_of s c) (entries_from (s + 1) cs) (s + suc k) (λ is. omega arith) ∙ on)

-- by whether writer w stands before the first one, or at some place
by_place : (s w : ℕ) (P : ℕ → Type 0) → (w < s → P w) → ((k : ℕ) → P (s + k)) → P w
by_place s w P less at = elim (cases_lt w s) [
  | inl l ↦ less l
  | inr le ↦ subst P (omega arith) (at (w - s))
]

-- ---- the counters of a group

of_group : (g : ℕ) (cs : List ℕ) → length cs ≡ 64 → IsOfGroup g (entries_from (64 * g) cs)
of_group g cs all w = by_place (64 * g) w (λ w. group w ≢ g → counter (entries_from (64 * g) cs) w ≡ 0)
    (λ less apart. before (64 * g) cs w less)
    (λ k apart. placed (64 * g) cs k ∙ get_or_past cs k 0 (let le : 64 ≤ k = far g k apart in omega arith))
  where
    far : (g k : ℕ) → (64 * g + k) / 64 ≢ g → 64 ≤ k
    far g k apart = omega arith

pub its_counter : (g : ℕ) (cs : List ℕ) (w : ℕ) → group w ≡ g → get_or cs (w % 64) 0 ≡ counter (entries_from (64 * g) cs) w
its_counter g cs w is = sym (placed (64 * g) cs (w % 64)) ∙ ap (λ v. counter (entries_from (64 * g) cs) v) (omega arith)

pub no_counter : (g : ℕ) (cs : List ℕ) (w : ℕ) → length cs ≡ 64 → group w ≢ g → 0 ≡ counter (entries_from (64 * g) cs) w
no_counter g cs w all apart = sym (of_group g cs all w apart)

-- where each writer's counter is below 2^31 that at each place is
pub low_at : (g : ℕ) (cs : List ℕ) → ((w : ℕ) → counter (entries_from (64 * g) cs) w < 2147483648) → (k : ℕ) → get_or cs k 0 < 2147483648
low_at g cs low k = omega (arith, placed (64 * g) cs k, low (64 * g + k))

-- lists of counters are compared place by place
compared : (s : ℕ) (a b : List ℕ) → ((k : ℕ) → get_or a k 0 ≤ get_or b k 0) ↔ IsAtMost (entries_from s a) (entries_from s b)
compared s a b = (
  λ h w. by_place s w (λ w. counter (entries_from s a) w ≤ counter (entries_from s b) w)
      (λ less. let none = before s a w less in omega arith)
      (λ k. let mine = placed s a k in let theirs = placed s b k in let le = h k in omega arith),
  λ h k. (let le = h (s + k) in let mine = placed s a k in let theirs = placed s b k in omega arith),
)

joined : (s : ℕ) (a b c : List ℕ) → ((k : ℕ) → get_or c k 0 ≡ max (get_or a k 0) (get_or b k 0)) → (w : ℕ) → counter (entries_from s c) w ≡ max (counter (entries_from s a) w) (counter (entries_from s b) w)
joined s a b c each w = by_place s w (λ w. counter (entries_from s c) w ≡ max (counter (entries_from s a) w) (counter (entries_from s b) w))
    (λ less. let x = before s a w less in let y = before s b w less in let z = before s c w less in omega arith)
    (λ k. let x = placed s a k in let y = placed s b k in let z = placed s c k in let at = each k in omega arith)

-- counters that are raised to those of a block of the group
raised : (g : ℕ) (es : List Entry) (a c : List ℕ) → length a ≡ 64 → length c ≡ 64 → IsBlock es → group_in es ≡ g → ((k : ℕ) → k < 64 → get_or c k 0 ≡ max (get_or a k 0) (counter es (64 * group_in es + k))) → (w : ℕ) → counter (entries_from (64 * g) c) w ≡ max (counter (entries_from (64 * g) a) w) (counter es w)
raised g es a c few all block is each w = by_equal (group w) g (counter (entries_from (64 * g) c) w ≡ max (counter (entries_from (64 * g) a) w) (counter es w))
    (λ at.
    let x = its_counter g a w at in
    let z = its_counter g c w at in
    let law = each (w % 64) (omega arith) in
    let same : counter es (64 * group_in es + w % 64) ≡ counter es w = ap (λ v. counter es v) (omega arith) in
    omega arith)
    (λ apart.
    let x = of_group g a few w apart in
    let z = of_group g c all w apart in
    let y = block.2 w (λ e. apart (e ∙ is)) in
    omega arith)

-- the counters of a block by place
converted : (es : List Entry) (c : List ℕ) → length c ≡ 64 → IsBlock es → ((k : ℕ) → k < 64 → get_or c k 0 ≡ counter es (64 * group_in es + k)) → (w : ℕ) → counter (entries_from (64 * group_in es) c) w ≡ counter es w
converted es c all block each w = by_equal (group w) (group_in es) (counter (entries_from (64 * group_in es) c) w ≡ counter es w)
    (λ at.
    let z = its_counter (group_in es) c w at in
    let law = each (w % 64) (omega arith) in
    let same : counter es (64 * group_in es + w % 64) ≡ counter es w = ap (λ v. counter es v) (omega arith) in
    omega arith)
    (λ apart. of_group (group_in es) c all w apart ∙ sym (block.2 w apart))

low_counter : (es : List Entry) → All IsLow es → (w : ℕ) → counter es w < 2147483648
low_counter [] low w = omega arith
low_counter (e ∷ es) low w = by_writer e w (counter (e ∷ es) w < 2147483648)
    (λ is. omega (arith, here e es w is, All-head IsLow e es low))
    (λ apart. omega (arith, there e es w apart, low_counter es (All-tail IsLow e es low) w))

-- one entry more is taken over
pub one_more : (g : ℕ) (e : Entry) (es : List Entry) (cs : List ℕ) (k : ℕ) → k < 64 → length cs ≡ 64 → IsClock (e ∷ es) → group e.writer.0 ≡ g → max (get_or (set cs (e.writer.0 % 64) (max (get_or cs (e.writer.0 % 64) 0) e.counter)) k 0) (counter es (64 * g + k)) ≡ max (get_or cs k 0) (counter (e ∷ es) (64 * g + k))
one_more g e es cs k few all clock is = by_writer e (64 * g + k) (max (get_or (set cs (e.writer.0 % 64) (max (get_or cs (e.writer.0 % 64) 0) e.counter)) k 0) (counter es (64 * g + k)) ≡ max (get_or cs k 0) (counter (e ∷ es) (64 * g + k)))
    (λ at.
    let place : e.writer.0 % 64 ≡ k = omega arith in
    let law = get_or-set_same cs k (max (get_or cs k 0) e.counter) 0 (omega arith) in
    let none = absent e.writer.0 es (64 * g + k) clock.1 (omega arith) in
    let mine = here e es (64 * g + k) at in
    rw place (omega arith))
    (λ apart.
    let place : k ≢ e.writer.0 % 64 = λ eq. apart (omega arith) in
    let law = get_or-set_other cs (e.writer.0 % 64) k (max (get_or cs (e.writer.0 % 64) 0) e.counter) 0 place in
    let on = there e es (64 * g + k) apart in
    omega arith)

-- a counter is raised from 0
zero_at : (k : ℕ) → k < 64 → get_or (replicate {A = ℕ} 64 0) k 0 ≡ 0
zero_at k few = get_or-replicate 64 k 0 0 few

pub from_zero : (k n x : ℕ) → k < 64 → n ≡ max (get_or (replicate {A = ℕ} 64 0) k 0) x → n ≡ x
from_zero k n x few is = omega (arith, zero_at k few)

-- ---- full blocks

-- the entries are those of the group's counters
pub record IsFull (a : List Entry) (g : ℕ) (cs : List ℕ) : Type 0 where
  pub view : entries_from (64 * g) cs ≡ a
  pub own : group_in (entries_from (64 * g) cs) ≡ g
  pub long : length cs ≡ 64
  pub low : (w : ℕ) → counter (entries_from (64 * g) cs) w < 2147483648

low_of : {a : List Entry} {g : ℕ} {cs : List ℕ} → IsFull a g cs → (w : ℕ) → counter a w < 2147483648
low_of full = subst (λ x. (w : ℕ) → counter x w < 2147483648) full.view full.low

its_group : {a : List Entry} {g : ℕ} {cs : List ℕ} → IsFull a g cs → group_in a ≡ g
its_group {a} {g} {cs} full = subst (λ x. group_in x ≡ g) full.view full.own

one_group : {a b : List Entry} {g h : ℕ} {xs ys : List ℕ} → IsFull a g xs → IsFull b h ys → group_in a ≡ group_in b → g ≡ h
one_group mine theirs same = sym (its_group mine) ∙ same ∙ its_group theirs

-- they are compared place by place
pub full_compared : {a b : List Entry} {g h : ℕ} {xs ys : List ℕ} → IsFull a g xs → IsFull b h ys → group_in a ≡ group_in b → ((k : ℕ) → get_or xs k 0 ≤ get_or ys k 0) ↔ IsAtMost a b
full_compared {a} {b} {g} {h} {xs} {ys} mine theirs same =
    subst (λ x. ((k : ℕ) → get_or xs k 0 ≤ get_or ys k 0) ↔ IsAtMost x b) mine.view
    (subst (λ x. ((k : ℕ) → get_or xs k 0 ≤ get_or ys k 0) ↔ IsAtMost (entries_from (64 * g) xs) x) (ap (λ n. entries_from (64 * n) ys) (one_group mine theirs same) ∙ theirs.view)
    (compared (64 * g) xs ys))

-- they are at most entries where each counter is at most its writer's
pub full_below : {a : List Entry} {g : ℕ} {cs : List ℕ} → IsFull a g cs → (es : List Entry) → ((k : ℕ) → k < 64 → get_or cs k 0 ≤ counter es (g * 64 + k)) ↔ IsAtMost a es
full_below {a} {g} {cs} full es = subst (λ x. ((k : ℕ) → k < 64 → get_or cs k 0 ≤ counter es (g * 64 + k)) ↔ IsAtMost x es) full.view (
  λ h w. by_equal (group w) g (counter (entries_from (64 * g) cs) w ≤ counter es w)
      (λ at.
      let mine = its_counter g cs w at in
      let le = h (w % 64) (omega arith) in
      let same : counter es (g * 64 + w % 64) ≡ counter es w = ap (λ v. counter es v) (omega arith) in
      omega arith)
      (λ apart. omega (arith, no_counter g cs w full.long apart)),
  λ h k few.
      let mine = its_counter g cs (g * 64 + k) (omega arith) in
      let le = h (g * 64 + k) in
      let same : get_or cs ((g * 64 + k) % 64) 0 ≡ get_or cs k 0 = ap (λ n. get_or cs n 0) (omega arith) in
      omega arith,
)

-- counters that have of each writer the greater one of two blocks
pub record Made (a b : List Entry) (g : ℕ) (cs : List ℕ) : Type 0 where
  pub block : IsBlock (entries_from (64 * g) cs)
  pub own : group_in (entries_from (64 * g) cs) ≡ g
  pub same : group_in (entries_from (64 * g) cs) ≡ group_in a
  pub low : (w : ℕ) → counter (entries_from (64 * g) cs) w < 2147483648
  pub counters : (w : ℕ) → counter (entries_from (64 * g) cs) w ≡ max (counter a w) (counter b w)

made : (a b : List Entry) (g : ℕ) (cs : List ℕ) → IsBlock a → IsBlock b → group_in a ≡ group_in b → group_in a ≡ g → ((w : ℕ) → counter a w < 2147483648) → ((w : ℕ) → counter b w < 2147483648) → ((w : ℕ) → counter (entries_from (64 * g) cs) w ≡ max (counter a w) (counter b w)) → Made a b g cs
made a b g cs first second same is low lower counters =
    let law = merged_block a b (entries_from (64 * g) cs) first second same (in_order (64 * g) cs) counters in
    record {
      block = law.0;
      own = law.1 ∙ is;
      same = law.1;
      low = λ w. omega (arith, counters w, low w, lower w);
      counters = counters;
    }

pub full_of : (a : List Entry) (g : ℕ) (cs : List ℕ) → IsBlock a → All IsLow a → g ≡ group_in a → length cs ≡ 64 → ((k : ℕ) → k < 64 → get_or cs k 0 ≡ counter a (64 * group_in a + k)) → Made a a g cs
full_of a g cs block low is all each =
    made a a g cs block block refl (sym is) (low_counter a low) (low_counter a low) (λ w. (let at = subst (λ n. counter (entries_from (64 * n) cs) w ≡ counter a w) (sym is) (converted a cs all block each w) in omega arith))

pub full_joined : {a b : List Entry} {g h : ℕ} {xs ys : List ℕ} → IsFull a g xs → IsFull b h ys → IsBlock a → IsBlock b → group_in a ≡ group_in b → (cs : List ℕ) → ((k : ℕ) → get_or cs k 0 ≡ max (get_or xs k 0) (get_or ys k 0)) → Made a b g cs
full_joined {a} {b} {g} {h} {xs} {ys} mine theirs first second same cs each =
    made a b g cs first second same (its_group mine) (low_of mine) (low_of theirs) (λ w. subst (λ x. counter (entries_from (64 * g) cs) w ≡ max (counter x w) (counter b w)) mine.view
    (subst (λ x. counter (entries_from (64 * g) cs) w ≡ max (counter (entries_from (64 * g) xs) w) (counter x w)) (ap (λ n. entries_from (64 * n) ys) (one_group mine theirs same) ∙ theirs.view)
    (joined (64 * g) xs ys cs each w)))

pub full_raised : {a : List Entry} {g : ℕ} {xs : List ℕ} → IsFull a g xs → IsBlock a → (b : List Entry) → IsBlock b → All IsLow b → group_in a ≡ group_in b → (cs : List ℕ) → length cs ≡ 64 → ((k : ℕ) → k < 64 → get_or cs k 0 ≡ max (get_or xs k 0) (counter b (64 * group_in b + k))) → Made a b g cs
full_raised {a} {g} {xs} mine first b second low same cs all each =
    made a b g cs first second same (its_group mine) (low_of mine) (low_counter b low) (λ w. subst (λ x. counter (entries_from (64 * g) cs) w ≡ max (counter x w) (counter b w)) mine.view
    (raised g b xs cs mine.long all second (sym same ∙ its_group mine) each w))

-- entries are at most a clock where each one's counter is
pub entries_below : (es d : List Entry) → IsClock es → ((i : ℕ) (e : Entry) → i < length es → (get_or es i e).counter ≤ counter d (get_or es i e).writer.0) → IsAtMost es d
entries_below [] d clock each w = omega arith
entries_below (e ∷ es) d clock each w = by_writer e w (counter (e ∷ es) w ≤ counter d w)
    (λ is. let at = here e es w is in let le = subst (λ v. e.counter ≤ counter d v) is (each 0 e (omega arith)) in omega arith)
    (λ apart. let on = there e es w apart in let le = entries_below es d clock.2 (λ i x l. each (suc i) x (omega arith)) w in omega arith)

pub below_entries : (es d : List Entry) → IsClock es → IsAtMost es d → (i : ℕ) (e : Entry) → i < length es → (get_or es i e).counter ≤ counter d (get_or es i e).writer.0
below_entries [] d clock le i x l = absurd (omega arith)
below_entries (e ∷ es) d clock le zero x l = (let most = le e.writer.0 in let at = here e es e.writer.0 refl in omega arith)
below_entries (e ∷ es) d clock le (suc i) x l = below_entries es d clock.2 later i x (omega arith)
  where
    later : IsAtMost es d
    later w = by_writer e w (counter es w ≤ counter d w)
        (λ is. let none = absent e.writer.0 es w clock.1 (omega arith) in omega arith)
        (λ apart. let on = there e es w apart in let most = le w in omega arith)
