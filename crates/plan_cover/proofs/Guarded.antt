-- The clauses of a node, and what is tested of what a cover keeps.
use Rattle.std.proofs.Common.{◌≡◌, inl, inr, ℕ, suc, ◌+◌, ◌<◌, ◌≤◌, Bool, true, false, cond, List, [], ◌∷◌, ◌++◌, length, map, Option, Some, None, Result, Ok, Err, refl, sym, ap, ◌∙◌, arith}
use Rattle.std.specs.Prelude.{not, ◌&&◌, ◌||◌, ◌==◌, slice_get, min, count_by}
use Rattle.std.specs.Option.{option_or}
use Rattle.std.proofs.lemmas.Bool.{eq-eqb, lt-ltb, cases_lt}
use Rattle.std.proofs.lemmas.Bool.Decides.{eqb_tells, nat_tests}
use Rattle.std.proofs.lemmas.Option.{slice_get_past}
use Rattle.std.proofs.lemmas.List.Recursion.{is_count_by}
use Rattle.ring_names.specs.Lists.{has, all_different}
use Rattle.ring_names.specs.declared.ids.NodeId.{NodeId}
use Rattle.ring_names.specs.declared.refusal.Refusal.{Refusal}
use Rattle.ring_names.specs.declared.refusal.Refusal.TheVariants.{ChainBroken, CoverMissing, TooManyChains}
use Rattle.ring_table.specs.declared.allowance.NodeSide.{NodeSide}
use Rattle.ring_table.specs.declared.allowance.Side.{Side}
use Rattle.ring_table.specs.declared.allowance.Side.TheVariants.{Both, Take, Give}
use Rattle.ring_table.specs.Value.{RingValue, is_side}
use Rattle.plan_text.specs.declared.step.Planned.{Planned}
use Rattle.plan_text.specs.Steps.{retired, retirement_of}
use Rattle.plan_cert.specs.declared.cert.Chain.{Chain}
use Rattle.plan_cert.specs.declared.cert.Cert.{Cert}
use Rattle.plan_stage.specs.Stage.{is_among}
use Rattle.plan_stage.specs.Occupancy.{is_node}
use Rattle.plan_stage.specs.Parties.{target_of, sources_of, on_side, parties_on}
use Rattle.plan_stage.specs.Clauses.{Guard, first_failing, Gives}
use Rattle.plan_stage.specs.Partition.{Test, steps_clauses}
use Rattle.plan_cover.specs.Clauses.{in_some, chains_from, retire_clauses, is_linked, has_side, is_good_chain, chains_clauses, cover_clauses, side_covers, is_few, side_count, each_side, node_clauses}
use Rattle.plan_cover.specs.Looking.Numbers.{numbers_from, is_chain_of, copies_of, chain_numbers, copies_kept, sides_kept, AreWithin}
use Rattle.plan_cover.specs.Looking.Places.{place_count, HasPlaces, place_at}
use Rattle.plan_cover.specs.declared.by_place.ByPlace.{ByPlace}
use Rattle.plan_cover.specs.declared.marks.Marks.{Marks}
use Rattle.plan_cover.specs.Looking.Guards.{retirement_guards, steps_at, side_at, chains_at, chain_guard, copy_guard, side_guards, count_guards}
use Rattle.plan_cover.proofs.Counting.{AreBetween, numbers-between}
use Rattle.plan_cover.proofs.Retiring.{retirement-asked}

-- ---- clauses behind clauses

joined_by : (b : Bool) (e : Refusal) (o p q : Option Refusal) → p ≡ option_or o q → cond b p (Some e) ≡ option_or (cond b o (Some e)) q
joined_by true e o p q h = h
joined_by false e o p q h = refl

first-append : (cs ds : List Guard) → first_failing (cs ++ ds) ≡ option_or (first_failing cs) (first_failing ds)
first-append [] ds = refl
first-append (c ∷ cs) ds = joined_by c.0 c.1 (first_failing cs) (first_failing (cs ++ ds)) (first_failing ds) (first-append cs ds)

-- ---- which numbers are kept

not_in : (n k m : ℕ) (xs : List ℕ) → n < k → AreBetween k m xs → has n xs ≡ false
not_in n k m [] l a = refl
not_in n k m (x ∷ xs) l a = rw (differ n x (let low = a.0 in omega arith), not_in n k m xs l a.1.1) refl
  where
    differ : (a b : ℕ) → a < b → (a == b) ≡ false
    differ a b l = grind (arith, nat_tests)

at_it : (b : Bool) (n : ℕ) (xs : List ℕ) → has n xs ≡ false → has n (cond b (n ∷ xs) xs) ≡ b
at_it true n xs e = rw (eq-eqb n n refl) refl
at_it false n xs e = e

past_it : (b : Bool) (n k : ℕ) (xs : List ℕ) → (n == k) ≡ false → has n (cond b (k ∷ xs) xs) ≡ has n xs
past_it true n k xs e = rw e refl
past_it false n k xs e = refl

has-numbers : (f : ℕ → Bool) (n k : ℕ) (ps : List Planned) → k ≤ n → (k + length ps ≤ n → f n ≡ false) → has n (numbers_from (λ m p. f m) k ps) ≡ f n
has-numbers f n k [] l out = sym (out (omega arith))
has-numbers f n k (p ∷ ps) l out =
    let rest : List ℕ = numbers_from (λ m p. f m) (k + 1) ps in
    elim (eqb_tells n k) [
      | inl t ↦ (
          let e : k ≡ n = sym t.1 in
          let between = numbers-between (λ (m : ℕ) (p : Planned). f m) (k + 1) ((k + 1) + length ps) ps refl in
          let none : has n rest ≡ false = not_in n (k + 1) ((k + 1) + length ps) rest (omega arith) between in
          ap (λ (j : ℕ). has n (cond (f j) (j ∷ rest) rest)) e ∙ at_it (f n) n rest none)
      | inr t ↦ (
          let apart : (k ≡ n → ⊥) = λ e. t.1 (sym e) in
          let up : k + 1 ≤ n = grind arith in
          past_it (f k) n k rest t.0 ∙ has-numbers f n (k + 1) ps up (λ m. out (omega arith)))
    ]

abbrev parties_in : RingValue → List Planned → Side → ℕ → Option Planned → List NodeId
parties_in ring plan side n o = elim o [ Some step ↦ on_side side (target_of ring plan n step.step) (sources_of ring plan n step.step) | None ↦ [] ]

no_party : (ring : RingValue) (plan : List Planned) (y : NodeSide) (n : ℕ) → length plan ≤ n → (has_side ring y.node y.side && is_among y.node (parties_on ring plan y.side n)) ≡ false
no_party ring plan y n l = ap (λ (o : Option Planned). has_side ring y.node y.side && is_among y.node (parties_in ring plan y.side n o)) (slice_get_past plan n l) ∙ none (has_side ring y.node y.side)
  where
    none : (b : Bool) → (b && false) ≡ false
    none true = refl
    none false = refl

has-copies : (ring : RingValue) (plan : List Planned) (y : NodeSide) (n : ℕ) → has n (copies_of ring plan y) ≡ (has_side ring y.node y.side && is_among y.node (parties_on ring plan y.side n))
has-copies ring plan y n = has-numbers (λ m. has_side ring y.node y.side && is_among y.node (parties_on ring plan y.side m)) n 0 plan (omega arith) (λ l. no_party ring plan y n (omega arith))

-- ---- the chains

-- these chains are those of the list from number k on
abbrev pub AreFrom : ℕ → List Chain → List Chain → Type 0
AreFrom k cs all = (j : ℕ) (c : Chain) → slice_get cs j ≡ Some c → slice_get all (k + j) ≡ Some c

pub from_start : (cs : List Chain) → AreFrom 0 cs cs
from_start cs j c e = (let z : 0 + j ≡ j = omega arith in rw z e)

first_at : (k : ℕ) (c : Chain) (cs all : List Chain) → AreFrom k (c ∷ cs) all → slice_get all k ≡ Some c
first_at k c cs all from = (let z : k + 0 ≡ k = omega arith in rw z at (from 0 c refl))

from_later : (k : ℕ) (c : Chain) (cs all : List Chain) → AreFrom k (c ∷ cs) all → AreFrom (k + 1) cs all
from_later k c cs all from j d e = (let s : (k + 1) + j ≡ k + suc j = omega arith in rw s (from (suc j) d e))

linked-same : (f g : ℕ → Bool) (O : Test) (steps : List ℕ) → ((n : ℕ) → f n ≡ g n) → is_linked f O steps ≡ is_linked g O steps
linked-same f g O [] same = refl
linked-same f g O (a ∷ []) same = same a
linked-same f g O (a ∷ b ∷ rest) same = rw (linked-same f g O (b ∷ rest) same, same a) refl

chain_by : (b g : Bool) (k : ℕ) (guard : ℕ → Guard) (e : Refusal) (o : Option Refusal) (ks : List ℕ) → guard k ≡ (g, e) → o ≡ first_failing (map guard ks) → cond (not b || g) o (Some e) ≡ first_failing (map guard (cond b (k ∷ ks) ks))
chain_by true g k guard e o ks is h = ap (λ (p : Option Refusal). cond g p (Some e)) h ∙ ap (λ (c : Guard). cond c.0 (first_failing (map guard ks)) (Some c.1)) (sym is)
chain_by false g k guard e o ks is h = h

-- what is tested of a chain, if there is one
abbrev test_of : RingValue → NodeId → (Side → ℕ → Bool) → Test → Option Chain → Bool
test_of ring x marked O o = has_side ring x (elim o [ Some c ↦ c.side | None ↦ Both ]) && is_linked (marked (elim o [ Some c ↦ c.side | None ↦ Both ])) O (elim o [ Some c ↦ c.steps | None ↦ [] ])

-- the copies of the sides that the node has are marked
abbrev pub AreMarked : RingValue → List Planned → NodeId → (Side → ℕ → Bool) → Type 0
AreMarked ring plan x marked = (side : Side) (n : ℕ) → marked side n ≡ (has_side ring x side && is_among x (parties_on ring plan side n))

good-guarded : (ring : RingValue) (plan : List Planned) (O : Test) (x : NodeId) (marked : Side → ℕ → Bool) (side : Side) (steps : List ℕ) → AreMarked ring plan x marked → (has_side ring x side && is_linked (marked side) O steps) ≡ (has_side ring x side && is_good_chain ring plan O x side steps)
good-guarded ring plan O x marked side steps same = by (has_side ring x side) refl
  where
    by : (b : Bool) → has_side ring x side ≡ b → (b && is_linked (marked side) O steps) ≡ (b && is_good_chain ring plan O x side steps)
    by true e = linked-same (marked side) (λ n. is_among x (parties_on ring plan side n)) O steps (λ n. same side n ∙ ap (λ (b : Bool). b && is_among x (parties_on ring plan side n)) e)
    by false e = refl

chains-guarded : (ring : RingValue) (plan : List Planned) (O : Test) (x : NodeId) (marked : Side → ℕ → Bool) (all : List Chain) (k : ℕ) (cs : List Chain) → AreMarked ring plan x marked → AreFrom k cs all → first_failing (chains_clauses ring plan O x k cs) ≡ first_failing (map (chain_guard ring x marked O all) (numbers_from (is_chain_of x) k cs))
chains-guarded ring plan O x marked all k [] same from = refl
chains-guarded ring plan O x marked all k (c ∷ cs) same from =
    let e : Refusal = ChainBroken (min k 4294967295) in
    let is : test_of ring x marked O (slice_get all k) ≡ (has_side ring x c.side && is_good_chain ring plan O x c.side c.steps) = ap (test_of ring x marked O) (first_at k c cs all from) ∙ good-guarded ring plan O x marked c.side c.steps same in
    chain_by (x.0 == c.node.0) (has_side ring x c.side && is_good_chain ring plan O x c.side c.steps) k (chain_guard ring x marked O all) e (first_failing (chains_clauses ring plan O x (k + 1) cs)) (numbers_from (is_chain_of x) (k + 1) cs)
    (ap (λ (b : Bool). (b, e)) is) (chains-guarded ring plan O x marked all (k + 1) cs same (from_later k c cs all from))

pick_by : (b : Bool) (side s : Side) (k : ℕ) (all : List Chain) (steps : List ℕ) (ls : List (List ℕ)) (ks : List ℕ) → side_at all k ≡ s → steps_at all k ≡ steps → ls ≡ chains_at all side ks → cond (b && is_side side s) (steps ∷ ls) ls ≡ chains_at all side (cond b (k ∷ ks) ks)
pick_by true side s k all steps ls ks on is rest = rw (on, is, rest) refl
pick_by false side s k all steps ls ks on is rest = rest

-- the node's chains on a side are those among its numbers that are on the side
picked : (x : NodeId) (side : Side) (k : ℕ) (cs all : List Chain) → AreFrom k cs all → chains_from x.0 side cs ≡ chains_at all side (numbers_from (is_chain_of x) k cs)
picked x side k [] all from = refl
picked x side k (c ∷ cs) all from =
    pick_by (is_node x c.node) side c.side k all c.steps (chains_from x.0 side cs) (numbers_from (is_chain_of x) (k + 1) cs)
    (ap (λ (o : Option Chain). elim o [ Some d ↦ d.side | None ↦ Both ]) (first_at k c cs all from))
    (ap (λ (o : Option Chain). elim o [ Some d ↦ d.steps | None ↦ [] ]) (first_at k c cs all from))
    (picked x side (k + 1) cs all (from_later k c cs all from))

-- ---- the copies

cover_by : (b : Bool) (k : ℕ) (guard : ℕ → Guard) (g : Guard) (gs : List Guard) (ks : List ℕ) → g ≡ guard k → gs ≡ map guard ks → cond b (g ∷ []) [] ++ gs ≡ map guard (cond b (k ∷ ks) ks)
cover_by true k guard g gs ks is rest = rw (is, rest) refl
cover_by false k guard g gs ks is rest = rest

copies-guarded : (ring : RingValue) (plan : List Planned) (x : NodeId) (side : Side) (chains : List (List ℕ)) (b : Bool) (k : ℕ) (ps : List Planned) → cond b (steps_clauses (cover_clauses ring plan chains x side) k ps) [] ≡ map (copy_guard chains x) (numbers_from (λ n p. b && is_among x (parties_on ring plan side n)) k ps)
copies-guarded ring plan x side chains true k [] = refl
copies-guarded ring plan x side chains true k (p ∷ ps) =
    cover_by (is_among x (parties_on ring plan side k)) k (copy_guard chains x) (in_some k chains, CoverMissing x.0 k) (steps_clauses (cover_clauses ring plan chains x side) (k + 1) ps) (numbers_from (λ n p. true && is_among x (parties_on ring plan side n)) (k + 1) ps)
    refl (copies-guarded ring plan x side chains true (k + 1) ps)
copies-guarded ring plan x side chains false k [] = refl
copies-guarded ring plan x side chains false k (p ∷ ps) = copies-guarded ring plan x side chains false (k + 1) ps

-- ---- the clauses of a node

-- what is tested, in its order
abbrev pub tested : RingValue → List Planned → Test → NodeId → List Chain → List ℕ → (Side → ℕ → Bool) → ByPlace ℕ → Option Refusal
tested ring plan O x chains numbers marked copies = option_or (first_failing (retirement_guards ring plan O x (retirement_of plan x.0)))
    (option_or (first_failing (map (chain_guard ring x marked O chains) numbers))
    (option_or (first_failing (each_side (side_guards copies chains numbers x)))
    (first_failing (each_side (count_guards ring chains numbers x)))))

-- what is the same of each side is so of all
each-same : (f g : Side → List Guard) → ((side : Side) → f side ≡ g side) → each_side f ≡ each_side g
each-same f g same = rw (same Both, same Take, same Give) refl

module _ (ring : RingValue) (plan : List Planned) (cert : Cert) (O : Test) (x : NodeId) (numbers : List ℕ) (copies : ByPlace ℕ)
    (marked : Side → ℕ → Bool)
    (ns : numbers ≡ chain_numbers cert.chains x) (cs : (y : NodeSide) → copies_kept copies y ≡ copies_of ring plan y) (ms : (side : Side) (n : ℕ) → marked side n ≡ has n (sides_kept copies x side)) where
  chains_of : (side : Side) → chains_from x.0 side cert.chains ≡ chains_at cert.chains side numbers
  chains_of side = picked x side 0 cert.chains cert.chains (from_start cert.chains) ∙ ap (chains_at cert.chains side) (sym ns)

  covers_of : (side : Side) → side_covers ring plan cert x side ≡ side_guards copies cert.chains numbers x side
  covers_of side =
      copies-guarded ring plan x side (chains_from x.0 side cert.chains) (has_side ring x side) 0 plan
      ∙ ap (λ (ls : List (List ℕ)). map (copy_guard ls x) (copies_of ring plan (record { node = x; side = side }))) (chains_of side)
      ∙ ap (λ (l : List ℕ). map (copy_guard (chains_at cert.chains side numbers) x) l) (sym (cs (record { node = x; side = side })))

  counts_of : (side : Side) → side_count ring cert x side ≡ count_guards ring cert.chains numbers x side
  counts_of side = ap (λ (ls : List (List ℕ)). (is_few ring x side (length ls), TooManyChains x.0) ∷ []) (chains_of side)

  chains-tested : first_failing (chains_clauses ring plan O x 0 cert.chains) ≡ first_failing (map (chain_guard ring x marked O cert.chains) numbers)
  chains-tested =
      chains-guarded ring plan O x marked cert.chains 0 cert.chains (λ side n. ms side n ∙ ap (has n) (cs (record { node = x; side = side })) ∙ has-copies ring plan (record { node = x; side = side }) n) (from_start cert.chains)
      ∙ ap (λ (l : List ℕ). first_failing (map (chain_guard ring x marked O cert.chains) l)) (sym ns)

  -- the clauses of a node are those that are tested
  pub node-tested : all_different (retired plan) ≡ true → first_failing (node_clauses ring plan cert O x) ≡ tested ring plan O x cert.chains numbers marked copies
  node-tested once =
      let few : List Guard = each_side (side_count ring cert x) in
      let cover : List Guard = each_side (side_covers ring plan cert x) in
      let chains : List Guard = chains_clauses ring plan O x 0 cert.chains in
      let retire : List Guard = steps_clauses (retire_clauses ring plan O x) 0 plan in
      first-append retire (chains ++ (cover ++ few))
      ∙ ap (λ (o : Option Refusal). option_or (first_failing retire) o) (first-append chains (cover ++ few) ∙ ap (λ (o : Option Refusal). option_or (first_failing chains) o) (first-append cover few))
      ∙ ap (λ (gs : List Guard). option_or (first_failing gs) (option_or (first_failing chains) (option_or (first_failing cover) (first_failing few)))) (retirement-asked ring plan O x once)
      ∙ ap (λ (o : Option Refusal). option_or (first_failing (retirement_guards ring plan O x (retirement_of plan x.0))) (option_or o (option_or (first_failing cover) (first_failing few)))) chains-tested
      ∙ ap (λ (gs : List Guard). option_or (first_failing (retirement_guards ring plan O x (retirement_of plan x.0))) (option_or (first_failing (map (chain_guard ring x marked O cert.chains) numbers)) (option_or (first_failing gs) (first_failing few)))) (each-same (side_covers ring plan cert x) (side_guards copies cert.chains numbers x) covers_of)
      ∙ ap (λ (gs : List Guard). option_or (first_failing (retirement_guards ring plan O x (retirement_of plan x.0))) (option_or (first_failing (map (chain_guard ring x marked O cert.chains) numbers)) (option_or (first_failing (each_side (side_guards copies cert.chains numbers x))) (first_failing gs)))) (each-same (side_count ring cert x) (count_guards ring cert.chains numbers x) counts_of)

-- the clauses of all sides, one after the other
pub each-first : (f : Side → List Guard) → first_failing (each_side f) ≡ option_or (first_failing (f Both)) (option_or (first_failing (f Take)) (first_failing (f Give)))
each-first f = first-append (f Both) (f Take ++ f Give) ∙ ap (λ (o : Option Refusal). option_or (first_failing (f Both)) o) (first-append (f Take) (f Give))

-- how many chains are of the side
pub count-chains : (chains : List Chain) (side : Side) (ks : List ℕ) → count_by (λ k. is_side side (side_at chains k)) ks ≡ length (chains_at chains side ks)
count-chains chains side ks = sym (is_count_by (λ ls. length (chains_at chains side ls)) (λ k. is_side side (side_at chains k)) refl (λ k ls. by (is_side side (side_at chains k)) (steps_at chains k) (chains_at chains side ls)) ks)
  where
    by : (b : Bool) (steps : List ℕ) (ls : List (List ℕ)) → length (cond b (steps ∷ ls) ls) ≡ cond b (1 + length ls) (length ls)
    by true steps ls = omega arith
    by false steps ls = refl

-- the copies that are kept can be marked
pub kept-within : (ring : RingValue) (plan : List Planned) (copies : ByPlace ℕ) (marks : Marks) → ((y : NodeSide) → copies_kept copies y ≡ copies_of ring plan y) → HasPlaces (length plan) marks → (x : NodeId) → AreWithin marks copies x
kept-within ring plan copies marks cs places x side n h = elim (cases_lt n (length plan)) [
  | inl low ↦ lt-ltb (place_at n side) (place_count marks) (below side low)
  | inr high ↦ absurd (let e = sym h ∙ ap (has n) (cs (record { node = x; side = side })) ∙ has-copies ring plan (record { node = x; side = side }) n ∙ no_party ring plan (record { node = x; side = side }) n high in cc)
]
  where
    below : (s : Side) → n < length plan → place_at n s < place_count marks
    below Both l = omega arith
    below Take l = omega arith
    below Give l = omega arith

-- the first refusal is the answer, and what passes leaves the answer to the rest
pub fails : (o p : Option Refusal) (e : Refusal) → o ≡ Some e → option_or o p ≡ Some e
fails o p e h = rw h refl

pub passes : (o p q : Option Refusal) → o ≡ None → p ≡ q → option_or o p ≡ q
passes o p q h k = rw h k

pub gives-as : (r : Result (Unit {0}) Refusal) (cs ds : List Guard) → first_failing ds ≡ first_failing cs → Gives r cs → Gives r ds
gives-as (Ok u) cs ds e g = e ∙ g
gives-as (Err x) cs ds e g = λ ne. e ∙ g ne
