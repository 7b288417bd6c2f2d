-- The sets of keepers and of slots once a pair is put in or taken out.
use Rattle.std.proofs.Common.{◌≡◌, ℕ, Bool, true, false, cond, List, [], ◌∷◌, ◌++◌, refl, sym, ap, ◌∙◌, arith}
use Rattle.std.specs.Prelude.{zero, suc, not, ◌&&◌, ◌||◌, ◌==◌, Option, Some, None, IfSome, slice_get}
use Rattle.std.specs.List.{list_any}
use Rattle.std.specs.Ordering.{nat_cmp}
use Rattle.std.specs.Cmp.{unsigned_ties, tied_then}
use Rattle.std.specs.BTreeMap.{is_at}
use Rattle.std.specs.BTreeSet.{insert_key}
use Rattle.std.specs.Set.{remove_key}
use Rattle.std.proofs.lemmas.Bool.Decides.{nat_tests}
use Rattle.std.proofs.lemmas.Bool.{and_parts, eq-eqb, or_right}
use Rattle.std.proofs.lemmas.List.Folds.{list_any-append}
use Rattle.ring_names.specs.declared.ids.NodeId.{NodeId}
use Rattle.ring_names.specs.declared.ids.Slot.{Slot}
use Rattle.ring_names.specs.contracts.ids.NodeIdPartialEq.TheImpl as node_eq
use Rattle.ring_names.specs.contracts.ids.SlotPartialEq.TheImpl as slot_eq
use Rattle.ring_names.specs.contracts.ids.NodeIdOrd.TheImpl as node_order
use Rattle.ring_names.specs.contracts.ids.SlotOrd.TheImpl as slot_order
use Rattle.ring_names.proofs.Logic.{eqb_turned}
use Rattle.ring_hints.specs.declared.kept_for.KeptFor.{KeptFor}
use Rattle.ring_hints.specs.contracts.kept_for.KeptForPartialEq.TheImpl as pair_eq
use Rattle.ring_hints.specs.declared.sets.Sets.{Sets}
use Rattle.ring_hints.specs.Sets.{set_at, AddsValue, RemovesValue}
use Rattle.ring_hints.specs.Views.{by_keeper, is_of, has_slot, has_keeper, in_keepers, in_order, pair_of}
use Rattle.store_maps.proofs.Members.{any_inserted, others_stay}
use Rattle.store_maps.proofs.HoldersChanged.{node_tie, node_same, node_exact}

pub equal : (x y : ℕ) → (x == y) ≡ true → x ≡ y
equal x y h = grind (arith, nat_tests)

-- ---- nodes and slots that compare as equal are the same

pub slot_tie : (s t : Slot) → is_at ((slot_order.ghosts).cmp s) t ≡ ((s.partition == t.partition) && (s.index == t.index))
slot_tie s t = sym (tied_then (nat_cmp s.partition t.partition) (nat_cmp s.index t.index)) ∙ rw (← unsigned_ties s.partition t.partition, ← unsigned_ties s.index t.index) refl

slot_same : (s : Slot) → is_at ((slot_order.ghosts).cmp s) s ≡ true
slot_same s = slot_tie s s ∙ (λ i. eq-eqb s.partition s.partition refl i && eq-eqb s.index s.index refl i)

slot_exact : (s t : Slot) → is_at ((slot_order.ghosts).cmp s) t ≡ true → s ≡ t
slot_exact s t h =
    let p = and_parts (s.partition == t.partition) (s.index == t.index) (sym (slot_tie s t) ∙ h) in
    λ i. record { partition = equal s.partition t.partition p.0 i; index = equal s.index t.index p.1 i }

-- a node that is neither the first nor among the others
pub left_out : (x : ℕ) (y : NodeId) (rest later : List NodeId) → rest ≡ y ∷ later → (x == y.0) ≡ false → in_keepers x later ≡ false → in_keepers x rest ≡ false
left_out x y rest later is e out = ap (in_keepers x) is ∙ ap (λ (b : Bool). b || in_keepers x later) (node_tie x y.0 ∙ e) ∙ out

-- ---- a pair is put in

by_test : {A : Type 0} → (f : A → Bool) (c : Bool) (more was : A) (b : Bool) → (c ≡ true → f more ≡ (b || f was)) → f (cond c more was) ≡ ((c && b) || f was)
by_test f true more was b h = h refl
by_test f false more was b h = refl

-- the pair is that of the node and the slot, in the two orders in which it is asked
of_node : (pair : KeptFor) (x : ℕ) (s : Slot) → ((x == pair.keeper.0) && is_at ((slot_order.ghosts).cmp s) pair.slot) ≡ is_of pair x s
of_node pair x s = rw (slot_tie s pair.slot, eqb_turned x pair.keeper.0, eqb_turned s.partition pair.slot.partition, eqb_turned s.index pair.slot.index) refl

of_slot : (pair : KeptFor) (x : ℕ) (s : Slot) → ((slot_eq.ghosts).eq s pair.slot && is_at ((node_order.ghosts).cmp (record { 0 = x })) pair.keeper) ≡ is_of pair x s
of_slot pair x s =
    rw (node_tie x pair.keeper.0, eqb_turned x pair.keeper.0, eqb_turned s.partition pair.slot.partition, eqb_turned s.index pair.slot.index)
    (moved (pair.keeper.0 == x) ((pair.slot.partition == s.partition) && (pair.slot.index == s.index)))
  where
    moved : (a b : Bool) → (b && a) ≡ (a && b)
    moved true true = refl
    moved true false = refl
    moved false true = refl
    moved false false = refl

pub slot_added : (old new : Sets NodeId Slot) (pair : KeptFor) → AddsValue ((node_eq.ghosts).eq) ((slot_order.ghosts).cmp) old new pair.keeper pair.slot
    → (x : ℕ) (s : Slot) → has_slot new x s ≡ (is_of pair x s || has_slot old x s)
slot_added old new pair h x s =
    let before = set_at ((node_eq.ghosts).eq) old (record { 0 = x }) in
    let test = λ (ks : List Slot). list_any (is_at ((slot_order.ghosts).cmp s)) ks in
    ap test (h (record { 0 = x }))
    ∙ by_test test (x == pair.keeper.0) (insert_key ((slot_order.ghosts).cmp) before pair.slot) before (is_at ((slot_order.ghosts).cmp s) pair.slot)
    (λ e. any_inserted ((slot_order.ghosts).cmp) slot_same slot_exact s pair.slot before)
    ∙ ap (λ (b : Bool). b || has_slot old x s) (of_node pair x s)

pub keeper_added : (old new : Sets Slot NodeId) (pair : KeptFor) → AddsValue ((slot_eq.ghosts).eq) ((node_order.ghosts).cmp) old new pair.slot pair.keeper
    → (x : ℕ) (s : Slot) → has_keeper new x s ≡ (is_of pair x s || has_keeper old x s)
keeper_added old new pair h x s =
    let before = set_at ((slot_eq.ghosts).eq) old s in
    let test = λ (ks : List NodeId). list_any (is_at ((node_order.ghosts).cmp (record { 0 = x }))) ks in
    ap test (h s)
    ∙ by_test test ((slot_eq.ghosts).eq s pair.slot) (insert_key ((node_order.ghosts).cmp) before pair.keeper) before (is_at ((node_order.ghosts).cmp (record { 0 = x })) pair.keeper)
    (λ e. any_inserted ((node_order.ghosts).cmp) node_same node_exact (record { 0 = x }) pair.keeper before)
    ∙ ap (λ (b : Bool). b || has_keeper old x s) (of_slot pair x s)

-- ---- a pair is taken out

-- what was asked for is not there once it is taken out, and anything else as before
by_gone : {A : Type 0} → (f : A → Bool) (c : Bool) (less was : A) (b d : Bool) → (c && b) ≡ d → (c ≡ true → b ≡ true → f less ≡ false) → (b ≡ false → f less ≡ f was)
    → f (cond c less was) ≡ (not d && f was)
by_gone f true less was true d e gone stays = gone refl refl ∙ ap (λ (t : Bool). not t && f was) e
by_gone f true less was false d e gone stays = stays refl ∙ ap (λ (t : Bool). not t && f was) e
by_gone f false less was b d e gone stays = ap (λ (t : Bool). not t && f was) e

-- from what a removal says of a set at one key
taken : {V : Type 0} → (test gone_test : List V → Bool) (new less before : List V) (c b d : Bool) → new ≡ cond c less before → (c && b) ≡ d
    → (c ≡ true → gone_test new ≡ false) → (b ≡ true → gone_test less ≡ test less) → (b ≡ false → test less ≡ test before) → test new ≡ (not d && test before)
taken test gone_test new less before c b d e f gone alike stays =
    ap test e ∙ by_gone test c less before b d f (λ y z. sym (alike z) ∙ sym (ap gone_test (e ∙ ap (λ (t : Bool). cond t less before) y)) ∙ gone y) stays

pub slot_removed : (old new : Sets NodeId Slot) (pair : KeptFor) → RemovesValue ((node_eq.ghosts).eq) ((slot_order.ghosts).cmp) old new pair.keeper pair.slot
    → (x : ℕ) (s : Slot) → has_slot new x s ≡ (not (is_of pair x s) && has_slot old x s)
slot_removed old new pair h x s =
    let before = set_at ((node_eq.ghosts).eq) old (record { 0 = x }) in
    let less = remove_key (is_at ((slot_order.ghosts).cmp pair.slot)) before in
    let among = λ (t : Slot) (ks : List Slot). list_any (is_at ((slot_order.ghosts).cmp t)) ks in
    taken (among s) (among pair.slot) (set_at ((node_eq.ghosts).eq) new (record { 0 = x })) less before (x == pair.keeper.0) (is_at ((slot_order.ghosts).cmp s) pair.slot) (is_of pair x s)
    (h.each (record { 0 = x })) (of_node pair x s) (h.gone (record { 0 = x })) (λ y. ap (λ (t : Slot). among t less) (sym (slot_exact s pair.slot y)))
    (others_stay ((slot_order.ghosts).cmp) slot_same slot_exact s pair.slot before)

pub keeper_removed : (old new : Sets Slot NodeId) (pair : KeptFor) → RemovesValue ((slot_eq.ghosts).eq) ((node_order.ghosts).cmp) old new pair.slot pair.keeper
    → (x : ℕ) (s : Slot) → has_keeper new x s ≡ (not (is_of pair x s) && has_keeper old x s)
keeper_removed old new pair h x s =
    let before = set_at ((slot_eq.ghosts).eq) old s in
    let less = remove_key (is_at ((node_order.ghosts).cmp pair.keeper)) before in
    let among = λ (y : NodeId) (ks : List NodeId). list_any (is_at ((node_order.ghosts).cmp y)) ks in
    taken (among (record { 0 = x })) (among pair.keeper) (set_at ((slot_eq.ghosts).eq) new s) less before ((slot_eq.ghosts).eq s pair.slot) (is_at ((node_order.ghosts).cmp (record { 0 = x })) pair.keeper) (is_of pair x s)
    (h.each s) (of_slot pair x s) (h.gone s) (λ y. ap (λ (z : NodeId). among z less) (sym (node_exact (record { 0 = x }) pair.keeper y)))
    (others_stay ((node_order.ghosts).cmp) node_same node_exact (record { 0 = x }) pair.keeper before)

-- ---- a pair that was not there is put in and taken out

pub with_without : (d b : Bool) → (d ≡ true → b ≡ false) → (not d && (d || b)) ≡ b
with_without true b h = sym (h refl)
with_without false b h = refl

-- a test that fails for the pair fails for each equal pair
pub only_where : (pair : KeptFor) (test : ℕ → Slot → Bool) → test pair.keeper.0 pair.slot ≡ false → (x : ℕ) (s : Slot) → is_of pair x s ≡ true → test x s ≡ false
only_where pair test h x s y =
    let p = and_parts (pair.keeper.0 == x) ((pair.slot.partition == s.partition) && (pair.slot.index == s.index)) y in
    let q = and_parts (pair.slot.partition == s.partition) (pair.slot.index == s.index) p.1 in
    sym (λ i. test (equal pair.keeper.0 x p.0 i) (record { partition = equal pair.slot.partition s.partition q.0 i; index = equal pair.slot.index s.index q.1 i })) ∙ h

pub added_and_removed : (pair : KeptFor) (before added removed : ℕ → Slot → Bool) → before pair.keeper.0 pair.slot ≡ false
    → ((x : ℕ) (s : Slot) → added x s ≡ (is_of pair x s || before x s)) → ((x : ℕ) (s : Slot) → removed x s ≡ (not (is_of pair x s) && added x s))
    → (x : ℕ) (s : Slot) → removed x s ≡ before x s
added_and_removed pair before added removed h f g x s =
    g x s ∙ ap (λ (b : Bool). not (is_of pair x s) && b) (f x s) ∙ with_without (is_of pair x s) (before x s) (only_where pair before h x s)

pub or_cond : (b c : Bool) → cond b true c ≡ (b || c)
or_cond true c = refl
or_cond false c = refl

pub pair_same : (pair : KeptFor) → is_of pair pair.keeper.0 pair.slot ≡ true
pair_same pair = λ i. eq-eqb pair.keeper.0 pair.keeper.0 refl i && (eq-eqb pair.slot.partition pair.slot.partition refl i && eq-eqb pair.slot.index pair.slot.index refl i)

pub pair_is : (a b : KeptFor) → is_of a b.keeper.0 b.slot ≡ true → a ≡ b
pair_is a b h =
    let p = and_parts (a.keeper.0 == b.keeper.0) ((a.slot.partition == b.slot.partition) && (a.slot.index == b.slot.index)) h in
    let q = and_parts (a.slot.partition == b.slot.partition) (a.slot.index == b.slot.index) p.1 in
    λ i. record {
      keeper = record { 0 = equal a.keeper.0 b.keeper.0 p.0 i };
      slot = record { partition = equal a.slot.partition b.slot.partition q.0 i; index = equal a.slot.index b.slot.index q.1 i };
    }

pub pair_turned : (a b : KeptFor) → is_of a b.keeper.0 b.slot ≡ is_of b a.keeper.0 a.slot
pair_turned a b = rw (eqb_turned a.keeper.0 b.keeper.0, eqb_turned a.slot.partition b.slot.partition, eqb_turned a.slot.index b.slot.index) refl

-- pairs that compare as equal are the same
pub pair_tie : (a b : KeptFor) → is_at (by_keeper a) b ≡ is_of a b.keeper.0 b.slot
pair_tie a b =
    let both = tied_then (nat_cmp a.keeper.0 b.keeper.0) ((slot_order.ghosts).cmp a.slot b.slot) in
    sym both ∙ rw (← unsigned_ties a.keeper.0 b.keeper.0, slot_tie a.slot b.slot) refl

-- one more pair in the list
pub pushed : (pair : KeptFor) (pairs : List KeptFor) (x : ℕ) (s : Slot) → in_order x s (pairs ++ pair ∷ []) ≡ (is_of pair x s || in_order x s pairs)
pushed pair pairs x s =
    let two = list_any-append ((pair_eq.ghosts).eq (pair_of x s)) pairs (pair ∷ []) in
    two ∙ ap (λ (b : Bool). in_order x s pairs || (b || false)) (pair_turned (pair_of x s) pair) ∙ first (is_of pair x s) (in_order x s pairs)
  where
    first : (b c : Bool) → (c || (b || false)) ≡ (b || c)
    first true true = refl
    first true false = refl
    first false true = refl
    first false false = refl

-- the pair that stands at some place is in the list
pub at_place : (pairs : List KeptFor) (n : ℕ) → IfSome (slice_get pairs n) (λ pair. in_order pair.keeper.0 pair.slot pairs ≡ true)
at_place [] n = tt
at_place (pair ∷ pairs) zero = ap (λ (b : Bool). b || in_order pair.keeper.0 pair.slot pairs) (pair_same pair)
at_place (pair ∷ pairs) (suc n) = later (slice_get pairs n) (at_place pairs n)
  where
    later : (o : Option KeptFor) → IfSome o (λ p. in_order p.keeper.0 p.slot pairs ≡ true) → IfSome o (λ p. in_order p.keeper.0 p.slot (pair ∷ pairs) ≡ true)
    later None h = tt
    later (Some p) h = or_right ((pair_eq.ghosts).eq p pair) (in_order p.keeper.0 p.slot pairs) h
