-- Rings made of a ring: their nodes, and the names of these.
use Rattle.std.proofs.Common.{◌≡◌, ℕ, zero, suc, ◌+◌, ◌<◌, Bool, List, [], ◌∷◌, ◌++◌, length, map, take, Option, Some, None, refl, sym, ap, ◌∙◌, slice_get, unwrap_or, append_assoc}
use Rattle.std.specs.List.{AllByRecursion}
use Rattle.std.proofs.lemmas.List.{take_more, append-nil}
use Rattle.std.proofs.lemmas.Option.{get_or_from_slice_get}
use Rattle.ring_names.specs.Names.{with_name}
use Rattle.ring_table.proofs.Terms.{AllNew, place, Node, NodeId, RingValue, IsRing, IsNode}
use Rattle.ring_table.specs.Valid.{IsRow}
use Rattle.ring_table.specs.Changed.{with_members, changed}

-- without flags the nodes are as they were
pub members-none : (xs : List Node) → with_members xs [] ≡ xs
unfolding with_members
members-none [] = refl
members-none (x ∷ xs) = refl

-- the names are
pub names-same : (xs : List Node) (ms : List Bool) → map (λ (x : Node). x.name) (with_members xs ms) ≡ map (λ (x : Node). x.name) xs
unfolding with_members
names-same [] ms = refl
names-same (x ∷ xs) [] = refl
names-same (x ∷ xs) (m ∷ ms) = ap (λ (ns : List (List ℕ)). x.name ∷ ns) (names-same xs ms)

pub members-length : (xs : List Node) (ms : List Bool) → length (with_members xs ms) ≡ length xs
unfolding with_members
members-length [] ms = refl
members-length (x ∷ xs) [] = refl
members-length (x ∷ xs) (m ∷ ms) = ap suc (members-length xs ms)

pub each-still : (format : ℕ) (xs : List Node) (ms : List Bool) → AllByRecursion (IsNode format) xs → AllByRecursion (IsNode format) (with_members xs ms)
unfolding with_members
each-still format [] ms a = tt
each-still format (x ∷ xs) [] a = a
each-still format (x ∷ xs) (m ∷ ms) a = (record { name = a.0.name; allowance = a.0.allowance }, each-still format xs ms a.1)

-- ---- node by node

abbrev with_flag : Node → Option Bool → Node
with_flag x m = record x { is_member = unwrap_or m x.is_member }

member-at : (xs : List Node) (ms : List Bool) (i : ℕ) (x : Node) → slice_get xs i ≡ Some x → slice_get (with_members xs ms) i ≡ Some (with_flag x (slice_get ms i))
unfolding with_members
member-at [] ms i x e = absurd cc
member-at (y ∷ xs) [] zero x e = e
member-at (y ∷ xs) [] (suc i) x e = e
member-at (y ∷ xs) (m ∷ ms) zero x e = let same : y ≡ x = cc in ap (λ (z : Node). Some (record z { is_member = m })) same
member-at (y ∷ xs) (m ∷ ms) (suc i) x e = member-at xs ms i x e

-- one node more
pub nodes-next : (xs : List Node) (ms : List Bool) (i : ℕ) (x : Node) (done : List Node) → slice_get xs i ≡ Some x → done ≡ take i (with_members xs ms)
    → i < length xs → done ++ with_flag x (slice_get ms i) ∷ [] ≡ take (i + 1) (with_members xs ms)
nodes-next xs ms i x done e so_far lt =
    let y = with_flag x (slice_get ms i) in
    let within : i < length (with_members xs ms) = rw (members-length xs ms) lt in
    rw so_far (ap (λ (z : Node). take i (with_members xs ms) ++ z ∷ []) (sym (get_or_from_slice_get (with_members xs ms) i y y (member-at xs ms i x e))) ∙ sym (take_more (with_members xs ms) i y within))

-- ---- the names, one after the other

new-behind : (seen xs : List (List ℕ)) (i : ℕ) (x : List ℕ) → AllNew seen xs → slice_get xs i ≡ Some x → place (seen ++ take i xs) x ≡ None
new-behind seen [] i x a e = absurd cc
new-behind seen (y ∷ xs) zero x a e =
    let same : y ≡ x = cc in
    ap (λ (ys : List (List ℕ)). place ys x) (append-nil seen) ∙ ap (place seen) (sym same) ∙ a.0
new-behind seen (y ∷ xs) (suc i) x a e = ap (λ (ys : List (List ℕ)). place ys x) (sym (append_assoc seen (y ∷ []) (take i xs))) ∙ new-behind (seen ++ y ∷ []) xs i x a.1 e

-- one name more
pub names-next : (xs names : List (List ℕ)) (i : ℕ) (x : List ℕ) → AllNew [] xs → slice_get xs i ≡ Some x → i < length xs → names ≡ take i xs
    → with_name names x ≡ take (i + 1) xs
names-next xs names i x new e lt so_far =
    rw (so_far, new-behind [] xs i x new e) (ap (λ (z : List ℕ). take i xs ++ z ∷ []) (sym (get_or_from_slice_get xs i x x e)) ∙ sym (take_more xs i x lt))

-- ---- the ring

-- the result is a ring if its rows are those of the slots
pub ring-changed : (ring : RingValue) (rows : List (List NodeId)) (members : List Bool) → IsRing ring → length rows ≡ ring.q
    → AllByRecursion (IsRow ring.n (with_members ring.nodes members)) rows → IsRing (changed ring rows members)
ring-changed ring rows members r whole each = record {
  format = r.format;
  space = r.space;
  slots = r.slots;
  loss = r.loss;
  quorum = r.quorum;
  some_node = rw (members-length ring.nodes members) r.some_node;
  nodes = rw (members-length ring.nodes members) r.nodes;
  each_node = each-still ring.format ring.nodes members r.each_node;
  names = rw (names-same ring.nodes members) r.names;
  partitions = whole;
  rows = each;
}
