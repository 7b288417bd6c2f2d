-- The nodes of a ring, and their names.
use Rattle.std.proofs.Common.{◌≡◌, ℕ, ◌<◌, true, List, [], ◌∷◌, length, map, Some, None, refl, arith, is_some, slice_get}
use Rattle.std.specs.List.{AllByRecursion}
use Rattle.std.proofs.lemmas.List.{length-map}
use Rattle.std.proofs.lemmas.Option.{slice_get_within}
use Rattle.ring_table.proofs.Terms.{place, Allowance, Joint, Split, Side, Both, Take, Give, Node, RingValue, names_of, most_of, allowance_of, IsAllowance, IsNode, IsRing, name_at, NodeId}
use Rattle.texts.proofs.Forms.{is_name, IsItem, Judges, Form, Always, of_item}
use Rattle.ring_table.specs.Reading.{declared_at}
use Rattle.ring_table.proofs.RowLaws.{AreNames, each_at, found_name, IsItem-declared, judges-name, name_at-plain}

-- each node has a name
pub each-name : (format : ℕ) (xs : List Node) → AllByRecursion (IsNode format) xs → AllByRecursion (λ n. is_name n ≡ true) (map (λ x. x.name) xs)
each-name format [] a = tt
each-name format (x ∷ xs) a = (a.0.name, each-name format xs a.1)

-- what is found among the names of nodes is a name
pub placed-name : (format : ℕ) (xs : List Node) (f : List ℕ) (n : ℕ) → AllByRecursion (IsNode format) xs → place (map (λ x. x.name) xs) f ≡ Some n
    → is_name f ≡ true
placed-name format xs f n a e = found_name (map (λ x. x.name) xs) f n (each-name format xs a) e

-- ---- sides

-- a node that has the side
side-node : (ring : RingValue) (x : ℕ) (side : Side) → is_some (allowance_of ring x side) ≡ true
    → (node : Node) × (slice_get ring.nodes x ≡ Some node) × (is_some (most_of side node.allowance) ≡ true)
side-node ring x side e = elim (slice_get ring.nodes x) as (λ o. is_some (elim o [ Some node ↦ most_of side node.allowance | None ↦ None ]) ≡ true
    → (node : Node) × (o ≡ Some node) × (is_some (most_of side node.allowance) ≡ true)) [ Some node ↦ λ f. (node, refl, f) | None ↦ λ f. absurd cc ] e

-- it is declared
pub side-below : (ring : RingValue) (x : ℕ) (side : Side) → is_some (allowance_of ring x side) ≡ true → x < length ring.nodes
side-below ring x side e = (let n = side-node ring x side e in slice_get_within ring.nodes x n.0 n.1)

joint : (side : Side) (x : Allowance) → IsAllowance 1 x → is_some (most_of side x) ≡ true → side ≡ Both
joint Both (Joint most) p e = refl
joint Take (Joint most) p e = absurd cc
joint Give (Joint most) p e = absurd cc
joint side (Split take give) p e = absurd (let two = p.0 in omega arith)

-- in format 1 nodes have one side
pub joint-side : (ring : RingValue) → IsRing ring → ring.format ≡ 1 → (x : ℕ) (side : Side) → is_some (allowance_of ring x side) ≡ true → side ≡ Both
joint-side ring r one x side e =
    let n = side-node ring x side e in
    joint side n.0.allowance (each_at (IsNode 1) ring.nodes x n.0 (rw one at r.each_node) n.1).allowance n.2

-- ---- of a ring

-- the names of its nodes can be told apart
pub names-of : (ring : RingValue) → IsRing ring → AreNames (names_of ring)
names-of ring r = record { new = r.names; each = each-name ring.format ring.nodes r.each_node }

-- there are as many as nodes
pub nodes-length : (nodes : List Node) → length (map (λ (x : Node). x.name) nodes) ≡ length nodes
nodes-length nodes = simp length-map

-- a field that names one of them
pub item-node : (ring : RingValue) (k : ℕ) → AreNames (names_of ring) → IsItem (declared_at ring k) (λ x. name_at (names_of ring) x ∷ [])
    (λ x. x.0 < length (names_of ring))
unfolding declared_at
item-node ring k good = IsItem-declared k (names_of ring) good

-- and its faults are at its line
pub judges-declared : (ring : RingValue) (k : ℕ) → Judges k (declared_at ring k)
unfolding declared_at
judges-declared ring k = judges-name k (names_of ring)

-- the node that a field names
abbrev pub node_form : (ring : RingValue) → Form (IsRing ring) Always NodeId
node_form ring = of_item (declared_at ring) (λ x. name_at (names_of ring) x ∷ []) (λ x. x.0 < length (names_of ring))
    (λ r k. item-node ring k (names-of ring r)) (judges-declared ring)
    (λ r v p. (name_at-plain (names_of ring) v (names-of ring r).each, tt))
