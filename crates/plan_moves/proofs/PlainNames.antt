-- The names of a ring's nodes are ASCII, and so they are UTF-8.
use Rattle.std.proofs.Common.{◌≡◌, ℕ, suc, zero, ◌<◌, true, List, [], ◌∷◌, map, length, IsAscii, IsUtf8, inl, inr, arith}
use Rattle.std.specs.Prelude.{Bool, nat_le, ◌&&◌, ◌||◌, ◌==◌}
use Rattle.std.specs.List.{list_all, AllByRecursion}
use Rattle.std.proofs.lemmas.Bool.{and_parts, or_cases, leb-true, eqb-true}
use Rattle.std.proofs.lemmas.Str.{IsUtf8-from_ascii}
use Rattle.std.proofs.lemmas.Str.Ascii.{IsAscii-nil, IsAscii-cons}
use Rattle.texts.specs.Name.{is_name, is_name_byte}
use Rattle.ring_names.specs.declared.ids.NodeId.{NodeId}
use Rattle.ring_table.specs.declared.node.Node.{Node}
use Rattle.ring_table.specs.Value.{RingValue, names_of}
use Rattle.ring_table.specs.Valid.{IsRing, IsNode}
use Rattle.ring_table.specs.Spelling.{name_at}

-- one of two tests that bound what they pass
either : (x y : Bool) (b : ℕ) → (x ≡ true → b < 128) → (y ≡ true → b < 128) → (x || y) ≡ true → b < 128
either x y b p q e = elim (or_cases x y e) [ inl h ↦ p h | inr h ↦ q h ]

byte-ascii : (b : ℕ) → is_name_byte b ≡ true → b < 128
byte-ascii b =
    let one : (k : ℕ) → k < 128 → (b == k) ≡ true → b < 128 = λ k l h. omega (arith, l, eqb-true b k h) in
    let range : (low high : ℕ) → high < 128 → (nat_le low b && nat_le b high) ≡ true → b < 128 = λ low high l h. omega (arith, l, leb-true b high (and_parts (nat_le low b) (nat_le b high) h).1) in
    either _ (b == 45) b (either _ (b == 58) b (either _ (b == 46) b (either _ (b == 95) b
    (either (nat_le 97 b && nat_le b 122) (nat_le 48 b && nat_le b 57) b (range 97 122 (omega arith)) (range 48 57 (omega arith)))
    (one 95 (omega arith))) (one 46 (omega arith))) (one 58 (omega arith))) (one 45 (omega arith))

bytes-ascii : (bs : List ℕ) → list_all is_name_byte bs ≡ true → IsAscii bs
bytes-ascii [] e = IsAscii-nil
bytes-ascii (b ∷ bs) e =
    let p = and_parts (is_name_byte b) (list_all is_name_byte bs) e in
    IsAscii-cons b bs (byte-ascii b p.0) (bytes-ascii bs p.1)

name-ascii : (bs : List ℕ) → is_name bs ≡ true → IsAscii bs
name-ascii bs e = bytes-ascii bs (and_parts (nat_le 1 (length bs) && nat_le (length bs) 32) (list_all is_name_byte bs) e).1

-- the name at a number, or none
at-ascii : (format : ℕ) (xs : List Node) (n : ℕ) → AllByRecursion (IsNode format) xs → IsAscii (name_at (map (λ x. x.name) xs) (record { 0 = n }))
at-ascii format [] n each = IsAscii-nil
at-ascii format (x ∷ xs) zero each = name-ascii x.name (each.0).name
at-ascii format (x ∷ xs) (suc n) each = at-ascii format xs n each.1

pub name-utf8 : (ring : RingValue) (x : NodeId) → IsRing ring → IsUtf8 (name_at (names_of ring) x)
name-utf8 ring x valid = IsUtf8-from_ascii (name_at (names_of ring) x) (at-ascii ring.format ring.nodes x.0 valid.each_node)
