use Rattle.std.proofs.Common.{◌≡◌, ℕ, ◌≤◌, List, [], ◌∷◌, ◌++◌, length, map, append_assoc, arith}
use Rattle.std.proofs.lemmas.List.Concat.{flat_map-append}
use Rattle.texts.specs.Parts.{line_text, text_of}
use Rattle.texts.specs.Frames.{end_fields}
use Rattle.ring_table.specs.Value.{RingValue, names_of}
use Rattle.ring_table.specs.Spelling.{format_fields, space_fields, quorum_fields, node_fields, rows_lines}
use Rattle.ring_table.specs.Valid.{IsRing}
use Rattle.ring_table.proofs.LineLaws.{space-le}
use Rattle.ring_table.proofs.writing.write_ring.Goals as goal

lines-written : (a b c d : List (List ℕ)) (xs ys : List (List (List ℕ))) (o1 o2 o3 o4 o5 o6 : List ℕ) → o1 ≡ [] ++ line_text a → o2 ≡ o1 ++ line_text b
    → o3 ≡ o2 ++ line_text c → o4 ≡ o3 ++ text_of xs → o5 ≡ o4 ++ text_of ys → o6 ≡ o5 ++ line_text d
    → o6 ≡ text_of (a ∷ b ∷ c ∷ (xs ++ (ys ++ d ∷ [])))
lines-written a b c d xs ys o1 o2 o3 o4 o5 o6 e1 e2 e3 e4 e5 e6 = rw (e6, e5, e4, e3, e2, e1) (simp (append_assoc, flat_map-append))

rows-few : (v : RingValue) → IsRing v → length v.owners ≤ 4096
rows-few v r = omega (arith, r.partitions, space-le v.q r.space)

pub push_rows-requires : goal.push_rows-requires
push_rows-requires c = rw c.rows.ensures.value (rows-few c.args.ring.now c.rows.ensures.valid)

pub returns-clause-text : goal.returns-clause-text
returns-clause-text c =
    let format = rw (c.new-out.ensures.items, c.format.ensures.value) at c.in_ok-push_format.ensures in
    let space = rw c.q.ensures.value at c.in_ok-push_space.ensures in
    let nodes = rw c.nodes.ensures.value at c.in_ok-push_nodes.ensures in
    let rows = rw (c.nodes-2.ensures.value, c.rows.ensures.value) at c.in_ok-push_rows.ensures in
    let ring = c.args.ring.now in
    lines-written (format_fields ring.format) (space_fields ring.q) (quorum_fields ring.format ring.n ring.r ring.w ring.loss) end_fields (map node_fields ring.nodes) (rows_lines (names_of ring) 0 ring.owners)
    c.push_format.new.out.items c.push_space.new.out.items c.push_quorum.new.out.items c.push_nodes.new.out.items c.push_rows.new.out.items c.extend_from_slice.new.self.items
    format space c.in_ok-push_quorum.ensures nodes rows c.in_ok-extend_from_slice.ensures.items
