-- Reading a ring: the value of a text, or its first fault.
use Rattle.std.specs.Prelude.{ℕ, zero, suc, ◌+◌, ◌&&◌, Bool, true, false, not, nat_lt, nat_le, List, [], ◌∷◌, length, map, codes, Option, Some, None, Result, Ok, Err}
use Rattle.std.specs.Prelude.{is_some, if◌then◌else◌}
use Rattle.std.specs.Fmt.{decimal}
use Rattle.std.specs.List.{list_all}
use Rattle.std.specs.Str.{bytes_eq}
use Rattle.ring_names.specs.Lists.{all_different}
use Rattle.ring_names.specs.Names.{place}
use Rattle.ring_names.specs.declared.ids.NodeId.{NodeId}
use Rattle.ring_names.specs.declared.refusal.Refusal.{Refusal}
use Rattle.ring_names.specs.declared.refusal.Refusal.TheVariants.{BadLine, UnknownNode, Repeated, QuorumTooSmall, SharedNode, NotMember}
use Rattle.texts.specs.Name.{is_name}
use Rattle.texts.specs.Number.{decimal_value}
use Rattle.texts.specs.Numbers.{first_value}
use Rattle.texts.specs.Judging.{Item, ◌⊗◌, field_at, word_at, number_at, need_at, limited, map_ok, map_item, whole, unless}
use Rattle.texts.specs.Left.{Left, ◌>>=◌, is_word, one_line, then_part, many_from, map_part, whole_text}
use Rattle.texts.specs.Frames.{end_line_at}
use Rattle.ring_table.specs.declared.head.Quorum.{Quorum}
use Rattle.ring_table.specs.declared.head.Head.{Head}
use Rattle.ring_table.specs.declared.allowance.Allowance.{Allowance}
use Rattle.ring_table.specs.declared.allowance.Allowance.TheVariants.{Joint, Split}
use Rattle.ring_table.specs.declared.node.Node.{Node}
use Rattle.ring_table.specs.Value.{RingValue, names_of, is_member}
use Rattle.ring_names.specs.Space.{is_space}
use Rattle.ring_table.specs.Valid.{is_quorum}

-- the format of a ring
abbrev pub judge_format : ℕ → List ℕ → Result ℕ Refusal
judge_format k field =
    if bytes_eq field (codes "1") then Ok 1
    else if bytes_eq field (codes "2") then Ok 2
    else if bytes_eq field (codes "3") then Ok 3
    else Err (BadLine k)

-- `ring <format>`
unfoldable pub format_at : ℕ → List (List ℕ) → Result ℕ Refusal
format_at k fields = map_ok (λ x. x.1) (whole k (word_at k (codes "ring") ⊗ field_at k (judge_format k)) fields)

-- `space <q>`
unfoldable pub space_at : ℕ → List (List ℕ) → Result ℕ Refusal
space_at k fields = do
  x ← whole k (word_at k (codes "space") ⊗ number_at k 4096) fields
  unless ((not (is_space x.1), BadLine k) ∷ []) x.1

-- numbers that are a quorum
abbrev pub judge_quorum : ℕ → ℕ → ℕ → ℕ → ℕ → Result Quorum Refusal
judge_quorum k n r w loss = unless ((not (is_quorum n r w loss), QuorumTooSmall k) ∷ []) (record { n = n; r = r; w = w; loss = loss })

-- how many stores may be lost, where the format says it
unfoldable pub loss_at : ℕ → ℕ → Item ℕ
loss_at format k fields = if nat_lt format 3 then (Ok 0, fields) else number_at k 6 fields

-- `quorum <n> <r> <w>`, and in format 3 ` <f>`
unfoldable pub quorum_at : ℕ → ℕ → List (List ℕ) → Result Quorum Refusal
quorum_at format k fields = do
  x ← whole k (word_at k (codes "quorum") ⊗ number_at k 7 ⊗ number_at k 7 ⊗ number_at k 7 ⊗ loss_at format k) fields
  judge_quorum k x.0.0.0.1 x.0.0.1 x.0.1 x.1

-- a name that no node in front has
abbrev pub judge_new : ℕ → List (List ℕ) → List ℕ → Result (List ℕ) Refusal
judge_new k names field = if is_name field then (if is_some (place names field) then Err (Repeated k) else Ok field) else Err (BadLine k)

-- a number from 1 to 64
abbrev pub above_zero : ℕ → ℕ → Result ℕ Refusal
above_zero k zero = Err (BadLine k)
above_zero k (suc n) = Ok (suc n)

-- a number of transfers
abbrev pub judge_most : ℕ → List ℕ → Result ℕ Refusal
judge_most k field = limited k 64 (decimal_value field) >>= above_zero k

-- such a number, where the format has a second one and a number stands in front
unfoldable pub second_at : ℕ → ℕ → Item (Option ℕ)
second_at format k fields =
    if nat_le 2 format && is_some (first_value fields) then map_item Some (field_at k (judge_most k)) fields else (Ok None, fields)

-- the allowance of one number, or of two
abbrev pub made : ℕ → Option ℕ → Allowance
made first None = Joint first
made first (Some second) = Split first second

-- `<allowance>`, or in formats 2 and 3 also `<take> <give>`
unfoldable pub allowance_at : ℕ → ℕ → Item Allowance
allowance_at format k = map_item (λ x. made x.0 x.1) (field_at k (judge_most k) ⊗ second_at format k)

-- `in` or `out`
abbrev pub judge_membership : ℕ → List ℕ → Result Bool Refusal
judge_membership k field = if bytes_eq field (codes "in") then Ok true else (if bytes_eq field (codes "out") then Ok false else Err (BadLine k))

-- `node <name> <allowance> in` or `.. out`, behind the nodes seen
unfoldable pub node_at : ℕ → List Node → ℕ → List (List ℕ) → Result Node Refusal
node_at format seen k fields = map_ok (λ x. record { name = x.0.0.1; allowance = x.0.1; is_member = x.1 })
    (whole k (need_at k (nat_lt (length seen) 1024) ⊗ word_at k (codes "node") ⊗ field_at k (judge_new k (map (λ y. y.name) seen))
    ⊗ allowance_at format k ⊗ field_at k (judge_membership k)) fields)

-- one or more of them: lines as long as they begin so
unfoldable pub nodes_at : ℕ → Left → Result (List Node × Left) Refusal
nodes_at format s = do
  x ← many_from (is_word (codes "node")) (node_at format) [] s.line s.lines
  unless ((not (nat_lt 0 (length x.0)), BadLine x.1.line) ∷ []) x

-- a declared node
abbrev pub judge_declared : ℕ → List (List ℕ) → List ℕ → Result NodeId Refusal
judge_declared k names field =
    if is_name field then elim (place names field) [ Some n ↦ Ok (record { 0 = n }) | None ↦ Err (UnknownNode k) ] else Err (BadLine k)

-- one of a ring
unfoldable pub declared_at : RingValue → ℕ → Item NodeId
declared_at ring k = field_at k (judge_declared k (names_of ring))

-- so many of them
abbrev pub owners_at : ℕ → List (List ℕ) → ℕ → Item (List NodeId)
owners_at k names zero fields = (Ok [], fields)
owners_at k names (suc m) fields = map_item (λ x. x.0 ∷ x.1) (field_at k (judge_declared k names) ⊗ owners_at k names m) fields

-- `slots <p>` and the n owners
unfoldable pub row_at : List Node → ℕ → ℕ → ℕ → List (List ℕ) → Result (List NodeId) Refusal
row_at nodes n p k fields = do
  x ← whole k (word_at k (codes "slots") ⊗ word_at k (decimal p) ⊗ owners_at k (map (λ y. y.name) nodes) n) fields
  unless ((not (all_different (map (λ y. y.0) x.1)), SharedNode k) ∷ (not (list_all (is_member nodes) x.1), NotMember k) ∷ []) x.1

-- so many rows, from partition p on
unfoldable pub rows_at : List Node → ℕ → ℕ → ℕ → Left → Result (List (List NodeId) × Left) Refusal
rows_at nodes n p zero s = Ok ([], s)
rows_at nodes n p (suc c) s = map_part (λ x. x.0 ∷ x.1) (then_part (one_line (row_at nodes n p)) (λ _. rows_at nodes n (p + 1) c)) s

-- the first lines: the format, the partitions and the quorum
unfoldable pub head_at : Left → Result (Head × Left) Refusal
head_at = map_part (λ (x : ℕ × (ℕ × Quorum)). record { format = x.0; q = x.1.0; quorum = x.1.1 })
    (then_part (one_line format_at) (λ format.
    then_part (one_line space_at) (λ _.
    one_line (quorum_at format))))

-- the nodes and the owners of a ring with this head, and `end`
unfoldable pub body_at : Head → Left → Result ((List Node × List (List NodeId)) × Left) Refusal
body_at head = map_part (λ (x : List Node × (List (List NodeId) × Unit {0})). (x.0, x.1.0))
    (then_part (nodes_at head.format) (λ nodes.
    then_part (rows_at nodes head.quorum.n 0 head.q) (λ _.
    one_line end_line_at)))

-- what head and body of a ring say together
abbrev pub ring_of : Head → List Node × List (List NodeId) → RingValue
ring_of head body = record {
  format = head.format;
  q = head.q;
  n = head.quorum.n;
  r = head.quorum.r;
  w = head.quorum.w;
  loss = head.quorum.loss;
  nodes = body.0;
  owners = body.1;
}

-- the lines of a ring, one part behind the other
unfoldable pub ring_at : Left → Result (RingValue × Left) Refusal
ring_at = map_part (λ x. ring_of x.0 x.1) (then_part head_at body_at)

-- a whole text
abbrev pub ring_reading : List ℕ → Result RingValue Refusal
ring_reading = whole_text ring_at
