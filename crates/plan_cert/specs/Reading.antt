-- Reading a certificate over a ring: the facts and chains of a text, or its first fault.
use Rattle.std.specs.Prelude.{ℕ, Bool, ◌==◌, ◌&&◌, ◌||◌, not, nat_lt, nat_le, List, [], ◌∷◌, length, codes, is_some, Result, Ok, Err, if◌then◌else◌}
use Rattle.std.specs.Str.{bytes_eq}
use Rattle.ring_names.specs.declared.ids.NodeId.{NodeId}
use Rattle.ring_names.specs.declared.refusal.Refusal.{Refusal}
use Rattle.ring_names.specs.declared.refusal.Refusal.TheVariants.{BadLine, TooLarge}
use Rattle.texts.specs.Numbers.{numbers_of, beyond, are_small}
use Rattle.texts.specs.Judging.{Item, ◌⊗◌, field_at, word_at, need_at, map_ok, whole, unless}
use Rattle.texts.specs.Left.{Left, ◌>>=◌, is_word, one_line, many_from, then_part, map_part, whole_text}
use Rattle.texts.specs.Frames.{header_at, end_line_at}
use Rattle.ring_table.specs.declared.allowance.NodeSide.{NodeSide}
use Rattle.ring_table.specs.declared.allowance.Side.{Side}
use Rattle.ring_table.specs.declared.allowance.Side.TheVariants.{Both, Take, Give}
use Rattle.ring_table.specs.Value.{RingValue, allowance_of}
use Rattle.ring_table.specs.Reading.{declared_at}
use Rattle.plan_cert.specs.Chains.{chain_of}
use Rattle.plan_cert.specs.Spelling.{cert_format}
use Rattle.plan_cert.specs.declared.cert.Chain.{Chain}
use Rattle.plan_cert.specs.declared.cert.Cert.{Cert}

-- the steps of a fact
abbrev pub judge_path : ℕ → List ℕ → Result (List ℕ) Refusal
judge_path k xs = unless (
    (not (nat_le 2 (length xs)), BadLine k)
    ∷ (not (nat_le (length xs) 1024), TooLarge k)
    ∷ (not (are_small xs), TooLarge k)
    ∷ []) xs

-- all numbers in front, as such steps
unfoldable pub path_at : ℕ → Item (List ℕ)
path_at k fields = (judge_path k (numbers_of fields), beyond fields)

-- the steps of a chain
abbrev pub judge_steps : ℕ → List ℕ → Result (List ℕ) Refusal
judge_steps k xs = unless (
    (not (nat_le 1 (length xs)), BadLine k)
    ∷ (not (are_small xs), TooLarge k)
    ∷ []) xs

-- all numbers in front, as the steps of a chain
unfoldable pub steps_at : ℕ → Item (List ℕ)
steps_at k fields = (judge_steps k (numbers_of fields), beyond fields)

-- `fact` and its steps, behind the facts seen
unfoldable pub fact_at : List (List ℕ) → ℕ → List (List ℕ) → Result (List ℕ) Refusal
fact_at seen k fields = map_ok (λ x. x.1) (whole k (need_at k (nat_lt (length seen) 262144) ⊗ word_at k (codes "fact") ⊗ path_at k) fields)

-- `chain`, `take` or `give`
abbrev pub judge_side : ℕ → List ℕ → Result Side Refusal
judge_side k word =
    if bytes_eq word (codes "chain") then Ok Both
    else if bytes_eq word (codes "take") then Ok Take
    else if bytes_eq word (codes "give") then Ok Give
    else Err (BadLine k)

-- that word and a declared node
abbrev pub side_node_at : RingValue → ℕ → Item (Side × NodeId)
side_node_at ring k = field_at k (judge_side k) ⊗ declared_at ring k

-- the same as a side of the node, if the node has it
abbrev pub judge_node_side : RingValue → ℕ → Side × NodeId → Result NodeSide Refusal
judge_node_side ring k x = unless ((not (is_some (allowance_of ring x.1.0 x.0)), BadLine k) ∷ []) (record { node = x.1; side = x.0 })

-- a side of a declared node
unfoldable pub node_side_at : RingValue → ℕ → Item NodeSide
node_side_at ring k fields = ((side_node_at ring k fields).0 >>= judge_node_side ring k, (side_node_at ring k fields).1)

-- `chain <node>`, `take <node>` or `give <node>`, and its steps, behind the chains seen
unfoldable pub chain_at : RingValue → List Chain → ℕ → List (List ℕ) → Result Chain Refusal
chain_at ring seen k fields = map_ok (λ x. chain_of x.0.1 x.1)
    (whole k (need_at k (nat_lt (length seen) 65536) ⊗ node_side_at ring k ⊗ steps_at k) fields)

-- a word that begins a chain: `chain`, and not in format 1 `take` and `give`
abbrev pub begins_chain : RingValue → List ℕ → Bool
begins_chain ring word =
    bytes_eq word (codes "chain") || (not (ring.format == 1) && (bytes_eq word (codes "take") || bytes_eq word (codes "give")))

-- the facts, and the chains: lines as long as they begin so
abbrev pub facts_at : Left → Result (List (List ℕ) × Left) Refusal
facts_at s = many_from (is_word (codes "fact")) fact_at [] s.line s.lines

-- chains, as long as lines begin so
abbrev pub chains_at : RingValue → Left → Result (List Chain × Left) Refusal
chains_at ring s = many_from (begins_chain ring) (chain_at ring) [] s.line s.lines

-- what the parts of a certificate say together
abbrev pub cert_of : Unit {0} × (List (List ℕ) × (List Chain × Unit {0})) → Cert
cert_of x = record { facts = x.1.0; chains = x.1.1.0 }

-- the lines of a certificate, one part behind the other
unfoldable pub cert_at : RingValue → Left → Result (Cert × Left) Refusal
cert_at ring = map_part cert_of
    (then_part (one_line (header_at (codes "cert") (cert_format ring))) (λ _.
    then_part facts_at (λ _.
    then_part (chains_at ring) (λ _.
    one_line end_line_at))))

-- a whole text
abbrev pub cert_reading : RingValue → List ℕ → Result Cert Refusal
cert_reading ring text = whole_text (cert_at ring) text
