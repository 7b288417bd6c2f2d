-- The one text of each certificate.
use Rattle.std.specs.Prelude.{ℕ, ◌==◌, List, [], ◌∷◌, ◌++◌, map, codes, if◌then◌else◌}
use Rattle.std.specs.Fmt.{decimal}
use Rattle.texts.specs.Parts.{text_of}
use Rattle.texts.specs.Frames.{header_fields, end_fields}
use Rattle.ring_table.specs.Value.{RingValue, names_of}
use Rattle.ring_table.specs.declared.allowance.Side.{Side}
use Rattle.ring_table.specs.declared.allowance.Side.TheVariants.{Both, Take, Give}
use Rattle.ring_table.specs.Spelling.{name_at}
use Rattle.plan_cert.specs.declared.cert.Chain.{Chain}
use Rattle.plan_cert.specs.declared.cert.Cert.{Cert}

-- the line of a fact
abbrev pub fact_fields : List ℕ → List (List ℕ)
fact_fields path = codes "fact" ∷ map decimal path

-- the word of a chain of that side
abbrev pub side_word : Side → List ℕ
side_word Both = codes "chain"
side_word Take = codes "take"
side_word Give = codes "give"

-- the line of a chain
abbrev pub chain_fields : List (List ℕ) → Chain → List (List ℕ)
chain_fields names c = side_word c.side ∷ name_at names c.node ∷ map decimal c.steps

-- the format of a certificate of plans over the ring
abbrev pub cert_format : RingValue → List ℕ
cert_format ring = if ring.format == 1 then codes "1" else codes "2"

-- the lines of a certificate
abbrev pub cert_lines : RingValue → Cert → List (List (List ℕ))
cert_lines ring v = header_fields (codes "cert") (cert_format ring) ∷ (map fact_fields v.facts ++ (map (chain_fields (names_of ring)) v.chains ++ end_fields ∷ []))

-- its text
abbrev pub cert_text : RingValue → Cert → List ℕ
cert_text ring v = text_of (cert_lines ring v)
