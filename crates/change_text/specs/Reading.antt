-- Reading a change of a ring: the joins and leaves of a text, or its first fault.
use Rattle.std.specs.Prelude.{ℕ, ◌||◌, not, List, [], ◌∷◌, map, codes, Result}
use Rattle.ring_names.specs.Lists.{has}
use Rattle.ring_names.specs.declared.ids.NodeId.{NodeId}
use Rattle.ring_names.specs.declared.refusal.Refusal.{Refusal}
use Rattle.ring_names.specs.declared.refusal.Refusal.TheVariants.{Repeated, NotMember}
use Rattle.texts.specs.Judging.{Item, ◌⊗◌, word_at, map_ok, whole, unless}
use Rattle.texts.specs.Left.{Left, ◌>>=◌, is_word, one_line, many_from, then_part, map_part, whole_text}
use Rattle.texts.specs.Frames.{header_at, end_line_at}
use Rattle.ring_table.specs.Value.{RingValue, is_member}
use Rattle.ring_table.specs.Reading.{declared_at}
use Rattle.change_text.specs.declared.change.Change.{Change}

-- a node that is not a member, and is not named yet
unfoldable pub joining_at : RingValue → List NodeId → ℕ → Item NodeId
joining_at ring seen k fields = (
  ((declared_at ring k fields).0 >>= λ x. unless ((is_member ring.nodes x || has x.0 (map (λ y. y.0) seen), Repeated k) ∷ []) x),
  (declared_at ring k fields).1,
)

-- a member that is not named yet, behind all joins
unfoldable pub leaving_at : RingValue → List NodeId → List NodeId → ℕ → Item NodeId
leaving_at ring joins seen k fields = (
  ((declared_at ring k fields).0 >>= λ x. unless (
      (has x.0 (map (λ y. y.0) joins) || has x.0 (map (λ y. y.0) seen), Repeated k)
      ∷ (not (is_member ring.nodes x), NotMember k)
      ∷ []) x),
  (declared_at ring k fields).1,
)

-- `join <node>`, behind the joins seen
unfoldable pub join_at : RingValue → List NodeId → ℕ → List (List ℕ) → Result NodeId Refusal
join_at ring seen k fields = map_ok (λ x. x.1) (whole k (word_at k (codes "join") ⊗ joining_at ring seen k) fields)

-- `leave <node>`, behind all joins and the leaves seen
unfoldable pub leave_at : RingValue → List NodeId → List NodeId → ℕ → List (List ℕ) → Result NodeId Refusal
leave_at ring joins seen k fields = map_ok (λ x. x.1) (whole k (word_at k (codes "leave") ⊗ leaving_at ring joins seen k) fields)

-- joins behind those seen: lines as long as they begin so
abbrev pub joins_from : RingValue → List NodeId → Left → Result (List NodeId × Left) Refusal
joins_from ring seen s = many_from (is_word (codes "join")) (join_at ring) seen s.line s.lines

-- leaves behind all joins and the leaves seen, likewise
abbrev pub leaves_from : RingValue → List NodeId → List NodeId → Left → Result (List NodeId × Left) Refusal
leaves_from ring joins seen s = many_from (is_word (codes "leave")) (leave_at ring joins) seen s.line s.lines

-- all joins
abbrev pub joins_at : RingValue → Left → Result (List NodeId × Left) Refusal
joins_at ring s = joins_from ring [] s

-- all leaves behind them
abbrev pub leaves_at : RingValue → List NodeId → Left → Result (List NodeId × Left) Refusal
leaves_at ring joins s = leaves_from ring joins [] s

-- what the parts of a change say together
abbrev pub change_of : Unit {0} × (List NodeId × (List NodeId × Unit {0})) → Change
change_of x = record { joins = x.1.0; leaves = x.1.1.0 }

-- the lines of a change, one part behind the other
unfoldable pub change_at : RingValue → Left → Result (Change × Left) Refusal
change_at ring = map_part change_of
    (then_part (one_line (header_at (codes "change") (codes "1"))) (λ _.
    then_part (joins_at ring) (λ joins.
    then_part (leaves_at ring joins) (λ _.
    one_line end_line_at))))

-- a whole text
abbrev pub change_reading : RingValue → List ℕ → Result Change Refusal
change_reading ring text = whole_text (change_at ring) text
