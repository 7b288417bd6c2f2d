use Rattle.std.proofs.Common.{◌≡◌, ℕ, List, Ok, refl}
use Rattle.texts.specs.Laws.{SomeLeft}
use Rattle.texts.specs.Left.{Left, one_line, then_part}
use Rattle.texts.proofs.Forms.{some-first}
use Rattle.ring_names.specs.declared.ids.NodeId.{NodeId}
use Rattle.texts.proofs.Lates.{late-part, to-after}
use Rattle.ring_table.specs.declared.head.Head.{Head}
use Rattle.ring_table.specs.declared.head.Quorum.{Quorum}
use Rattle.ring_table.specs.declared.node.Node.{Node}
use Rattle.ring_table.specs.Kept.{body_of}
use Rattle.ring_table.specs.Reading.{format_at, space_at, quorum_at, head_at, body_at, ring_of, ring_at}
use Rattle.ring_table.specs.Valid.{IsRing}
use Rattle.ring_table.proofs.RingLaws.{ring-part}
use Rattle.ring_table.proofs.reading.read_ring_section.Goals as goal

some-head : (s t : Left) (h : Head) → head_at s ≡ Ok (h, t) → SomeLeft s
unfolding head_at
some-head = some-first (λ (x : ℕ × (ℕ × Quorum)). record { format = x.0; q = x.1.0; quorum = x.1.1 }) format_at
    (λ format. then_part (one_line space_at) (λ _. one_line (quorum_at format)))

ring-valid : (s t u : Left) (h : Head) (b : List Node × List (List NodeId)) → head_at s ≡ Ok (h, t) → body_at h t ≡ Ok (b, u) → IsRing (ring_of h b)
unfolding ring_at
ring-valid s t u h b e f = (ring-part.takes s u (ring_of h b) (some-head s t h e) (rw (e, f) refl)).1

pub assemble-requires : goal.assemble-requires
assemble-requires c = ring-valid c.args.lines.now c.read_head.new.lines c.read_body.new.lines c.in_ok-head.head (body_of c.in_ok-declared.field-0) c.in_ok-head.ensures.read c.in_ok-declared.ensures.read

pub returns-in_err-declared-clause-late : goal.returns-in_err-declared-clause-late
unfolding ring_at
returns-in_err-declared-clause-late c = late-part 4 c.from_residual-in_err-declared.result c.in_err-declared.field-0.0 c.args.lines.now c.read_body.new.lines (ring_at c.args.lines.now) c.from_residual-in_err-declared.ensures.1 c.in_err-declared.ensures.late
    (λ p. (rw c.in_ok-head.ensures.line at p.0, to-after (λ (x : Head × (List Node × List (List NodeId))). ring_of x.0 x.1) head_at body_at c.read_body.new.lines.line c.args.lines.now c.read_head.new.lines c.in_ok-head.head c.in_ok-head.ensures.read p.1))
