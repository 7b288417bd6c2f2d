use Rattle.std.proofs.Common.{ℕ, List, [], ◌∷◌, ◌++◌, codes, ap, ◌∙◌, append_assoc}
use Rattle.std.specs.Fmt.{decimal}
use Rattle.std.specs.List.{join_with_byte}
use Rattle.texts.proofs.Spaced.{two-parts}
use Rattle.ring_table.specs.Spelling.{loss_fields, quorum_fields}
use Rattle.ring_table.proofs.writing.push_quorum.Goals as goal

pub returns : goal.returns
returns c =
    let ring = c.args.ring.now in
    let out = c.args.out.now.items in
    let numbers = rw (c.n.ensures.value, c.r.ensures.value, c.w.ensures.value) at c.in_ok-push_numbers.ensures in
    let loss = rw (c.format.ensures.value, c.loss.ensures.value) at c.in_ok-push_loss.ensures in
    let all = two-parts out c.extend_from_slice.new.self.items c.push_numbers.new.out.items c.push_loss.new.out.items (codes "quorum") (decimal ring.n ∷ decimal ring.r ∷ decimal ring.w ∷ []) (loss_fields ring.format ring.loss) c.in_ok-extend_from_slice.ensures.items numbers loss in
    c.in_ok-push.ensures.items ∙ ap (λ (l : List ℕ). l ++ 10 ∷ []) all ∙ append_assoc out (join_with_byte 32 (quorum_fields ring.format ring.n ring.r ring.w ring.loss)) (10 ∷ [])
