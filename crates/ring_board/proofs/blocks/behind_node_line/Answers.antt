use Rattle.std.proofs.Common.{rules, ◌≡◌, ◌∙◌, ◌∷◌, length, sym, ap, arith}
use Rattle.std.proofs.lemmas.Bool.{true≢false}
use Rattle.ring_board.specs.declared.receipt.Receipt.{Receipt}
use Rattle.ring_board.proofs.Fronts.{heads}
use Rattle.ring_board.proofs.NodeLines.{node_there, node_not_there}
use Rattle.ring_board.proofs.blocks.behind_node_line.Goals as goal

pub returns-in_default : goal.returns-in_default
returns-in_default c asked = node_not_there asked c.args.line.now c.args.list.now c.requires (λ r rs is event. (
    let none : length c.args.list.now ≡ 0 = c.in_default.ensures.cases in
    let some = ap length is in
    omega arith))

pub returns-then-is_same_event : goal.returns-then-is_same_event
returns-then-is_same_event c asked = node_there asked c.args.line.now c.args.list.now c.in-Some.later.now c.in-Some.first.now c.requires (search rules) (search rules)

pub returns-else-is_same_event : goal.returns-else-is_same_event
returns-else-is_same_event c asked = node_not_there asked c.args.line.now c.args.list.now c.requires (λ r rs is event. (
    let there : c.args.list.now ≡ c.in-Some.first.now ∷ c.in-Some.later.now = search rules in
    true≢false (sym (c.if-is_same_event.ensures.1 (ap (λ (x : Receipt). x.event) (heads (sym there ∙ is)) ∙ event)))))
