use Rattle.ring_table.specs.Value.{names_of}
use Rattle.plan_text.proofs.PlainLaws.{slot-node, declared}
use Rattle.plan_text.proofs.plain.plain_slot_node.Goals as goal

pub returns-clause-text : goal.returns-clause-text
returns-clause-text c =
    slot-node (names_of c.args.ring.now) c.in_ok-slot.slot c.in_ok-node.node c.args.text.now c.in_ok-slot.rest.now c.in_ok-rest.rest.now c.plain_word.result.0.now c.plain_word.result.1.now
    c.in_ok-slot.ensures.text c.in_ok-rest.ensures c.plain_word.ensures c.in_ok-node.ensures.value

pub returns-clause-node : goal.returns-clause-node
returns-clause-node c = declared c.args.ring.now c.in_ok-node.node c.plain_word.result.0.now c.in_ok-node.ensures.value
