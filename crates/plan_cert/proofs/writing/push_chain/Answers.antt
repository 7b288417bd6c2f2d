use Rattle.ring_table.specs.Value.{names_of}
use Rattle.plan_cert.specs.Chains.{chain_of}
use Rattle.plan_cert.proofs.Written.{chain-written}
use Rattle.plan_cert.proofs.writing.push_chain.Goals as goal

pub returns : goal.returns
returns c = chain-written (names_of c.args.ring.now) (chain_of c.args.of c.args.steps.now) c.args.out.now.items c.extend_from_slice.new.self.items c.push_name.new.out.items c.push_numbers.new.out.items c.push.new.self.items
    (rw c.word_of.ensures at c.in_ok-extend_from_slice.ensures.items) (rw c.nodes.ensures.value at c.in_ok-push_name.ensures) c.in_ok-push_numbers.ensures c.in_ok-push.ensures.items
