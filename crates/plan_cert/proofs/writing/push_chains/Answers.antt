use Rattle.ring_table.specs.Value.{names_of}
use Rattle.plan_cert.specs.Spelling.{chain_fields}
use Rattle.plan_cert.proofs.ChainLaws.{chain-at}
use Rattle.texts.proofs.Places.{lines-more}
use Rattle.plan_cert.proofs.writing.push_chains.Goals as goal

pub loop-place-preserved : goal.loop-place-preserved
loop-place-preserved c = lines-more c.args.chains.now c.loop-place.place _ (chain-at c.args.chains.now c.loop-place.place c.of.result c.steps.result.now c.of.ensures c.steps.ensures) (chain_fields (names_of c.args.ring.now)) c.args.out.now.items c.loop-place.out.items c.push_chain.new.out.items c.loop-place.invariant c.in_ok-push_chain.ensures
