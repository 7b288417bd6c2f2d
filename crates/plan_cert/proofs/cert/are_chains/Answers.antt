use Rattle.std.proofs.Common.{sym, ◌∙◌}
use Rattle.plan_cert.specs.Valid.{is_chain}
use Rattle.plan_cert.proofs.ChainLaws.{chain-at}
use Rattle.texts.proofs.Places.{all-more, all-but}
use Rattle.plan_cert.proofs.cert.are_chains.Goals as goal

pub loop-place-preserved : goal.loop-place-preserved
loop-place-preserved c = all-more c.args.chains.now c.loop-place.place _ (chain-at c.args.chains.now c.loop-place.place c.of.result c.steps.result.now c.of.ensures c.steps.ensures) (is_chain c.args.ring.now) c.loop-place.invariant (sym c.is_chain.ensures ∙ c.if-not-is_chain.false)

pub returns-then-not-is_chain : goal.returns-then-not-is_chain
returns-then-not-is_chain c = sym (all-but c.args.chains.now c.loop-place.place _ (chain-at c.args.chains.now c.loop-place.place c.of.result c.steps.result.now c.of.ensures c.steps.ensures) (is_chain c.args.ring.now) (sym c.is_chain.ensures ∙ c.if-not-is_chain.true))
