use Rattle.std.proofs.Common.{Bool, List, subst, sym}
use Rattle.plan_around.specs.Ending.{HoldsIn}
use Rattle.plan_around.proofs.ending.ends_well.Goals as goal

pub nodes_end-requires-clause-holders : goal.nodes_end-requires-clause-holders
nodes_end-requires-clause-holders c = subst (λ (marks : List Bool). HoldsIn c.args.it.now marks) (sym c.as_slice.ensures.value) c.in_ok-holders.ensures

pub returns : goal.returns
returns c = λ t w m. record {
  slots = λ p lp i li. c.slots_end.ensures c.if-not-slots_end.false p lp i li w m;
  stay = λ i s e. c.slots_stay.ensures c.if-not-slots_stay.false i s e w m;
  members = λ x l. c.nodes_end.ensures t x l w m;
}
