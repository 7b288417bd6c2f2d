use Rattle.plan_stage.proofs.Copies.{copy-suits}
use Rattle.plan_stage.proofs.party.parties_on.Goals as goal

pub copy_parties-requires-clause-partition : goal.copy_parties-requires-clause-partition
copy_parties-requires-clause-partition c =
    (copy-suits c.args.ring.now c.args.plan.now c.args.step c.step.result.now c.in-Copy.slot c.in-Copy.source c.requires.suits c.step.ensures.value c.in-Copy.is).0

pub copy_parties-requires-clause-index : goal.copy_parties-requires-clause-index
copy_parties-requires-clause-index c =
    (copy-suits c.args.ring.now c.args.plan.now c.args.step c.step.result.now c.in-Copy.slot c.in-Copy.source c.requires.suits c.step.ensures.value c.in-Copy.is).1

pub copy_parties-requires-clause-suits : goal.copy_parties-requires-clause-suits
copy_parties-requires-clause-suits c =
    (copy-suits c.args.ring.now c.args.plan.now c.args.step c.step.result.now c.in-Copy.slot c.in-Copy.source c.requires.suits c.step.ensures.value c.in-Copy.is).2
