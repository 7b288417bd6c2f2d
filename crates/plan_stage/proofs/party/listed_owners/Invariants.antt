use Rattle.std.proofs.Common.{◌≡◌, drop, map}
use Rattle.plan_stage.specs.Parties.{owners_before}
use Rattle.plan_stage.proofs.party.listed_owners.Given as goal

abbrev pub invariant-loop-k : goal.invariant-loop-k
invariant-loop-k l = l.party.keys ≡ owners_before l.before.ring.now l.before.plan.now l.before.step (map (λ i. record { partition = l.partition; index = i }) (drop l.k l.from))
