-- The plan by which nodes join and nothing else happens.
use Rattle.std.specs.Prelude.{List, [], map}
use Rattle.ring_names.specs.declared.ids.NodeId.{NodeId}
use Rattle.plan_text.specs.declared.step.Planned.{Planned}
use Rattle.plan_text.specs.declared.step.Step.TheVariants.{Join}
use Rattle.plan_cert.specs.declared.cert.Cert.{Cert}

-- the step that joins the node, and waits for no other
abbrev pub join_alone : NodeId → Planned
join_alone x = record { step = Join x; after = [] }

-- a step for each node, in their order
abbrev pub joins_alone : List NodeId → List Planned
joins_alone nodes = map join_alone nodes

-- the certificate that says nothing
abbrev pub no_claims : Cert
no_claims = record { facts = []; chains = [] }
