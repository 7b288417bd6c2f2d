-- The checker's clauses as tests, each with its refusal, in the order in which they are tested.
use Rattle.std.specs.Prelude.{ℕ, ◌+◌, List, [], ◌∷◌, ◌++◌, length, min, Option}
use Rattle.ring_names.specs.declared.refusal.Refusal.{Refusal}
use Rattle.ring_names.specs.declared.refusal.Refusal.TheVariants.{BadPath}
use Rattle.ring_table.specs.Value.{RingValue}
use Rattle.plan_text.specs.declared.step.Planned.{Planned}
use Rattle.plan_order.specs.Paths.{is_path}
use Rattle.plan_cert.specs.declared.cert.Cert.{Cert}
use Rattle.plan_stage.specs.Clauses.{first_failing, below, Guard}
use Rattle.plan_check.specs.Certified.{ordered_by}
use Rattle.plan_cover.specs.Clauses.{node_clauses}
use Rattle.plan_stage.specs.Partition.{Test, partition_clauses}

-- the facts by number; those from 2 ^ 32 - 1 on all have that number
abbrev pub fact_clauses : List Planned → ℕ → List (List ℕ) → List Guard
fact_clauses plan n [] = []
fact_clauses plan n (f ∷ fs) = (is_path plan f, BadPath (min n 4294967295)) ∷ fact_clauses plan (n + 1) fs

-- partitions and nodes by number, by a test of the order
abbrev pub rest_clauses : RingValue → List Planned → Cert → Test → List Guard
rest_clauses ring plan cert O =
    below (partition_clauses ring plan O) ring.q ++ below (λ x. node_clauses ring plan cert O (record { 0 = x })) (length ring.nodes)

-- facts, partitions, nodes
abbrev pub all_clauses : RingValue → List Planned → Cert → List Guard
all_clauses ring plan cert = fact_clauses plan 0 cert.facts ++ rest_clauses ring plan cert (ordered_by plan cert)

-- the refusal of the first clause that does not hold
abbrev pub first_refusal : RingValue → List Planned → Cert → Option Refusal
first_refusal ring plan cert = first_failing (all_clauses ring plan cert)
