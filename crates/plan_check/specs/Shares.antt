-- The partitions in shares, one for each worker.
use Rattle.std.specs.Prelude.{ℕ, ◌+◌, ◌-◌, ◌*◌, ◌/◌, ◌<◌, List, min, max}
use Rattle.ring_table.specs.Value.{RingValue}
use Rattle.plan_text.specs.declared.step.Planned.{Planned}
use Rattle.plan_stage.specs.Clauses.{Guard, Gives, below}
use Rattle.plan_stage.specs.Partition.{Test, partition_clauses}
use Rattle.plan_check.specs.declared.shares.ShareOutcome.{ShareOutcome}
use Rattle.plan_check.specs.declared.shares.ShareOutcome.TheVariants.{Stopped, Checked}

-- how many shares there are: as many as workers, but not more than partitions, and at least one
abbrev pub share_count : ℕ → ℕ → ℕ
share_count workers q = max 1 (min workers q)

-- the first partition in share s, if q partitions have so many shares; rounded down
abbrev pub first_of : ℕ → ℕ → ℕ → ℕ
first_of q shares s = s * q / shares

-- the clauses of the partitions from a on, up to but not including b
abbrev pub share_clauses : RingValue → List Planned → Test → ℕ → ℕ → List Guard
share_clauses ring plan O a b = below (λ p. partition_clauses ring plan O (a + p)) (b - a)

-- one of the passes with which workers begin their shares may be refused
abbrev pub MayStop : (ℕ → ℕ → Type 0) → ℕ → ℕ → Type 0
MayStop may_refuse workers q = (s : ℕ) × (s < share_count workers q) × may_refuse s (first_of q (share_count workers q) s)

-- one of the passes with which workers begin their shares is refused for certain
abbrev pub MustStop : (ℕ → ℕ → Type 0) → ℕ → ℕ → Type 0
MustStop must_refuse workers q = (s : ℕ) × (s < share_count workers q) × must_refuse s (first_of q (share_count workers q) s)

-- what may come of share s: the pass was refused, or it was let through, and what was found is what the
-- partitions give
abbrev pub IsOutcome : RingValue → List Planned → Test → (ℕ → ℕ → Type 0) → (ℕ → ℕ → Type 0) → ℕ → ℕ → ShareOutcome → Type 0
IsOutcome ring plan O may_refuse must_refuse shares s Stopped = may_refuse s (first_of ring.q shares s)
IsOutcome ring plan O may_refuse must_refuse shares s (Checked r) = (must_refuse s (first_of ring.q shares s) → ⊥) × Gives r (share_clauses ring plan O (first_of ring.q shares s) (first_of ring.q shares (s + 1)))
