use Rattle.ring_table.proofs.row.+owners.Given as goal

abbrev pub decreases-owners : goal.decreases-owners
decreases-owners l = l.count
