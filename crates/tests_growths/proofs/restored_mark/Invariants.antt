-- The ledger of this run.
use Rattle.tests_growths.proofs.restored_mark.Given as goal

abbrev pub ghosts-restored-L-RunLedger : goal.ghosts-restored-L-RunLedger
ghosts-restored-L-RunLedger a = record { ring = a.approved.now.ring; plan = a.approved.now.plan }

abbrev pub ghosts-restored-L-Ledger : goal.ghosts-restored-L-Ledger
ghosts-restored-L-Ledger a = record { name = a.blank.name; parts = a.blank.parts }
