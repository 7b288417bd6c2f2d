-- The ledger of this store.
use Rattle.tests_threads.proofs.attempts.with_down.Given as goal

abbrev pub ghosts-without-L-RunLedger : goal.ghosts-without-L-RunLedger
ghosts-without-L-RunLedger g a = record { ring = a.approved.now.ring; plan = a.approved.now.plan }

abbrev pub ghosts-without-L-Ledger : goal.ghosts-without-L-Ledger
ghosts-without-L-Ledger g a = record { name = a.blank.name; parts = a.blank.parts }
