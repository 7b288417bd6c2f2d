-- The ledger of this run.
use Rattle.tests_threads.proofs.executors.a_history_may_be_full.Given as goal

abbrev pub ghosts-full-L-RunLedger : goal.ghosts-full-L-RunLedger
ghosts-full-L-RunLedger g a = record { ring = a.approved.now.ring; plan = a.approved.now.plan }

abbrev pub ghosts-full-L-Ledger : goal.ghosts-full-L-Ledger
ghosts-full-L-Ledger g a = record { name = a.blank.name; parts = a.blank.parts }
