-- The ledger of this run.
use Rattle.tests_threads.proofs.executors.two_threads_fill_one_history.Given as goal

abbrev pub ghosts-by_two-L-RunLedger : goal.ghosts-by_two-L-RunLedger
ghosts-by_two-L-RunLedger g a = record { ring = a.approved.now.ring; plan = a.approved.now.plan }

abbrev pub ghosts-by_two-L-Ledger : goal.ghosts-by_two-L-Ledger
ghosts-by_two-L-Ledger g a = record { name = a.blank.name; parts = a.blank.parts }
