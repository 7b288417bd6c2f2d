-- The ledger of this run.
use Rattle.tests_threads.proofs.receipts.receipts_stand_in_the_history.Given as goal

abbrev pub ghosts-compared-L-RunLedger : goal.ghosts-compared-L-RunLedger
ghosts-compared-L-RunLedger g a = record { ring = a.approved.now.ring; plan = a.approved.now.plan }

abbrev pub ghosts-compared-L-Ledger : goal.ghosts-compared-L-Ledger
ghosts-compared-L-Ledger g a = record { name = a.blank.name; parts = a.blank.parts }
