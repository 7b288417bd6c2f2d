-- The ledgers of these runs.
use Rattle.tests_threads.proofs.restores.a_history_may_be_too_long.Given as goal

abbrev pub ghosts-refusal_of-L-RunLedger : goal.ghosts-refusal_of-L-RunLedger
ghosts-refusal_of-L-RunLedger g a = record { ring = a.approved.now.ring; plan = a.approved.now.plan }

abbrev pub ghosts-refusal_of-L-Ledger : goal.ghosts-refusal_of-L-Ledger
ghosts-refusal_of-L-Ledger g a = record { name = a.blank.name; parts = a.blank.parts }
