-- The ledgers of these runs.
use Rattle.tests_threads.proofs.restores.refused.Given as goal

abbrev pub ghosts-recorded-L-RunLedger : goal.ghosts-recorded-L-RunLedger
ghosts-recorded-L-RunLedger a = record { ring = a.approved.now.ring; plan = a.approved.now.plan }

abbrev pub ghosts-recorded-L-Ledger : goal.ghosts-recorded-L-Ledger
ghosts-recorded-L-Ledger a = record { name = a.blank.name; parts = a.blank.parts }

abbrev pub ghosts-refusal_of-L-RunLedger : goal.ghosts-refusal_of-L-RunLedger
ghosts-refusal_of-L-RunLedger a = record { ring = a.approved.now.ring; plan = a.approved.now.plan }

abbrev pub ghosts-refusal_of-L-Ledger : goal.ghosts-refusal_of-L-Ledger
ghosts-refusal_of-L-Ledger a = record { name = a.blank.name; parts = a.blank.parts }
