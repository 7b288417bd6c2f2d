-- The ledgers of these runs.
use Rattle.tests_threads.proofs.restores.a_store_goes_on_behind_a_history.Given as goal

abbrev pub ghosts-recorded-L-RunLedger : goal.ghosts-recorded-L-RunLedger
ghosts-recorded-L-RunLedger g a = record { ring = a.approved.now.ring; plan = a.approved.now.plan }

abbrev pub ghosts-recorded-L-Ledger : goal.ghosts-recorded-L-Ledger
ghosts-recorded-L-Ledger g a = record { name = a.blank.name; parts = a.blank.parts }

abbrev pub ghosts-gone_on-L-RunLedger : goal.ghosts-gone_on-L-RunLedger
ghosts-gone_on-L-RunLedger g a = record { ring = a.approved.now.ring; plan = a.approved.now.plan }

abbrev pub ghosts-gone_on-L-Ledger : goal.ghosts-gone_on-L-Ledger
ghosts-gone_on-L-Ledger g a = record { name = a.blank.name; parts = a.blank.parts }
