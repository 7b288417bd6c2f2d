-- The ledgers of these runs.
use Rattle.tests_growths.proofs.by_each.Given as goal

abbrev pub ghosts-ledgered_answers-L-RunLedger : goal.ghosts-ledgered_answers-L-RunLedger
ghosts-ledgered_answers-L-RunLedger g a = record { ring = a.approved.now.ring; plan = a.approved.now.plan }

abbrev pub ghosts-ledgered_answers-L-Ledger : goal.ghosts-ledgered_answers-L-Ledger
ghosts-ledgered_answers-L-Ledger g a = record { name = a.blank.name; parts = a.blank.parts }

abbrev pub ghosts-submitted_answers-L-RunLedger : goal.ghosts-submitted_answers-L-RunLedger
ghosts-submitted_answers-L-RunLedger g a = record { ring = a.approved.now.ring; plan = a.approved.now.plan }

abbrev pub ghosts-submitted_answers-L-Ledger : goal.ghosts-submitted_answers-L-Ledger
ghosts-submitted_answers-L-Ledger g a = record { name = a.blank.name; parts = a.blank.parts }
