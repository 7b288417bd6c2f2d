-- The ledger of this run.
use Rattle.ring_work.proofs.resuming.resume.Given as goal

abbrev pub ghosts-resume_as-L-RunLedger : goal.ghosts-resume_as-L-RunLedger
ghosts-resume_as-L-RunLedger g a = record { ring = a.job.now.approved.now.ring; plan = a.job.now.approved.now.plan }

abbrev pub ghosts-resume_as-L-Ledger : goal.ghosts-resume_as-L-Ledger
ghosts-resume_as-L-Ledger g a = record { name = a.blank.name; parts = a.blank.parts }
