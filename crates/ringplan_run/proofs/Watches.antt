-- A run by a line of words that may ask for a watch.
use Rattle.std.proofs.Common.{◌≡◌, ℕ, List, [], ◌∷◌, Option, drop, inl, inr, sym, ap, ◌∙◌}
use Rattle.ringplan_request.specs.declared.job.Job.{Job}
use Rattle.ringplan_command.specs.Command.{asked, only, to_do, to_watch}
use Rattle.ringplan_command.specs.Files.{files_of, no_files}
use Rattle.ringplan_command.specs.Tree.{word_of}
use Rattle.ringplan_command.proofs.Commands.{asked_alone}
use Rattle.ringplan_run.specs.Watch.{RunsLine}
use Rattle.ringplan_run.proofs.Deliveries.{RanBy, ran_alone}

-- a line of only a job's word asks for no watch
pub ran_job : (job : Job) (words : List (List ℕ)) (input left old new : Option (List ℕ)) (result : ℕ) → drop 1 words ≡ word_of job ∷ [] → RunsLine (asked words) (files_of words) input left old new result
    → RanBy (only job) no_files input old new result
ran_job job words input left old new result e (inl ran) = ran_alone job words input old new result e ran
ran_job job words input left old new result e (inr (every, (text, is, count), prints)) = (let task : to_watch text ≡ to_do job = ap (λ x. x.task) (sym is ∙ asked_alone job words e) in absurd cc)
