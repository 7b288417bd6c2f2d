use Rattle.std.proofs.Common.{inl, refl}
use Rattle.ringplan_answers.specs.Answers.{texts_of}
use Rattle.ringplan_command.specs.Command.{only}
use Rattle.ringplan_run.proofs.Runs.{ran_found}
use Rattle.ringplan_run.proofs.program.run_alone.Goals as goal

pub returns : goal.returns
returns g c =
    ran_found (only c.args.job) c.args.job (g.R.Read.remaining c.args.input.now) _ _ (texts_of c.answer_input-found.result) c.tell.result (inl refl) c.answer_input-found.ensures c.tell.ensures
