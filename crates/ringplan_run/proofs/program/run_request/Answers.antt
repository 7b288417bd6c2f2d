use Rattle.std.proofs.Common.{rules, [], subst, refl, inl, inr}
use Rattle.ringplan_request.specs.declared.job.Job.TheVariants.{Check}
use Rattle.ringplan_answers.specs.Answers.{texts_of}
use Rattle.ringplan_command.specs.Command.{Answers}
use Rattle.ringplan_command.specs.declared.command.Request.{Request}
use Rattle.ringplan_run.specs.Run.{described, help, refused}
use Rattle.ringplan_run.proofs.Runs.{asked_choice, many_few, ran, ran_asked, ran_by, ran_driven, ran_out, ran_part, ran_report, ran_stated, said}
use Rattle.ringplan_run.proofs.Deliveries.{prints_nothing}
use Rattle.ringplan_run.proofs.program.run_request.Goals as goal

pub returns-in-Do : goal.returns-in-Do
returns-in-Do g c = λ asked h.
    let asks = subst (λ (r : Request). Answers asked r) c.in-Do.is h in
    ran_asked c.in-Do.job asked (g.R.Read.remaining c.args.input.now) _ _ c.run_alone.result asks c.run_alone.ensures

pub returns-in-CheckBy : goal.returns-in-CheckBy
returns-in-CheckBy g c = λ asked h.
    let asks = subst (λ (r : Request). Answers asked r) c.in-CheckBy.is h in
    ran_by asked c.in-CheckBy.workers (g.R.Read.remaining c.args.input.now) _ _ (texts_of c.answer_input_by-found.result) c.tell.result asks c.answer_input_by-found.ensures c.tell.ensures

pub returns-in-State : goal.returns-in-State
returns-in-State g c = λ asked h.
    let asks = subst (λ (r : Request). Answers asked r) c.in-State.is h in
    ran_stated asked c.in-State.job (g.R.Read.remaining c.args.input.now) _ _ (texts_of c.answer_input-found.result) c.state.result (inl asks) c.answer_input-found.ensures c.state.ensures

pub returns-in-StateBy : goal.returns-in-StateBy
returns-in-StateBy g c = λ asked h.
    let asks = subst (λ (r : Request). Answers asked r) c.in-StateBy.is h in
    ran_stated asked Check (g.R.Read.remaining c.args.input.now) _ _ (texts_of c.answer_input_by-found-in-StateBy.result) c.state-in-StateBy.result (inr (refl, (c.in-StateBy.workers, asks)))
    c.answer_input_by-found-in-StateBy.ensures c.state-in-StateBy.ensures

pub print_part-requires : goal.print_part-requires
print_part-requires g c = asked_choice c.requires.asks.0 c.in-Part.wish (subst (λ (r : Request). Answers c.requires.asks.0 r) c.in-Part.is c.requires.asks.1)

pub returns-in-Part : goal.returns-in-Part
returns-in-Part g c = λ asked h. ran_part asked c.in-Part.wish (g.R.Read.remaining c.args.input.now) _ _ c.print_part.result (subst (λ (r : Request). Answers asked r) c.in-Part.is h) c.print_part.ensures

pub drive_of-found-requires : goal.drive_of-found-requires
drive_of-found-requires g c =
    let asks = subst (λ (r : Request). Answers c.requires.asks.0 r) c.in-Drive.is c.requires.asks.1 in
    (search rules, many_few asks.0 c.in-Drive.workers asks.3)

pub returns-in-Drive : goal.returns-in-Drive
returns-in-Drive g c = λ asked h.
    let asks = subst (λ (r : Request). Answers asked r) c.in-Drive.is h in
    ran_driven asked c.in-Drive.workers c.in-Drive.form (g.R.Read.remaining c.args.input.now) _ _ (texts_of c.drive_of-found.result) c.tell-in-Drive.result asks c.drive_of-found.ensures c.tell-in-Drive.ensures

pub returns-in-Make : goal.returns-in-Make
returns-in-Make g c = λ asked h.
    let asks = subst (λ (r : Request). Answers asked r) c.in-Make.is h in
    ran_report asked c.in-Make.making c.in-Make.options (g.R.Read.remaining c.args.input.now) _ _ c.run_making.result asks c.run_making.ensures

pub returns-in-Describe : goal.returns-in-Describe
returns-in-Describe g c = λ asked h.
    let told = g.R.Read.remaining c.args.input.now in
    let asks = subst (λ (r : Request). Answers asked r) c.in-Describe.is h in
    ran _ told _ _ c.in-Describe.text.items c.as_slice.result.now 0 c.finish.result (said _ told c.in-Describe.text.items 0 (λ bytes. described asks.0 asks.1 refl)) c.as_slice.ensures.value c.finish.ensures

pub returns-in-Help : goal.returns-in-Help
returns-in-Help g c = λ asked h.
    let told = g.R.Read.remaining c.args.input.now in
    let asks = subst (λ (r : Request). Answers asked r) c.in-Help.is h in
    ran _ told _ _ c.in-Help.text.items c.as_slice-in-Help.result.now 0 c.finish-in-Help.result (said _ told c.in-Help.text.items 0 (λ bytes. help asks refl)) c.as_slice-in-Help.ensures.value c.finish-in-Help.ensures

pub returns-in-Mistaken : goal.returns-in-Mistaken
returns-in-Mistaken g c = λ asked h.
    let told = g.R.Read.remaining c.args.input.now in
    let asks = subst (λ (r : Request). Answers asked r) c.in-Mistaken.is h in
    ran _ told _ _ [] [] 2 2 (said _ told [] 2 (λ bytes. refused asks refl refl)) refl (prints_nothing _ 2)

pub returns-in-OutOfMemory : goal.returns-in-OutOfMemory
returns-in-OutOfMemory g c = λ asked h. ran_out asked (g.R.Read.remaining c.args.input.now) _ _ _ c.end_without_memory.ensures
