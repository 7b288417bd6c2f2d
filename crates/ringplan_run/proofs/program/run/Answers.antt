use Rattle.std.proofs.Common.{◌≡◌, ◌∙◌, arith, inl, inr, length, map, subst, sym, string_bytes, vec_len}
use Rattle.ringplan_command.specs.Command.{Answers, asked}
use Rattle.ringplan_command.specs.declared.command.Request.{Request}
use Rattle.ringplan_command.specs.Files.{files_in, files_of}
use Rattle.ringplan_run.proofs.Deliveries.{named_in, ran_files, ran_input, ran_unopened, some_named}
use Rattle.ringplan_run.proofs.Watches.{ran_job}
use Rattle.ringplan_run.proofs.program.run.Goals as goal

pub run_to-requires-clause-asks : goal.run_to-requires-clause-asks
run_to-requires-clause-asks g c = λ lifetimes bounds.
    let words = map g.S.AsStr.text c.args.words.now in
    (asked words, c.on-request.ensures (asked words) c.parse-request.ensures.kinds)

pub run_to-requires-in-Ok-clause-asks : goal.run_to-requires-in-Ok-clause-asks
run_to-requires-in-Ok-clause-asks g c = λ lifetimes bounds.
    let words = map g.S.AsStr.text c.args.words.now in
    (asked words, c.on-request.ensures (asked words) c.parse-request.ensures.kinds)

pub returns-then-is_empty-clause-line : goal.returns-then-is_empty-clause-line
returns-then-is_empty-clause-line g c =
    let words = map g.S.AsStr.text c.args.words.now in
    let line = c.parse-request in
    let named = named_in line.result.files (files_of words) line.ensures.files in
    inl (ran_input (asked words) (files_of words) (files_in line.result.files) (g.R.Read.remaining c.args.input.now) _ _ c.run_to.result named (c.run_to.ensures (asked words) (c.on-request.ensures (asked words) line.ensures.kinds)))

pub returns-then-is_empty-clause-job : goal.returns-then-is_empty-clause-job
returns-then-is_empty-clause-job g c = λ job e.
    let words = map g.S.AsStr.text c.args.words.now in
    ran_job job words (g.R.Read.remaining c.args.input.now) _ _ _ c.run_to.result e (returns-then-is_empty-clause-line g c)

pub returns-in-Ok-clause-line : goal.returns-in-Ok-clause-line
returns-in-Ok-clause-line g c =
    let words = map g.S.AsStr.text c.args.words.now in
    let line = c.parse-request in
    let named = named_in line.result.files (files_of words) line.ensures.files in
    let count : vec_len line.result.files.inputs ≡ length line.result.files.inputs.items = (let l = c.as_slice-2.ensures.len in let v = c.as_slice-2.ensures.value in omega arith) in
    inl (ran_files (asked words) (files_of words) (files_in line.result.files) (g.R.Read.remaining c.args.input.now) _ _ c.run_to-in-Ok.result (some_named string_bytes line.result.files.inputs.items count (sym c.is_empty.ensures ∙ c.if-is_empty.false)) named
    (c.run_to-in-Ok.ensures (asked words) (c.on-request.ensures (asked words) line.ensures.kinds)))

pub returns-in-Ok-clause-job : goal.returns-in-Ok-clause-job
returns-in-Ok-clause-job g c = λ job e.
    let words = map g.S.AsStr.text c.args.words.now in
    ran_job job words (g.R.Read.remaining c.args.input.now) _ _ _ c.run_to-in-Ok.result e (returns-in-Ok-clause-line g c)

pub returns-clause-line : goal.returns-clause-line
returns-clause-line g c =
    let words = map g.S.AsStr.text c.args.words.now in
    let line = c.parse-request in
    let named = named_in line.result.files (files_of words) line.ensures.files in
    let count : vec_len line.result.files.inputs ≡ length line.result.files.inputs.items = (let l = c.as_slice-2.ensures.len in let v = c.as_slice-2.ensures.value in omega arith) in
    inl (ran_unopened (asked words) (files_of words) (files_in line.result.files) (g.R.Read.remaining c.args.input.now) _ c.in-Err.status (some_named string_bytes line.result.files.inputs.items count (sym c.is_empty.ensures ∙ c.if-is_empty.false)) named c.in-Err.ensures)

pub returns-clause-job : goal.returns-clause-job
returns-clause-job g c = λ job e.
    let words = map g.S.AsStr.text c.args.words.now in
    ran_job job words (g.R.Read.remaining c.args.input.now) _ _ _ c.in-Err.status e (returns-clause-line g c)

pub returns-in-Watch-clause-line : goal.returns-in-Watch-clause-line
returns-in-Watch-clause-line g c =
    let words = map g.S.AsStr.text c.args.words.now in
    let asks = subst (λ (r : Request). Answers (asked words) r) c.in-Watch.is (c.on-request.ensures (asked words) c.parse-request.ensures.kinds) in
    inr (c.in-Watch.every, asks, c.print_watch.ensures)

pub returns-in-Watch-clause-job : goal.returns-in-Watch-clause-job
returns-in-Watch-clause-job g c = λ job e.
    let words = map g.S.AsStr.text c.args.words.now in
    ran_job job words (g.R.Read.remaining c.args.input.now) _ _ _ c.print_watch.result e (returns-in-Watch-clause-line g c)

pub run_to-requires-clause-not_watch : goal.run_to-requires-clause-not_watch
run_to-requires-clause-not_watch g c = λ lifetimes bounds. c.in_default.not-Watch

pub run_to-requires-in-Ok-clause-not_watch : goal.run_to-requires-in-Ok-clause-not_watch
run_to-requires-in-Ok-clause-not_watch g c = λ lifetimes bounds. c.in_default.not-Watch
