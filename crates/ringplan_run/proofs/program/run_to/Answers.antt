use Rattle.std.proofs.Common.{ℕ, List, Option, Some, sym, subst, refl}
use Rattle.std.specs.Prelude.{IsSome, String, option_map, string_bytes}
use Rattle.std.specs.Global.{Global}
use Rattle.ringplan_answers.specs.Io.{Prints}
use Rattle.ringplan_run.specs.Run.{Shows}
use Rattle.ringplan_run.proofs.Deliveries.{delivers, handed_on, saved}
use Rattle.ringplan_run.proofs.program.run_to.Goals as goal

pub returns-in_default : goal.returns-in_default
returns-in_default g c = λ asked h.
    let ran = c.run_request.ensures asked h in
    (ran.0, ran.1, delivers asked (option_map string_bytes c.args.target) ran.0 _ _ _ ran.2)

pub returns-then-is_written : goal.returns-then-is_written
returns-then-is_written g c = λ asked h.
    let ran = c.run_request-status.ensures asked h in
    let text = c.run_request-status.new.output.items in
    let status = c.run_request-status.result in
    let written = c.is_written.ensures c.if-is_written.true in
    let some : IsSome (option_map string_bytes c.args.target) = subst (λ (t : Option (String Global)). IsSome (option_map string_bytes t)) (sym c.in-Some.is) refl in
    let shown = subst (λ (xs : List ℕ). Shows asked ran.0 (Some xs) (Some text) status) c.new-text.ensures.items ran.2 in
    (ran.0, ran.1, saved asked (option_map string_bytes c.args.target) ran.0 text (g.W.Write.contents c.args.output.now) status c.save.result some written shown c.save.ensures)

pub returns : goal.returns
returns g c = λ asked h.
    let ran = c.run_request-status.ensures asked h in
    let text = c.run_request-status.new.output.items in
    let status = c.run_request-status.result in
    let old = g.W.Write.contents c.args.output.now in
    let new = g.W.Write.contents c.finish.new.output in
    let shown = subst (λ (xs : List ℕ). Shows asked ran.0 (Some xs) (Some text) status) c.new-text.ensures.items ran.2 in
    let prints = subst (λ (xs : List ℕ). Prints old new xs status c.finish.result) c.as_slice-else-is_written.ensures.value c.finish.ensures in
    (ran.0, ran.1, delivers asked (option_map string_bytes c.args.target) ran.0 old new c.finish.result (handed_on asked ran.0 text old new status c.finish.result shown prints))
