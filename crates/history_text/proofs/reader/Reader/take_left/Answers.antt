use Rattle.std.proofs.Common.{◌≢◌, ℕ, List, drop, sym, ap, subst, ◌∙◌}
use Rattle.std.proofs.lemmas.List.{take_rest}
use Rattle.ring_names.specs.declared.refusal.Refusal.{Refusal}
use Rattle.ring_names.specs.declared.refusal.Refusal.TheVariants.{OutOfMemory}
use Rattle.history_text.specs.State.{Refuses}
use Rattle.history_text.proofs.Pieces.{left_taken}
use Rattle.history_text.proofs.Takings.{if_err}
use Rattle.history_text.proofs.reader.Reader.take_left.Goals as goal

pub returns-in_err-taken-clause-err : goal.returns-in_err-taken-clause-err
returns-in_err-taken-clause-err c =
    let e = c.in_err-taken.field-0.0 in
    if_err c.from_residual.result e (λ (x : Refusal). x ≢ OutOfMemory → Refuses c.args.self.now c.take_lines.new.self c.args.left.now.items x) c.from_residual.ensures.1
    (λ ne. subst (λ (z : List ℕ). Refuses c.args.self.now c.take_lines.new.self z e) c.as_slice.ensures.value (c.in_err-taken.ensures.err ne))

pub returns-clause-ok : goal.returns-clause-ok
returns-clause-ok c =
    let shown = c.as_slice-2.result.now in
    left_taken c.args.self.now c.take_lines.new.self c.args.left.now.items c.as_slice.result.now c.in_ok-left.field-0.items c.in_ok-taken.taken c.as_slice.ensures.value c.in_ok-taken.ensures.ok c.in_ok-taken.ensures.run
    (c.in_ok-left.ensures.items ∙ take_rest shown c.in_ok-taken.taken ∙ ap (drop c.in_ok-taken.taken) (c.as_slice-2.ensures.value ∙ sym c.as_slice.ensures.value))
