use Rattle.std.proofs.Common.{◌≡◌, ◌≢◌, ℕ, ◌+◌, ◌-◌, List, length, take, drop, refl, ap, subst, ◌∙◌, arith, length-drop}
use Rattle.std.proofs.lemmas.Bool.{false_from_ne_true}
use Rattle.std.proofs.lemmas.List.{take_rest}
use Rattle.ring_names.specs.declared.refusal.Refusal.{Refusal}
use Rattle.ring_names.specs.declared.refusal.Refusal.TheVariants.{OutOfMemory}
use Rattle.history_text.specs.State.{IsRun, Refuses}
use Rattle.history_text.proofs.Pieces.{run_is}
use Rattle.history_text.proofs.Takings.{if_err, lines_more, lines_stop}
use Rattle.history_text.proofs.reader.Reader.take_lines.Goals as goal

pub returns-in_err-take_line-in-Some-clause-err : goal.returns-in_err-take_line-in-Some-clause-err
returns-in_err-take_line-in-Some-clause-err c =
    let f = c.in-Some.ensures in
    let bytes = c.args.bytes.now in
    let taken = c.lines.taken in
    let same : taken + c.in-Some.at - taken ≡ c.in-Some.at = omega arith in
    let e = c.in_err-take_line-in-Some.field-0.0 in
    if_err c.from_residual.result e (λ (x : Refusal). x ≢ OutOfMemory → Refuses c.args.self.now c.take_line.new.self bytes x) c.from_residual.ensures.1
    (λ ne. lines_stop c.args.self.now c.lines.self bytes (take (length bytes - taken) (drop taken bytes)) (take (taken + c.in-Some.at - taken) (drop taken bytes)) taken c.in-Some.at (taken + c.in-Some.at - taken) (take_rest bytes taken)
    f.0.high (λ k h. false_from_ne_true _ (f.0.before k (omega arith) h)) f.1 same refl c.lines.invariant.takes c.take_line.new.self e c.in_err-take_line-in-Some.ensures.held (c.in_err-take_line-in-Some.ensures.err ne))

pub lines-preserved : goal.lines-preserved
lines-preserved c =
    let f = c.in-Some.ensures in
    let bytes = c.args.bytes.now in
    let taken = c.lines.taken in
    let same : taken + c.in-Some.at - taken ≡ c.in-Some.at = omega arith in
    let size = ap (λ (l : List ℕ). length l) (take_rest bytes taken) ∙ length-drop taken bytes in
    let high = f.0.high in
    record {
      counted = λ taken k. c.in_ok-take_line-in-Some.ensures.counted taken (c.lines.invariant.counted taken k);
      within = omega arith;
      takes = lines_more c.args.self.now c.lines.self bytes (take (length bytes - taken) (drop taken bytes)) (take (taken + c.in-Some.at - taken) (drop taken bytes)) taken c.in-Some.at (taken + c.in-Some.at - taken) (take_rest bytes taken)
          f.0.high (λ k h. false_from_ne_true _ (f.0.before k (omega arith) h)) f.1 same refl c.lines.invariant.takes c.take_line.new.self c.in_ok-take_line-in-Some.ensures.ok;
    }

pub returns-in-None-clause-run : goal.returns-in-None-clause-run
returns-in-None-clause-run c = subst IsRun (take_rest c.args.bytes.now c.lines.taken) (run_is (take (length c.args.bytes.now - c.lines.taken) (drop c.lines.taken c.args.bytes.now)) (λ k l. false_from_ne_true _ (c.in-None.ensures k (omega arith) l)))
