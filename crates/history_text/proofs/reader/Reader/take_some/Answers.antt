use Rattle.std.proofs.Common.{◌≢◌, ℕ, ◌<◌, List, ◌++◌, length, ap, subst, arith}
use Rattle.std.specs.Prelude.{IfErr}
use Rattle.std.proofs.lemmas.Bool.{false_from_ne_true}
use Rattle.ring_names.specs.declared.refusal.Refusal.{Refusal}
use Rattle.ring_names.specs.declared.refusal.Refusal.TheVariants.{OutOfMemory}
use Rattle.history_text.specs.Input.{max_input}
use Rattle.history_text.specs.State.{Refuses}
use Rattle.history_text.proofs.Pieces.{none_taken, run_is, runs_on, too_long}
use Rattle.history_text.proofs.reader.Reader.take_some.Goals as goal

pub returns-in-Some-clause-err : goal.returns-in-Some-clause-err
returns-in-Some-clause-err c = subst (λ (z : List ℕ). IfErr c.take_left.result (λ (e : Refusal). e ≢ OutOfMemory → Refuses c.args.self.now c.take_left.new.self z e)) c.in_ok-extend_from_slice.ensures.items c.take_left.ensures.err

pub returns-then-len-gt-MAX_INPUT-clause-err : goal.returns-then-len-gt-MAX_INPUT-clause-err
returns-then-len-gt-MAX_INPUT-clause-err c = λ ne. too_long c.args.self.now (c.args.left.now.items ++ c.args.more.now)
    (runs_on c.args.left.now.items c.args.more.now c.requires (run_is c.args.more.now (λ k l. false_from_ne_true _ (c.in-None.ensures k (omega arith) l))))
    (let size = ap (λ (l : List ℕ). length l) c.in_ok-extend_from_slice.ensures.items in let long : max_input < length (c.args.left.now.items ++ c.args.more.now) = omega arith in long)

pub returns-else-len-gt-MAX_INPUT-clause-ok : goal.returns-else-len-gt-MAX_INPUT-clause-ok
returns-else-len-gt-MAX_INPUT-clause-ok c = none_taken c.args.self.now (c.args.left.now.items ++ c.args.more.now) c.extend_from_slice.new.self.items c.in_ok-extend_from_slice.ensures.items
    (runs_on c.args.left.now.items c.args.more.now c.requires (run_is c.args.more.now (λ k l. false_from_ne_true _ (c.in-None.ensures k (omega arith) l))))
