use Rattle.std.proofs.Common.{◌≡◌, ◌∙◌, false, length, sym, ap, arith}
use Rattle.std.proofs.lemmas.List.{get_or_read_under}
use Rattle.ring_work.specs.Resumed.{is_open}
use Rattle.ring_work.proofs.Aborts.{copies_with, copies_without}
use Rattle.ring_work.proofs.earlier.copies_of.Goals as goal
use Rattle.ring_work.proofs.earlier.copies_of.Goals.{then-index+in_ok-push, else-index}

pub loop-step-preserved : goal.loop-step-preserved
loop-step-preserved c =
    let flags = c.in_ok-flags.flags in
    let step = c.loop-step.step in
    let entries = c.args.entries.now in
    let all : c.args.steps ≡ length flags.items = (let counted = flags.ok in let is = c.in_ok-flags.ensures.len in omega arith) in
    let read = get_or_read_under flags.items step c.args.steps c.index.result.now false c.index.ensures c.loop-step-test.true all in
    let is : is_open step entries false ≡ c.index.result.now = sym (read ∙ c.in_ok-flags.ensures.flags step c.loop-step-test.true) in
    elim c.if-index.branch [
      | then-index+in_ok-push w ↦
          copies_with c.loop-step.copies.items c.if-index.copies.items step entries (is ∙ w.if-index.true) c.loop-step.invariant (ap (λ v. v.items) w.copies-is ∙ w.in_ok-push.ensures.items)
      | else-index w ↦
          ap (λ v. v.items) w.copies-is ∙ copies_without c.loop-step.copies.items step entries (is ∙ w.if-index.false) c.loop-step.invariant
    ]
