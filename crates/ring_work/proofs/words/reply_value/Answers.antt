use Rattle.std.proofs.Common.{◌≡◌, ◌++◌, IsUtf8, inl, inr, sym, ap, subst, ◌∙◌}
use Rattle.std.proofs.lemmas.Result.{IfErr-weaker}
use Rattle.plan_runs.specs.Replies.{reply_text}
use Rattle.ring_work.proofs.Ascii.{reply-utf8}
use Rattle.ring_work.proofs.words.reply_value.Goals as goal

pub returns-clause-memory : goal.returns-clause-memory
returns-clause-memory c =
    let written : c.write_text.new.out.items ≡ reply_text c.args.reply.now = c.in_ok-write_text.ensures ∙ ap (λ old. old ++ reply_text c.args.reply.now) c.new-out.ensures.items in
    let utf8 : IsUtf8 c.write_text.new.out.items = subst IsUtf8 (sym written) (reply-utf8 c.args.reply.now) in
    IfErr-weaker c.text_value.result _ _ (λ e h. elim h [ inl p ↦ p | inr q ↦ absurd (q.1 utf8) ]) c.text_value.ensures.refused
