use Rattle.std.proofs.Common.{◌≡◌, ℕ, Result, sym, ap, ◌∙◌, refl, rules}
use Rattle.ring_names.specs.declared.refusal.Refusal.{Refusal}
use Rattle.texts.specs.Judging.{both_of, map_ok, end_at}
use Rattle.texts.specs.Left.{◌>>=◌}
use Rattle.ring_table.specs.declared.head.Quorum.{Quorum}
use Rattle.ring_table.specs.Reading.{judge_quorum, quorum_at}
use Rattle.ring_table.proofs.head.quorum_line.Goals as goal
use Rattle.ring_table.proofs.head.quorum_line.Goals.{After-finish}

-- what the line says
abbrev judged : ℕ → Result ((((Unit {0} × ℕ) × ℕ) × ℕ) × ℕ) Refusal → Result Quorum Refusal
judged k fin = fin >>= λ x. judge_quorum k x.0.0.0.1 x.0.0.1 x.0.1 x.1

read : (c : After-finish) → judged c.args.fields.number c.finish.result ≡ quorum_at c.args.format c.args.fields.number c.args.fields.fields
unfolding quorum_at
read c =
    let all : c.finish.result ≡ map_ok (λ x. x.0) (both_of (both_of (both_of (both_of (both_of c.word-word.result c.number-n.result) c.number-r.result) c.number-w.result) c.loss-loss.result) (end_at c.loss-loss.new.fields.number c.loss-loss.new.fields.fields).0) = search rules in
    rw (all, c.word-word.ensures.0, c.number-n.ensures.0, c.number-r.ensures.0, c.number-w.ensures.0, c.loss-loss.ensures.0, c.loss-loss.ensures.1, c.number-w.ensures.1, c.number-r.ensures.1, c.number-n.ensures.1, c.word-word.ensures.1) (refl {a = quorum_at c.args.format c.args.fields.number c.args.fields.fields})

pub returns-in-Ok : goal.returns-in-Ok
returns-in-Ok c = (rw c.line-line.ensures at c.judge_quorum.ensures) ∙ (ap (judged c.args.fields.number) (sym c.in-Ok.is) ∙ read (goal.at.returns-in-Ok c).After-finish)

pub returns-in-Err : goal.returns-in-Err
returns-in-Err c = ap (judged c.args.fields.number) (sym c.in-Err.is) ∙ read (goal.at.returns-in-Err c).After-finish
