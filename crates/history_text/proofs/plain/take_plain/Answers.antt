use Rattle.std.proofs.Common.{◌∙◌, ◌++◌, List, ℕ, ap}
use Rattle.ring_table.specs.Value.{names_of}
use Rattle.texts.proofs.Lates.{next-after}
use Rattle.script_text.proofs.Growing.{line-taken}
use Rattle.script_text.proofs.ScriptForm.{said-numbers}
use Rattle.script_text.specs.declared.said.SaidEvent.TheVariants.{Plain}
use Rattle.history_text.proofs.EntryLaws.{entry-text}
use Rattle.history_text.proofs.HistoryLaws.{history_growth, history_said}
use Rattle.history_text.proofs.plain.take_plain.Goals as goal

pub returns-in-Some-clause-read : goal.returns-in-Some-clause-read
returns-in-Some-clause-read c = λ _ ring names.
    let t = c.in-Some.ensures.taken in
    let x = t.0 in
    let text = t.5 (names_of ring) names ∙ ap (λ (u : List ℕ). u ++ c.in-Some.rest.now) (entry-text (names_of ring) names x) in
    rw (c.go_on.ensures, c.bytes.ensures, t.2) (line-taken (history_growth ring) (history_said ring) c.args.history.now.items names c.args.lines.now.line (Plain x.event, x.reply) c.bytes.result.now c.in-Some.rest.now
    t.1 (said-numbers ring names x.event t.3, t.4) text)

pub returns-in-Some-clause-forward : goal.returns-in-Some-clause-forward
returns-in-Some-clause-forward c = rw c.go_on.ensures (next-after c.args.lines.now.line)
