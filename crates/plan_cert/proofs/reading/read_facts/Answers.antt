use Rattle.std.proofs.Common.{◌≡◌, ◌≤◌, true, codes, sym, ap, subst, ◌∙◌}
use Rattle.texts.specs.Left.{Left, begins_so, is_word, many_from}
use Rattle.texts.proofs.Lates.{late-here, many-late}
use Rattle.plan_cert.specs.Reading.{fact_at}
use Rattle.plan_cert.proofs.CertLates.{fact-at}
use Rattle.plan_cert.proofs.reading.read_facts.Goals as goal

pub returns-in_err-add_fact-clause-late : goal.returns-in_err-add_fact-clause-late
returns-in_err-add_fact-clause-late c =
    let test = is_word (codes "fact") in
    let facts = c.take_fact.new.facts in
    let lines = c.take_fact.new.lines in
    let total = many_from test fact_at c.args.facts.now c.args.lines.now.line c.args.lines.now.lines in
    let same_facts : facts ≡ c.facts.facts = c.take_fact.ensures.facts c.if-take_fact.false in
    let same_lines : lines ≡ c.facts.lines = c.take_fact.ensures.lines c.if-take_fact.false in
    let line = rw c.in_ok-fields.ensures.found.0 at c.in_ok-path.ensures.value in
    let begins : begins_so test lines.lines ≡ true = ap (λ (l : Left). begins_so test l.lines) same_lines ∙ sym c.begins.ensures ∙ c.facts-test.true in
    let forward = subst (λ (l : Left). c.args.lines.now.line ≤ l.line) (sym same_lines) c.facts.invariant.forward in
    let rest : many_from test fact_at facts lines.line lines.lines ≡ total =
    ap (λ p. many_from test fact_at p lines.line lines.lines) same_facts ∙ ap (λ (l : Left). many_from test fact_at c.facts.facts l.line l.lines) same_lines ∙ c.facts.invariant.rest in
    late-here 1 c.from_residual-in_err-add_fact.result c.args.lines.now c.next.new.self total
    (many-late test fact_at fact-at facts c.args.lines.now lines c.next.new.self c.in_ok-fields.fields.fields c.in_ok-path.path total begins c.in_ok-fields.ensures.found.1 (sym line) forward rest)
