use Rattle.std.proofs.Common.{◌≡◌, ◌≤◌, true, sym, ap, subst, ◌∙◌}
use Rattle.texts.specs.Left.{Left, begins_so, many_from}
use Rattle.texts.proofs.Lates.{late-here, many-late}
use Rattle.plan_cert.specs.Said.{chain_said}
use Rattle.plan_cert.specs.Reading.{chain_at, begins_chain}
use Rattle.plan_cert.proofs.CertLates.{chain-at}
use Rattle.plan_cert.proofs.reading.read_chains.Goals as goal

pub returns-in_err-add_chain-clause-late : goal.returns-in_err-add_chain-clause-late
returns-in_err-add_chain-clause-late c =
    let ring = c.args.ring.now in
    let chains = c.take_chain.new.chains in
    let lines = c.take_chain.new.lines in
    let total = many_from (begins_chain ring) (chain_at ring) c.args.chains.now c.args.lines.now.line c.args.lines.now.lines in
    let same_chains : chains ≡ c.chains.chains = c.take_chain.ensures.chains c.if-take_chain.false in
    let same_lines : lines ≡ c.chains.lines = c.take_chain.ensures.lines c.if-take_chain.false in
    let line = rw c.in_ok-fields.ensures.found.0 at c.in_ok-said.ensures.value in
    let begins : begins_so (begins_chain ring) lines.lines ≡ true = ap (λ (l : Left). begins_so (begins_chain ring) l.lines) same_lines ∙ sym c.begins_chain.ensures ∙ c.chains-test.true in
    let forward = subst (λ (l : Left). c.args.lines.now.line ≤ l.line) (sym same_lines) c.chains.invariant.forward in
    let rest : many_from (begins_chain ring) (chain_at ring) chains lines.line lines.lines ≡ total =
    ap (λ p. many_from (begins_chain ring) (chain_at ring) p lines.line lines.lines) same_chains ∙ ap (λ (l : Left). many_from (begins_chain ring) (chain_at ring) c.chains.chains l.line l.lines) same_lines ∙ c.chains.invariant.rest in
    late-here 1 c.from_residual-in_err-add_chain.result c.args.lines.now c.next.new.self total
    (many-late (begins_chain ring) (chain_at ring) (chain-at ring) chains c.args.lines.now lines c.next.new.self c.in_ok-fields.fields.fields (chain_said c.in_ok-said.said) total begins c.in_ok-fields.ensures.found.1 (sym line) forward rest)
