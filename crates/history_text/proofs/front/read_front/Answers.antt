use Rattle.std.proofs.Common.{refl, ◌∙◌}
use Rattle.ring_table.specs.Spelling.{ring_text}
use Rattle.plan_text.specs.Spelling.{plan_text}
use Rattle.plan_cert.specs.Spelling.{cert_text}
use Rattle.history_text.proofs.Fronts.{front-is, texts-on}
use Rattle.history_text.proofs.front.read_front.Goals as goal

pub returns-clause-ok : goal.returns-clause-ok
returns-clause-ok c =
    let front = c.in_ok-front.front in
    front-is c.args.bytes.now c.of-lines.result c.read_front_section.new.lines front _ c.of-lines.ensures c.in_ok-front.ensures.read refl
    (texts-on (ring_text front.ring) (plan_text front.ring front.plan) (cert_text front.ring front.cert) c.as_slice.result.now c.as_slice-2.result.now c.in_ok-text.text.items c.extend_from_slice.new.self.items c.extend_from_slice-2.new.self.items
    c.in_ok-text.ensures.text (c.as_slice.ensures.value ∙ c.in_ok-steps.ensures.text) c.in_ok-extend_from_slice.ensures.items (c.as_slice-2.ensures.value ∙ c.in_ok-chains.ensures.text) c.in_ok-extend_from_slice-2.ensures.items)
    c.line.ensures
