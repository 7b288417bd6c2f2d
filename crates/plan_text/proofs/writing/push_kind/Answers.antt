use Rattle.std.proofs.Common.{◌++◌, codes, sym, ap, ◌∙◌, arith}
use Rattle.std.proofs.lemmas.Grind.{common_steps}
use Rattle.std.specs.List.{join_with_byte}
use Rattle.std.proofs.lemmas.Result.{on_ok_weaker}
use Rattle.ring_table.specs.Value.{names_of}
use Rattle.plan_text.specs.declared.step.Step.{Step}
use Rattle.plan_text.specs.Spelling.{slot_fields, source_fields, kind_fields}
use Rattle.texts.proofs.Spaced.{two-parts}
use Rattle.plan_text.proofs.writing.push_kind.Goals as goal

pub returns-in_ok-push_slot-in-Mirror : goal.returns-in_ok-push_slot-in-Mirror
returns-in_ok-push_slot-in-Mirror c = grind (arith, common_steps)

pub returns-in_ok-push_slot-in-Copy : goal.returns-in_ok-push_slot-in-Copy
returns-in_ok-push_slot-in-Copy c = on_ok_weaker c.push_source.result (λ p. (
    two-parts c.args.out.now.items c.extend_from_slice-in-Copy.new.self.items c.push_slot-in-Copy.new.out.items c.push_source.new.out.items (codes "copy") (slot_fields c.in-Copy.slot) (source_fields c.in-Copy.source)
    c.in_ok-extend_from_slice-in-Copy.ensures.items c.in_ok-push_slot-in-Copy.ensures p ∙ ap (λ (s : Step). c.args.out.now.items ++ join_with_byte 32 (kind_fields (names_of c.args.ring.now) s)) (sym c.in-Copy.is))) c.push_source.ensures
