use Rattle.std.proofs.Common.{◌≡◌, ◌++◌, ◌∷◌, sym, ap, ◌∙◌}
use Rattle.std.specs.List.{join_with_byte}
use Rattle.std.proofs.lemmas.Result.{on_ok_weaker}
use Rattle.texts.specs.Parts.{spaced}
use Rattle.ring_table.specs.Value.{names_of}
use Rattle.plan_runs.specs.declared.event.Event.{Event}
use Rattle.script_text.specs.Spelling.{writer_at, value_text, seen_fields, event_fields}
use Rattle.script_text.proofs.WriteLaws.{put-written}
use Rattle.script_text.proofs.writing.push_event.Goals as goal

pub returns-in_ok-push_value-in-StartPut : goal.returns-in_ok-push_value-in-StartPut
returns-in_ok-push_value-in-StartPut c = on_ok_weaker c.push_seen.result (λ p.
    let key : c.push_word.new.out.items ≡ c.push_writer.new.out.items ++ 32 ∷ c.in-StartPut.key = c.in_ok-push_word-in-StartPut.ensures ∙ ap (λ k. c.push_writer.new.out.items ++ 32 ∷ k) c.as_slice.ensures in
    let value : c.push_value.new.out.items ≡ c.push_word.new.out.items ++ 32 ∷ value_text c.in-StartPut.value = c.in_ok-push_value-in-StartPut.ensures ∙ ap (λ v. c.push_word.new.out.items ++ 32 ∷ value_text v) c.as_slice-in-StartPut.ensures.value in
    let seen : c.push_seen.new.out.items ≡ c.push_value.new.out.items ++ spaced (seen_fields c.in-StartPut.seen) = p ∙ ap (λ g. c.push_value.new.out.items ++ spaced (seen_fields g)) c.as_slice-in-StartPut-2.ensures.value in
    put-written c.args.out.now.items c.extend_from_slice.new.self.items c.push_writer.new.out.items c.push_word.new.out.items c.push_value.new.out.items c.push_seen.new.out.items (writer_at c.args.names.now c.in-StartPut.writer) c.in-StartPut.key (value_text c.in-StartPut.value) (seen_fields c.in-StartPut.seen)
    c.in_ok-extend_from_slice-in-StartPut.ensures.items c.in_ok-push_writer-in-StartPut.ensures key value seen
    ∙ ap (λ (s : Event). c.args.out.now.items ++ join_with_byte 32 (event_fields (names_of c.args.ring.now) c.args.names.now s)) (sym c.in-StartPut.is)) c.push_seen.ensures
