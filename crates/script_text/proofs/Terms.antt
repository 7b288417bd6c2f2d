-- What the texts of events speak of.
pub use Rattle.ring_names.specs.declared.ids.WriterId.{WriterId}
pub use Rattle.ring_table.proofs.Terms.{place, NodeId, RingValue, names_of, IsRing, name_at, get-place, place-get, place-below}
pub use Rattle.ring_table.proofs.RowLaws.{AreNames, each_at}
pub use Rattle.plan_runs.specs.Words.{is_key}
pub use Rattle.plan_runs.specs.declared.event.Event.{Event}
pub use Rattle.script_text.specs.Digits.{is_digit, digit_value, are_pairs, bytes_of, is_value_text, value_of}
pub use Rattle.script_text.specs.Said.{writer_of, with_writer, FitsWriter, Fits, event_of, names_after}
pub use Rattle.script_text.specs.declared.said.SaidWriter.{SaidWriter}
pub use Rattle.script_text.specs.declared.said.SaidWriter.TheVariants.{Known, New}
pub use Rattle.script_text.specs.declared.said.SaidPut.{SaidPut}
pub use Rattle.script_text.specs.declared.said.SaidEvent.{SaidEvent}
pub use Rattle.script_text.specs.declared.speaker.Speaker.{Speaker}
pub use Rattle.script_text.specs.declared.speaker.Speaker.TheVariants.{Anyone, Client}
pub use Rattle.script_text.specs.Spelling.{value_text, writer_at, seen_fields, event_fields}
pub use Rattle.script_text.specs.Reading.{events_from, heard_at, may_say, judge_value}
pub use Rattle.script_text.specs.Valid.{IsCount, IsBytes, AreGets, AreWriters, IsEvent, IsSmall, IsKnown, HasNumbers, IsScriptOf}
