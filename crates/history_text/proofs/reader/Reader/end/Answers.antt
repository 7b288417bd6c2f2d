use Rattle.std.proofs.Common.{sym, ap, ◌∙◌, false}
use Rattle.texts.specs.Parts.{lines_of}
use Rattle.history_text.specs.declared.reader.Stage.{Stage}
use Rattle.history_text.specs.StreamReading.{resume_at}
use Rattle.history_text.proofs.Pieces.{end_entries, end_first, end_over}
use Rattle.history_text.proofs.reader.Reader.end.Goals as goal

pub returns-else-is_empty : goal.returns-else-is_empty
returns-else-is_empty c = λ ring said. sym (ap (λ (s : Stage). resume_at ring s said (record { line = c.args.self.now.line; lines = lines_of c.args.left.now })) c.in-Over.is ∙ end_over ring said c.args.self.now.line c.args.left.now false (sym c.is_empty.ensures ∙ c.if-is_empty.false))

pub returns-in-First : goal.returns-in-First
returns-in-First c = λ ring said. sym (ap (λ (s : Stage). resume_at ring s said (record { line = c.args.self.now.line; lines = lines_of c.args.left.now })) c.in-First.is ∙ end_first ring said c.args.self.now.line c.args.left.now c.requires)

pub returns-in-Entries : goal.returns-in-Entries
returns-in-Entries c = λ ring said. sym (ap (λ (s : Stage). resume_at ring s said (record { line = c.args.self.now.line; lines = lines_of c.args.left.now })) c.in-Entries.is ∙ end_entries ring said c.args.self.now.line c.args.left.now c.requires)
