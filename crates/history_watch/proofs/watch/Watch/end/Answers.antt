use Rattle.std.proofs.Common.{refl, sym, ◌∙◌}
use Rattle.history_watch.proofs.Answered.{answer_text, cut_off}
use Rattle.history_watch.proofs.watch.Watch.end.Goals as goal

pub write_ending-requires : goal.write_ending-requires
write_ending-requires c = c.requires.ring

pub returns-then-is_whole-clause-ok : goal.returns-then-is_whole-clause-ok
returns-then-is_whole-clause-ok c = answer_text c.args.self.now c.requires.ring (sym c.is_whole.ensures ∙ c.if-is_whole.true) c.write_ending.result c.write_ending.ensures.text

pub returns-clause-err : goal.returns-clause-err
returns-clause-err c = λ ne ring plan bytes iw. cut_off ring plan bytes c.args.self.now iw c.args.self.now.reader.stage refl (sym c.is_whole.ensures ∙ c.if-is_whole.false)
