-- The word that is put last is that of its step.
use Rattle.std.proofs.Common.{rules, ◌≡◌, length, arith}
use Rattle.ring_board.proofs.Closing.{copied-more}
use Rattle.ring_board.proofs.close.step_words.Goals as goal

pub loop-step-preserved : goal.loop-step-preserved
loop-step-preserved c =
    let count : length c.loop-step.words.items ≡ c.loop-step.step = (let counted = c.loop-step.words.ok in let is = c.loop-step.invariant.0 in omega arith) in (
      search rules,
      copied-more c.loop-step.words.items c.push.new.self.items _ c.loop-step.step c.word.result count c.in_ok-push.ensures.items c.word.ensures c.loop-step.invariant.1,
    )
