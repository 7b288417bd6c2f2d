use Rattle.std.proofs.Common.{◌∷◌, [], sym}
use Rattle.std.proofs.Math.ListN.{replicate}
use Rattle.std.proofs.lemmas.List.{replicate-append-replicate}
use Rattle.texts.proofs.Growing.{one_more}
use Rattle.texts.proofs.words.Words.times.Goals as goal

pub turns-preserved : goal.turns-preserved
turns-preserved c = rw (sym (replicate-append-replicate c.turns.turn 1 c.args.byte))
    (one_more c.args.self.now c.turns.self c.byte.new.self (replicate c.turns.turn c.args.byte) (c.args.byte ∷ []) c.turns.invariant c.byte.ensures)
