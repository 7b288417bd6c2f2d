use Rattle.std.proofs.Common.{◌≡◌, ◌++◌, take, sym, ap, ◌∙◌}
use Rattle.std.proofs.lemmas.List.{take_rest}
use Rattle.std.proofs.KnownBytes.{Appends-trans}
use Rattle.ringplan_answers.proofs.Streams.{write_more, nothing_written}
use Rattle.ringplan_answers.proofs.output.write_all.Goals.{in-Ok, in-Err+else-ne}
use Rattle.ringplan_answers.proofs.output.write_all.Goals as goal

pub loop-turn-preserved : goal.loop-turn-preserved
loop-turn-preserved g c =
    let (front, split, written) = c.loop-turn.invariant in
    let rest = c.loop-turn.rest.now in
    elim c.match-write.branch [
      | in-Ok w ↦
          (let n = w.in-Ok.count in
          rw w.rest-is (front ++ take n rest, write_more _ front rest n split ∙ ap (λ l. (front ++ take n rest) ++ l) (sym (take_rest rest n)), Appends-trans _ _ _ _ _ written w.in-Ok.ensures.bytes))
      | in-Err+else-ne w ↦ rw w.rest-is (front, split, nothing_written _ _ _ _ written w.in-Err.ensures.bytes)
    ]
