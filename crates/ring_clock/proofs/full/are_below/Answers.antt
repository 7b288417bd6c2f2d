use Rattle.std.proofs.Common.{◌≤◌, get_or, arith, below_more}
use Rattle.ring_clock.proofs.Losses.{no_loss}
use Rattle.ring_clock.proofs.full.are_below.Goals as goal

pub loop-place-preserved : goal.loop-place-preserved
loop-place-preserved c =
    let law = no_loss c.loop-place.lost (get_or c.args.first.now c.loop-place.place 0) (get_or c.args.second.now c.loop-place.place 0) (c.requires.first c.loop-place.place) (c.requires.second c.loop-place.place) in (
      λ h. below_more (λ k. get_or c.args.first.now k 0 ≤ get_or c.args.second.now k 0) c.loop-place.place (c.loop-place.invariant.0 (law.0 h).0) (law.0 h).1,
      λ h. law.1 (c.loop-place.invariant.1 (λ k few. h k (omega arith)), h c.loop-place.place (omega arith)),
    )
