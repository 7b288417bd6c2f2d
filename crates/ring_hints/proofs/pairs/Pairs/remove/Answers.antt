use Rattle.std.proofs.Common.{◌∙◌, ◌&&◌, Bool, not, ap, sym}
use Rattle.ring_hints.specs.Views.{is_of}
use Rattle.ring_hints.proofs.KeeperSets.{slot_removed, keeper_removed}
use Rattle.ring_hints.proofs.pairs.Pairs.remove.Goals as goal

pub invariant_of-self : goal.invariant_of-self
invariant_of-self c = record {
  viewed = λ x s.
      let pair = c.args.pair in
      let seen = c.args.self.now.viewed x s in (
        slot_removed c.args.self.now.slots c.remove.new.self pair (record { each = c.remove.ensures.each; gone = c.remove.ensures.gone }) x s
            ∙ ap (λ (b : Bool). not (is_of pair x s) && b) seen.0 ∙ sym (c.swap_remove.ensures.pairs x s),
        keeper_removed c.args.self.now.keepers c.remove-2.new.self pair (record { each = c.remove-2.ensures.each; gone = c.remove-2.ensures.gone }) x s
            ∙ ap (λ (b : Bool). not (is_of pair x s) && b) seen.1 ∙ sym (c.swap_remove.ensures.pairs x s),
      );
}
