use Rattle.std.proofs.Common.{Bool, ◌||◌, sym, ap, ◌∙◌}
use Rattle.ring_hints.specs.Views.{has_slot, has_keeper, is_of, in_keepers, in_order}
use Rattle.ring_hints.proofs.KeeperSets.{slot_added, keeper_added, slot_removed, keeper_removed, added_and_removed, pushed}
use Rattle.ring_hints.proofs.pairs.Pairs.add.Goals as goal

pub invariant_of-self-in-Err : goal.invariant_of-self-in-Err
invariant_of-self-in-Err c = record {
  viewed = λ x s.
      let pair = c.args.pair in
      let seen = c.args.self.now.viewed in
      let absent = sym c.has.ensures ∙ c.if-has.false in (
        added_and_removed pair (has_slot c.args.self.now.slots) (has_slot c.add.new.self) (has_slot c.remove.new.self) ((seen pair.keeper.0 pair.slot).0 ∙ absent)
            (slot_added c.args.self.now.slots c.add.new.self pair c.in_ok-add.ensures.ok) (slot_removed c.add.new.self c.remove.new.self pair (record { each = c.remove.ensures.each; gone = c.remove.ensures.gone })) x s
            ∙ (seen x s).0,
        ap (in_keepers x) (c.in-Err.ensures.err s) ∙ (seen x s).1,
      );
}

pub invariant_of-self-in-Err-push : goal.invariant_of-self-in-Err-push
invariant_of-self-in-Err-push c = record {
  viewed = λ x s.
      let pair = c.args.pair in
      let seen = c.args.self.now.viewed in
      let absent = sym c.has.ensures ∙ c.if-has.false in
      let slots = c.remove-in-Err-push.new.self in
      let keepers = c.remove-in-Err-push-2.new.self in
      let no_slot = c.remove-in-Err-push.ensures in
      let no_keeper = c.remove-in-Err-push-2.ensures in
      let same = sym (ap (in_order x s) c.in-Err-push.ensures.err) in (
        added_and_removed pair (has_slot c.args.self.now.slots) (has_slot c.add.new.self) (has_slot slots) ((seen pair.keeper.0 pair.slot).0 ∙ absent)
            (slot_added c.args.self.now.slots c.add.new.self pair c.in_ok-add.ensures.ok)
            (slot_removed c.add.new.self slots pair (record { each = no_slot.each; gone = no_slot.gone })) x s
            ∙ (seen x s).0 ∙ same,
        added_and_removed pair (has_keeper c.args.self.now.keepers) (has_keeper c.add-2.new.self) (has_keeper keepers)
            ((seen pair.keeper.0 pair.slot).1 ∙ absent)
            (keeper_added c.args.self.now.keepers c.add-2.new.self pair c.in_default.ensures.ok)
            (keeper_removed c.add-2.new.self keepers pair (record { each = no_keeper.each; gone = no_keeper.gone })) x s
            ∙ (seen x s).1 ∙ same,
      );
}

pub invariant_of-self-in_default-push : goal.invariant_of-self-in_default-push
invariant_of-self-in_default-push c = record {
  viewed = λ x s.
      let pair = c.args.pair in
      let seen = c.args.self.now.viewed x s in
      let now = ap (in_order x s) c.in_default-push.ensures.ok ∙ pushed pair c.args.self.now.order x s in (
        slot_added c.args.self.now.slots c.add.new.self pair c.in_ok-add.ensures.ok x s
            ∙ ap (λ (b : Bool). is_of pair x s || b) seen.0 ∙ sym now,
        keeper_added c.args.self.now.keepers c.add-2.new.self pair c.in_default.ensures.ok x s
            ∙ ap (λ (b : Bool). is_of pair x s || b) seen.1 ∙ sym now,
      );
}
