use Rattle.std.proofs.Common.{rules, ◌≡◌, ◌∙◌, [], sym}
use Rattle.ring_hints.specs.Maps.{hinted_at}
use Rattle.ring_hints.proofs.HeldChanged.{held_added, held_undone, ok_where, err_where}
use Rattle.ring_hints.proofs.hints.Hints.add_set.Goals as goal

pub invariant_of-self-else-is_err : goal.invariant_of-self-else-is_err
invariant_of-self-else-is_err c =
    let a = c.args.self.now in
    record {
      held = held_added a.kept c.add_set-added.new.self a.holders c.add.new.self c.args.pair a.held c.args.key c.args.more.now c.requires.some (c.in_ok-add.ensures).ok
          (ok_where c.add_set-added.result _ (sym c.is_err.ensures.value ∙ c.if-is_err.false) c.add_set-added.ensures.ok);
    }

pub invariant_of-self-then-not-had : goal.invariant_of-self-then-not-had
invariant_of-self-then-not-had c =
    let a = c.args.self.now in
    let none : hinted_at a.kept c.args.pair.keeper.0 c.args.pair.slot c.args.key ≡ [] = search rules in
    record {
      held = held_undone a.kept c.add_set-added.new.self a.holders c.remove.new.self c.args.pair a.held c.args.key c.add.new.self none (c.in_ok-add.ensures).ok c.remove.ensures
          (err_where c.add_set-added.result _ (sym c.is_err.ensures.value ∙ c.if-is_err.true) c.add_set-added.ensures.err);
    }
