use Rattle.std.proofs.Common.{◌∙◌, ℕ, BTreeSet, get_or, refl, sym, ap}
use Rattle.ring_names.specs.Lists.{has}
use Rattle.plan_moves.proofs.Ascending.{has-inserted}
use Rattle.plan_moves.proofs.Moved.{waits-added, waits-skipped}
use Rattle.plan_moves.proofs.waits.add_waits.Goals as goal
use Rattle.plan_moves.proofs.waits.add_waits.Goals.{then-not-is_among+in_ok-insert, else-not-is_among}

pub loop-number-preserved : goal.loop-number-preserved
loop-number-preserved c =
    let after = c.args.after.now in
    let own = c.args.own.now in
    let found = c.loop-number.found.keys in
    let i = c.loop-number.number-index in
    let x = get_or after i 0 in
    elim c.if-not-is_among.branch [
      | then-not-is_among+in_ok-insert w ↦ λ n.
          ap (λ (s : BTreeSet ℕ). has n s.keys) w.found-is
          ∙ waits-added found w.insert.new.self.keys c.args.found.now.keys after own i x c.loop-number-test.true refl (sym c.is_among.ensures ∙ w.if-not-is_among.true) c.loop-number.invariant
          (has-inserted found w.insert.new.self.keys x w.in_ok-insert.ensures.updates.0) n
      | else-not-is_among w ↦ λ n.
          ap (λ (s : BTreeSet ℕ). has n s.keys) w.found-is
          ∙ waits-skipped found c.args.found.now.keys after own i x c.loop-number-test.true refl (sym c.is_among.ensures ∙ w.if-not-is_among.false) c.loop-number.invariant n
    ]
