use Rattle.std.proofs.Common.{◌∙◌, sym, refl}
use Rattle.std.proofs.lemmas.Bool.{or_right, or_left}
use Rattle.ring_hints.specs.Hints.{hinted_at}
use Rattle.store_parts.specs.GuardsKept.{is_served_kept}
use Rattle.store_events.proofs.GroupsRaised.{group_raised, group_left}
use Rattle.store_events.proofs.groups.raise_group.Goals.{then-keeps-via-then-keeps, then-keeps-via-else-keeps+then-is_served}
use Rattle.store_events.proofs.groups.raise_group.Goals as goal

pub raise-requires : goal.raise-requires
raise-requires c = c.requires

pub returns-then-keeps : goal.returns-then-keeps
returns-then-keeps c =
    let served = is_served_kept c.args.slots.now c.args.slot c.args.node.0 in
    group_raised (hinted_at c.args.hints.now) c.args.node.0 c.args.slot c.keeps.result c.args.slots.now c.raise.new.self c.keeps.ensures
    (elim c.then-keeps.branch [
      | then-keeps-via-then-keeps w ↦ or_right served c.keeps.result w.if-keeps.true
      | then-keeps-via-else-keeps+then-is_served w ↦ or_left served c.keeps.result (sym w.is_served.ensures ∙ w.if-is_served.true)
    ])
    c.raise.ensures

pub returns-else-is_served : goal.returns-else-is_served
returns-else-is_served c =
    let e = sym c.is_served.ensures ∙ c.if-is_served.false in
    let f = c.if-keeps.false in
    group_left (hinted_at c.args.hints.now) c.args.node.0 c.args.slot c.keeps.result c.args.slots.now c.keeps.ensures (rw (e, f) refl)
