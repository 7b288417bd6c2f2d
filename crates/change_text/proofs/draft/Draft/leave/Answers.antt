use Rattle.std.proofs.Common.{Bool, List, ◌||◌, ◌==◌, ap, sym, ◌∙◌}
use Rattle.ring_names.specs.declared.ids.NodeId.{NodeId}
use Rattle.change_text.specs.Draft.{names}
use Rattle.change_text.proofs.Named.{names-leave}
use Rattle.change_text.proofs.draft.Draft.leave.Goals as goal

pub invariant_of-self-2 : goal.invariant_of-self-2
invariant_of-self-2 c = λ x.
    let joins : List NodeId = c.self.inside.joins.items in
    c.add.ensures x.0 ∙ ap (λ (b : Bool). (x.0 == c.args.node.0) || b) (c.self.invariant x) ∙ sym (names-leave joins c.self.inside.leaves.items c.args.node x)
    ∙ ap (λ (leaves : List NodeId). names (record { joins = joins; leaves = leaves }) x) (sym c.in_ok-push.ensures.items)
