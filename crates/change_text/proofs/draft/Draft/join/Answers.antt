use Rattle.std.proofs.Common.{Bool, List, ◌||◌, ◌==◌, ap, sym, ◌∙◌}
use Rattle.ring_names.specs.declared.ids.NodeId.{NodeId}
use Rattle.change_text.specs.Draft.{names}
use Rattle.change_text.proofs.Named.{names-join}
use Rattle.change_text.proofs.draft.Draft.join.Goals as goal

pub invariant_of-self-2 : goal.invariant_of-self-2
invariant_of-self-2 c = λ x.
    let leaves : List NodeId = c.self.inside.leaves.items in
    c.add.ensures x.0 ∙ ap (λ (b : Bool). (x.0 == c.args.node.0) || b) (c.self.invariant x) ∙ sym (names-join c.self.inside.joins.items leaves c.args.node x)
    ∙ ap (λ (joins : List NodeId). names (record { joins = joins; leaves = leaves }) x) (sym c.in_ok-push.ensures.items)
