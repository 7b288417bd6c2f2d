use Rattle.std.proofs.Common.{◌∙◌, refl, sym, ap, subst}
use Rattle.std.specs.Prelude.{IsSome}
use Rattle.std.specs.BTreeMap.{is_at}
use Rattle.std.specs.Set.{remove_key}
use Rattle.std.proofs.lemmas.List.{nil_from_length}
use Rattle.ring_names.specs.contracts.ids.NodeIdOrd.TheImpl as node_order
use Rattle.store_maps.specs.Holders.{is_among, nodes_in}
use Rattle.store_maps.proofs.HoldersChanged.{id_order, node_removed}
use Rattle.store_maps.proofs.Sorted.{apart, puts_at}
use Rattle.store_maps.proofs.holders.Holders.remove.Goals as goal

pub returns-then-is_empty : goal.returns-then-is_empty
returns-then-is_empty c =
    let m = c.args.self.now.sets in
    let w = c.remove.new.self in
    let less = c.get_mut.follows.lender w in
    let n = c.remove-then-is_empty.new.self in
    let key = c.args.key in
    let value = (c.in-Some.ensures).value in
    let p = puts_at id_order key m less w ((c.get_mut.follows.holds w).3 (subst IsSome value refl)) in
    let gone = c.remove-then-is_empty.ensures.updates in
    let empty = nil_from_length w.keys (c.is_empty.ensures.0 c.if-is_empty.true) in
    node_removed m.entries n.entries key (λ k ne. gone.2 k (apart id_order key k (λ e. ne (sym e))) ∙ p.others k ne) c.args.node
    (ap nodes_in gone.1 ∙ sym empty ∙ c.remove.ensures.keys ∙ ap (λ nodes. remove_key (is_at ((node_order.ghosts).cmp c.args.node)) nodes) (ap nodes_in value))
    (ap (λ o. is_among c.args.node.0 (nodes_in o)) gone.1)

pub returns-else-is_empty : goal.returns-else-is_empty
returns-else-is_empty c =
    let m = c.args.self.now.sets in
    let w = c.remove.new.self in
    let n = c.get_mut.follows.lender w in
    let value = (c.in-Some.ensures).value in
    let p = puts_at id_order c.args.key m n w ((c.get_mut.follows.holds w).3 (subst IsSome value refl)) in
    node_removed m.entries n.entries c.args.key p.others c.args.node
    (ap nodes_in p.here ∙ c.remove.ensures.keys ∙ ap (λ nodes. remove_key (is_at ((node_order.ghosts).cmp c.args.node)) nodes) (ap nodes_in value))
    (ap (λ o. is_among c.args.node.0 (nodes_in o)) p.here ∙ (c.remove.ensures.updates).1)
