use Rattle.std.proofs.Common.{◌∙◌, refl, ap, subst}
use Rattle.std.specs.Prelude.{IsSome}
use Rattle.std.specs.BTreeSet.{insert_key}
use Rattle.ring_names.specs.contracts.ids.NodeIdOrd.TheImpl as node_order
use Rattle.store_maps.specs.Holders.{key_cmp, is_among, nodes_in}
use Rattle.store_maps.specs.Sorted.{value_by, PutsAt}
use Rattle.store_maps.proofs.HoldersChanged.{id_order, all_stay, node_added}
use Rattle.store_maps.proofs.Sorted.{puts_at}
use Rattle.store_maps.proofs.OneAnswer.{on_ok, on_err, always_err}
use Rattle.store_maps.proofs.holders.Holders.add.Goals as goal

pub returns-in_err-insert-clause-err : goal.returns-in_err-insert-clause-err
returns-in_err-insert-clause-err c =
    let m = c.args.self.now.sets in
    let w = c.insert.new.self in
    let n = c.get_mut.follows.lender w in
    let value = (c.in-Some.ensures).value in
    let p = puts_at id_order c.args.key m n w ((c.get_mut.follows.holds w).3 (subst IsSome value refl)) in
    always_err c.from_residual.result _ (all_stay m.entries n.entries c.args.key p.others (ap nodes_in p.here ∙ (c.in_err-insert.ensures).err ∙ ap nodes_in value))

pub returns-in-Some-clause-ok : goal.returns-in-Some-clause-ok
returns-in-Some-clause-ok c =
    let m = c.args.self.now.sets in
    let w = c.insert.new.self in
    let n = c.get_mut.follows.lender w in
    let value = (c.in-Some.ensures).value in
    let p = puts_at id_order c.args.key m n w ((c.get_mut.follows.holds w).3 (subst IsSome value refl)) in
    node_added m.entries n.entries c.args.key p.others c.args.node
    (ap nodes_in p.here ∙ (c.in_ok-insert.ensures).keys ∙ ap (λ nodes. insert_key ((node_order.ghosts).cmp) nodes c.args.node) (ap nodes_in value))

pub returns-clause-ok : goal.returns-clause-ok
returns-clause-ok c =
    let m = c.args.self.now.sets in
    let w = c.insert-2.new.self in
    let n = c.put.new.self.sets in
    on_ok c.put.result _ _ (λ h.
    (let p = subst (λ maps. PutsAt key_cmp maps.entries n.entries c.args.key w) c.get_mut.follows.holds-at-none h in
    node_added m.entries n.entries c.args.key p.others c.args.node
    (ap nodes_in p.here ∙ (c.in_ok-insert-2.ensures).keys ∙ ap (λ nodes. insert_key ((node_order.ghosts).cmp) nodes c.args.node) (c.new-nodes.ensures.empty ∙ ap nodes_in (c.in_default.ensures).value)))) c.put.ensures.ok

pub returns-clause-err : goal.returns-clause-err
returns-clause-err c =
    on_err c.put.result _ _ (λ h k x. ap (λ es. is_among x (nodes_in (value_by key_cmp es k))) (h ∙ ap (λ maps. maps.entries) c.get_mut.follows.holds-at-none)) c.put.ensures.err
