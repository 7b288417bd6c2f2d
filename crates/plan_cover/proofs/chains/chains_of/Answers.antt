use Rattle.std.proofs.Common.{◌≡◌, ◌≢◌, ℕ, List, [], ◌∷◌, ◌++◌, length, cond, refl, sym, ap, ◌∙◌, arith}
use Rattle.std.proofs.lemmas.Bool.{ne_eqb}
use Rattle.plan_cert.specs.declared.cert.Chain.{Chain}
use Rattle.plan_stage.specs.Occupancy.{is_node}
use Rattle.plan_cover.specs.Looking.Numbers.{kept_of, chain_numbers}
use Rattle.plan_cover.proofs.Counting.{take-all}
use Rattle.plan_cover.proofs.Chained.{chains-take}
use Rattle.plan_cover.proofs.chains.chains_of.Goals as goal
use Rattle.plan_cover.proofs.chains.chains_of.Goals.{then-place-nodes+in_ok-add, else-place-nodes}

pub loop-k-preserved : goal.loop-k-preserved
loop-k-preserved c = λ x l.
    let node = c.of-place.result.node in
    let added : kept_of c.if-place-nodes.index x ≡ cond (is_node x node) (kept_of c.loop-k.index x ++ c.loop-k.k ∷ []) (kept_of c.loop-k.index x) = elim c.if-place-nodes.branch [
      | then-place-nodes+in_ok-add w ↦ rw w.index-is (w.in_ok-add.ensures.ok x.0)
      | else-place-nodes w ↦ (let other : x.0 ≢ node.0 = omega (arith, l, w.if-place-nodes.false) in rw (w.index-is, ne_eqb x.0 node.0 other) refl)
    ] in
    added ∙ ap (λ (ks : List ℕ). cond (is_node x node) (ks ++ c.loop-k.k ∷ []) ks) (c.loop-k.invariant x l) ∙ sym (chains-take c.args.chains.now c.loop-k.k c.of-place.result x c.of-place.ensures)

pub returns-clause-ok : goal.returns-clause-ok
returns-clause-ok c = λ x l.
    let end : c.loop-k.k ≡ length c.args.chains.now = omega arith in
    c.loop-k.invariant x l ∙ ap (λ (cs : List Chain). chain_numbers cs x) (take-all c.args.chains.now c.loop-k.k end)
