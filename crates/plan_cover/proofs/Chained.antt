-- The numbers of a node's chains.
use Rattle.std.proofs.Common.{◌≡◌, ℕ, ◌+◌, cond, List, [], ◌∷◌, ◌++◌, take, Option, Some, None, refl, ap, ◌∙◌}
use Rattle.std.specs.Prelude.{slice_get, option_map}
use Rattle.ring_names.specs.declared.ids.NodeId.{NodeId}
use Rattle.ring_table.specs.declared.allowance.NodeSide.{NodeSide}
use Rattle.plan_cert.specs.declared.cert.Chain.{Chain}
use Rattle.plan_cert.specs.Chains.{side_of}
use Rattle.plan_stage.specs.Occupancy.{is_node}
use Rattle.plan_cover.specs.Looking.Numbers.{chain_numbers, is_chain_of}
use Rattle.plan_cover.proofs.Counting.{numbers-take}

-- the node's numbers among one chain more
pub chains-take : (chains : List Chain) (k : ℕ) (of : NodeSide) (x : NodeId) → option_map side_of (slice_get chains k) ≡ Some of → chain_numbers (take (k + 1) chains) x ≡ cond (is_node x of.node) (chain_numbers (take k chains) x ++ k ∷ []) (chain_numbers (take k chains) x)
chains-take chains k of x e = by (slice_get chains k) refl e
  where
    by : (o : Option Chain) → slice_get chains k ≡ o → option_map side_of o ≡ Some of → chain_numbers (take (k + 1) chains) x ≡ cond (is_node x of.node) (chain_numbers (take k chains) x ++ k ∷ []) (chain_numbers (take k chains) x)
    by (Some c) is e =
        let s : side_of c ≡ of = cc in
        let f : c.node ≡ of.node = ap (λ (y : NodeSide). y.node) s in
        numbers-take (is_chain_of x) chains k c is ∙ ap (λ (m : NodeId). cond (is_node x m) (chain_numbers (take k chains) x ++ k ∷ []) (chain_numbers (take k chains) x)) f
    by None is e = absurd cc
