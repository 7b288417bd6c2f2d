-- The nodes that are named and marked: none at first, and one more of them.
use Rattle.std.proofs.Common.{◌≡◌, ℕ, zero, suc, Bool, true, false, ◌||◌, ◌==◌, List, [], ◌∷◌, ◌++◌, map, replicate, refl, ap, ◌∙◌, slice_get, Some, None}
use Rattle.std.proofs.lemmas.List.{map_push}
use Rattle.ring_table.proofs.Terms.{has, NodeId}
use Rattle.ring_names.proofs.Logic.{or_swapped}
use Rattle.ring_names.proofs.InLists.{has_push}
use Rattle.change_text.specs.Draft.{names}

-- flags that are all false mark nothing
pub none-marked : (n x : ℕ) → elim (slice_get (replicate n false) x) [ Some flag ↦ flag | None ↦ false ] ≡ false
none-marked zero x = refl
none-marked (suc n) zero = refl
none-marked (suc n) (suc x) = none-marked n x

has-more : (xs : List NodeId) (n x : NodeId) → has x.0 (map (λ (y : NodeId). y.0) (xs ++ n ∷ [])) ≡ ((x.0 == n.0) || has x.0 (map (λ (y : NodeId). y.0) xs))
has-more xs n x = ap (has x.0) (map_push (λ (y : NodeId). y.0) xs n) ∙ has_push (map (λ (y : NodeId). y.0) xs) n.0 x.0

or_front : (a b c d : Bool) → b ≡ (a || c) → (b || d) ≡ (a || (c || d))
or_front true b c d e = rw e refl
or_front false b c d e = rw e refl

-- one join more, and one leave more
pub names-join : (joins leaves : List NodeId) (n x : NodeId) → names (record { joins = joins ++ n ∷ []; leaves = leaves }) x ≡ ((x.0 == n.0) || names (record { joins = joins; leaves = leaves }) x)
names-join joins leaves n x = or_front (x.0 == n.0) _ _ _ (has-more joins n x)

pub names-leave : (joins leaves : List NodeId) (n x : NodeId) → names (record { joins = joins; leaves = leaves ++ n ∷ [] }) x ≡ ((x.0 == n.0) || names (record { joins = joins; leaves = leaves }) x)
names-leave joins leaves n x =
    ap (λ (b : Bool). has x.0 (map (λ (y : NodeId). y.0) joins) || b) (has-more leaves n x) ∙ or_swapped (has x.0 (map (λ (y : NodeId). y.0) joins)) (x.0 == n.0) (has x.0 (map (λ (y : NodeId). y.0) leaves))
