use Rattle.std.proofs.Common.{◌≡◌, ℕ, ◌<◌, sym, ap, ◌∙◌, subst, List, [], length, map, get_or, Some}
use Rattle.std.specs.Prelude.{option_map}
use Rattle.std.proofs.lemmas.Option.{slice_get-map, slice_get-get_or}
use Rattle.ring_names.proofs.Places.{place-get}
use Rattle.std.proofs.lemmas.Slice.Eq.{bytes_eq-Decides}
use Rattle.ring_names.specs.Lists.{AllNew}
use Rattle.ring_names.specs.Names.{place}
use Rattle.ring_table.specs.declared.node.Node.{Node}
use Rattle.ring_table.proofs.NodesLaws.{placed-name}
use Rattle.ring_table.proofs.field.is_named.Goals as goal

-- the node of a place has the number of its name
named-place : (xs : List Node) (i : ℕ) (d : Node) (f : List ℕ) → i < length xs → (get_or xs i d).name ≡ f → AllNew [] (map (λ y. y.name) xs)
    → place (map (λ y. y.name) xs) f ≡ Some i
named-place xs i d f l same new =
    place-get (map (λ y. y.name) xs) i f new (slice_get-map (λ (y : Node). y.name) xs i ∙ ap (option_map (λ (y : Node). y.name)) (slice_get-get_or xs i d l)
    ∙ ap Some same)

pub returns-then-place-nodes-clause-value : goal.returns-then-place-nodes-clause-value
returns-then-place-nodes-clause-value c = λ h.
    let nodes = c.nodes-nodes.ensures in
    let same = sym c.as_slice.ensures ∙ (bytes_eq-Decides c.as_slice.result.now c.args.name.now).0 (sym c.eq.ensures ∙ h) in
    let new = subst (λ (xs : List Node). AllNew [] (map (λ x. x.name) xs)) (sym nodes.value) nodes.valid.names in
    subst (λ (xs : List Node). place (map (λ x. x.name) xs) c.args.name.now ≡ Some c.args.node.0) nodes.value
    (named-place c.nodes-nodes.result.now c.args.node.0 c.index-nodes-place.result c.args.name.now c.if-place-nodes.true same new)

pub returns-then-place-nodes-clause-name : goal.returns-then-place-nodes-clause-name
returns-then-place-nodes-clause-name c = λ h. placed-name c.args.ring.now.format c.args.ring.now.nodes c.args.name.now c.args.node.0 c.nodes-nodes.ensures.valid.each_node (returns-then-place-nodes-clause-value c h)
