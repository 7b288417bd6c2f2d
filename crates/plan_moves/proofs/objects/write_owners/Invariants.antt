use Rattle.std.proofs.Common.{◌≡◌, ◌++◌, ◌∷◌, map, drop, codes}
use Rattle.json.specs.Token.{key}
use Rattle.json.specs.Tree.{json_tokens, items_tokens}
use Rattle.serde_json.specs.View.{items_of}
use Rattle.serde_json.specs.Written.{outline, items_outline}
use Rattle.ring_names.specs.declared.ids.Slot.{Slot}
use Rattle.ring_table.specs.Value.{names_of}
use Rattle.plan_cover.specs.Looking.Serving.{serving_at}
use Rattle.plan_moves.specs.Lines.{node_data, owners_data}
use Rattle.plan_moves.proofs.objects.write_owners.Given as goal

abbrev pub invariant-loop-index : goal.invariant-loop-index
invariant-loop-index l = record {
  before : l.line.before ≡ l.fn.line.before;
  told : l.line.tokens ++ items_tokens (items_outline (items_of (map (λ (s : Slot). node_data (names_of l.ring) (serving_at l.ring l.present s).owner)
      (map (λ i. record { partition = l.slot.partition; index = i }) (drop l.index-index l.index-items)))))
      ≡ l.fn.line.tokens ++ (key (codes "from") ∷ json_tokens (outline (owners_data (names_of l.ring) (serving_at l.ring l.present) (map (λ i. record { partition = l.slot.partition; index = i }) l.index-items))));
}
