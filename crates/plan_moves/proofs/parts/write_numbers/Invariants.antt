use Rattle.std.proofs.Common.{◌≡◌, ◌++◌, ◌∷◌, map, drop}
use Rattle.json.specs.Token.{key}
use Rattle.json.specs.Tree.{json_tokens, items_tokens}
use Rattle.serde_json.specs.Data.{array}
use Rattle.serde_json.specs.View.{items_of}
use Rattle.serde_json.specs.Written.{outline, items_outline}
use Rattle.plan_moves.specs.Lines.{number_data}
use Rattle.plan_moves.proofs.parts.write_numbers.Given as goal

abbrev pub invariant-loop-n : goal.invariant-loop-n
invariant-loop-n l = record {
  before : l.line.before ≡ l.fn.line.before;
  told : l.line.tokens ++ items_tokens (items_outline (items_of (map number_data (drop l.n-index l.given))))
      ≡ l.fn.line.tokens ++ (key l.name ∷ json_tokens (outline (array (items_of (map number_data l.given)))));
}
