-- The tokens of a line, for private clauses.
use Rattle.std.specs.Prelude.{◌≡◌, List, [], ◌∷◌, ◌++◌, map, codes}
use Rattle.json.specs.Token.{Token, key}
use Rattle.json.specs.Tree.{json_tokens}
use Rattle.json.specs.Written.{Written}
use Rattle.serde_json.specs.Data.{array}
use Rattle.serde_json.specs.View.{items_of}
use Rattle.serde_json.specs.Written.{outline}
use Rattle.plan_text.specs.declared.step.Source.{Source}
use Rattle.plan_text.specs.declared.step.Source.TheVariants.{Owner, Slots}
use Rattle.plan_moves.specs.Lines.{number_data}

-- what was written goes on by these tokens
abbrev pub GoesOn : Written → Written → List Token → Type 0
GoesOn old new ts = (new.before ≡ old.before) × (new.tokens ≡ old.tokens ++ ts)

-- the member that names listed slots
abbrev pub listed_tokens : Source → List Token
listed_tokens Owner = []
listed_tokens (Slots from) = key (codes "slots") ∷ json_tokens (outline (array (items_of (map number_data from))))
