-- What a line with a command for people asks to be made, by the rows of its options.
use Rattle.std.specs.Prelude.{◌≡◌, ◌⊎◌, ℕ, List, [], ◌∷◌, Option, Some, None, codes, map, ⊤, if◌then◌else◌, option_map, string_bytes, unwrap_or}
use Rattle.std.specs.Str.{bytes_eq}
use Rattle.clap.specs.Words.{Row, all_of, first_of, one_of}
use Rattle.ringplan_command.specs.Files.{but_dash}
use Rattle.ringplan_command.specs.Numbers.{IsCount, IsNumberNamed}
use Rattle.ringplan_command.specs.Slots.{AreSlots}
use Rattle.plan_runs.specs.declared.back.Back.{Back}
use Rattle.plan_runs.specs.declared.back.Back.TheVariants.{Allowed, Never as NoBack}
use Rattle.ringplan_request.specs.declared.making.Color.{Color}
use Rattle.ringplan_request.specs.declared.making.Color.TheVariants.{Always, Never}
use Rattle.ringplan_request.specs.declared.making.Cut.{Cut}
use Rattle.ringplan_request.specs.declared.making.Detour.{Detour}
use Rattle.ringplan_request.specs.declared.making.Exit.{Exit}
use Rattle.ringplan_request.specs.declared.making.Exit.TheVariants.{Printed, Steps as StepsExit}
use Rattle.ringplan_request.specs.declared.making.Extent.{Extent}
use Rattle.ringplan_request.specs.declared.making.Extent.TheVariants.{Begun, Whole as WholePlan}
use Rattle.ringplan_request.specs.declared.making.Making.{Making}
use Rattle.ringplan_request.specs.declared.making.Making.TheVariants.{Why, Cert, After, Show, Draw, Steps, Moves, Windows, Goal, Around, State}
use Rattle.ringplan_request.specs.declared.making.Picture.{Picture}
use Rattle.ringplan_request.specs.declared.making.Picture.TheVariants.{Map, Rounds}
use Rattle.ringplan_request.specs.declared.making.Shape.{Shape}
use Rattle.ringplan_request.specs.declared.making.Shape.TheVariants.{Short, Whole}
use Rattle.ringplan_request.specs.declared.making.Statement.{Statement}
use Rattle.ringplan_request.specs.declared.making.Statement.TheVariants as stated
use Rattle.ringplan_request.specs.declared.making.Wish.{Wish}
use Rattle.change_text.specs.declared.options.Options.{Options}
use Rattle.change_text.specs.declared.options.RackRule.{RackRule}
use Rattle.change_text.specs.declared.options.Unreadable.{Unreadable}
use Rattle.change_text.specs.declared.options.Unreadable.TheVariants.{Left, Refused}
use Rattle.change_text.specs.declared.options.RackRule.TheVariants.{Auto as AutoRacks, Off as NoRacks, Behind}

-- the text of a form of answers, but for `text`, which is also the form if none is named
abbrev pub but_text : Option (List ℕ) → Option (List ℕ)
but_text None = None
but_text (Some text) = if bytes_eq text (codes "text") then None else Some text

-- words are asked for, or JSON
abbrev pub InWords : List Row → Type 0
InWords rows = but_text (first_of (codes "format") rows) ≡ None

abbrev pub InJson : List Row → Type 0
InJson rows = but_text (first_of (codes "format") rows) ≡ Some (codes "json")

-- the flag is on the line, or it is not
abbrev pub IsSet : List ℕ → List Row → Type 0
IsSet id rows = one_of id rows ≡ Some (codes "true")

abbrev pub IsUnset : List ℕ → List Row → Type 0
IsUnset id rows = IsSet id rows → ⊥

-- when words have colours: if no text says it, or `auto` does, the screen decides
abbrev pub MeansColor : Option (List ℕ) → Color → Type 0
MeansColor None color = ⊤
MeansColor (Some text) color = (text ≡ codes "auto") ⊎ (((text ≡ codes "always") × (color ≡ Always)) ⊎ ((text ≡ codes "never") × (color ≡ Never)))

-- how racks are known: as two words say it, or behind the byte that is named
abbrev pub MeansRacks : Option (List ℕ) → RackRule → Type 0
MeansRacks None rule = rule ≡ AutoRacks
MeansRacks (Some text) rule = ((text ≡ codes "auto") × (rule ≡ AutoRacks)) ⊎ (((text ≡ codes "none") × (rule ≡ NoRacks)) ⊎ ((b : ℕ) × (text ≡ b ∷ []) × (rule ≡ Behind b)))

-- what is given for racks says nothing of them
abbrev pub HasNoRacks : List Row → Type 0
HasNoRacks rows = (rule : RackRule) → MeansRacks (first_of (codes "racks-behind") rows) rule → ⊥

-- the texts of the slots that are to stay with their owners
abbrev pub left_texts : List Row → List (List ℕ)
left_texts rows = unwrap_or (all_of (codes "leave") rows) []

-- nothing is to change. Neither a dead node is named nor a file that may name one, no slot is to stay, and no
-- rest is asked for
abbrev pub NamesNoDetour : List Row → Type 0
NamesNoDetour rows = (unwrap_or (all_of (codes "dead") rows) [] ≡ []) × (but_dash (first_of (codes "layout") rows) ≡ None)
    × (left_texts rows ≡ []) × IsUnset (codes "rest") rows

-- the dead nodes, the racks and the file of the layout are those that are named
abbrev pub MeansKnown : List Row → Options → Type 0
MeansKnown rows options = (map (λ name. name.items) options.dead.items ≡ unwrap_or (all_of (codes "dead") rows) [])
    × MeansRacks (first_of (codes "racks-behind") rows) options.racks
    × (option_map string_bytes options.layout_file ≡ but_dash (first_of (codes "layout") rows))

abbrev pub MeansShape : List Row → Shape → Type 0
MeansShape rows Whole = IsSet (codes "all") rows
MeansShape rows Short = IsUnset (codes "all") rows

abbrev pub MeansPicture : List Row → Picture → Type 0
MeansPicture rows Map = IsSet (codes "map") rows
MeansPicture rows Rounds = IsUnset (codes "map") rows

abbrev pub MeansExit : List Row → Exit → Type 0
MeansExit rows StepsExit = IsSet (codes "exit-code") rows
MeansExit rows Printed = IsUnset (codes "exit-code") rows

abbrev pub MeansUnreadable : List Row → Unreadable → Type 0
MeansUnreadable rows Left = IsSet (codes "partial") rows
MeansUnreadable rows Refused = IsUnset (codes "partial") rows

abbrev pub MeansBack : List Row → Back → Type 0
MeansBack rows Allowed = IsSet (codes "back") rows
MeansBack rows NoBack = IsUnset (codes "back") rows

abbrev pub MeansExtent : List Row → Extent → Type 0
MeansExtent rows Begun = IsSet (codes "rest") rows
MeansExtent rows WholePlan = IsUnset (codes "rest") rows

-- how a plan that has begun goes on, and which slots stay with their owners
abbrev pub MeansDetour : List Row → Detour → Options → Type 0
MeansDetour rows detour options = MeansBack rows detour.back × MeansExtent rows detour.extent × MeansShape rows detour.shape × AreSlots (left_texts rows) options.left.items

-- what a summary is to show
abbrev pub MeansWish : List Row → Wish → Type 0
MeansWish rows wish = MeansShape rows wish.shape × MeansColor (first_of (codes "color") rows) wish.color
    × IsNumberNamed 1 4294967295 (one_of (codes "rate") rows) wish.rate

abbrev pub MeansCut : List Row → Cut → Type 0
MeansCut rows cut = IsCount 1000000 1 (one_of (codes "rounds") rows) cut.rounds × IsNumberNamed 1 1000000 (one_of (codes "only") rows) cut.only

-- the statement is what the options ask for in JSON
abbrev pub MeansStatement : List Row → Statement → Options → Type 0
MeansStatement rows stated.Why options = ⊤
MeansStatement rows (stated.Show wish) options = MeansWish rows wish × MeansKnown rows options
MeansStatement rows (stated.Goal exit) options = MeansExit rows exit × MeansKnown rows options × MeansUnreadable rows options.unreadable

-- the making is what the options of the line ask for, by what they say of nodes and partitions
abbrev pub MeansMaking : List Row → Making → Options → Type 0
MeansMaking rows (Why color) options = InWords rows × MeansColor (first_of (codes "color") rows) color
MeansMaking rows Cert options = ⊤
MeansMaking rows After options = ⊤
MeansMaking rows (Show wish) options = InWords rows × MeansWish rows wish × MeansKnown rows options
MeansMaking rows (Draw shown) options = MeansPicture rows shown × MeansKnown rows options
MeansMaking rows Steps options = IsUnset (codes "moves") rows × MeansKnown rows options
MeansMaking rows Moves options = IsSet (codes "moves") rows × MeansKnown rows options
MeansMaking rows (Windows cut) options = MeansCut rows cut × MeansKnown rows options
MeansMaking rows (Goal exit) options = InWords rows × MeansExit rows exit × MeansKnown rows options × MeansUnreadable rows options.unreadable
MeansMaking rows (Around detour) options = MeansDetour rows detour options × MeansKnown rows options
MeansMaking rows (State statement) options = InJson rows × MeansStatement rows statement options
