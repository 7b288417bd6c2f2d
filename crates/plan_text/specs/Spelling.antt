-- The one text of each plan.
use Rattle.std.specs.Prelude.{ℕ, List, [], ◌∷◌, ◌++◌, map, codes}
use Rattle.std.specs.Fmt.{decimal}
use Rattle.ring_names.specs.declared.ids.Slot.{Slot}
use Rattle.texts.specs.Parts.{text_of}
use Rattle.texts.specs.Frames.{header_fields, end_fields}
use Rattle.ring_table.specs.Value.{RingValue, names_of}
use Rattle.ring_table.specs.Spelling.{name_at}
use Rattle.plan_text.specs.declared.step.Step.{Step}
use Rattle.plan_text.specs.declared.step.Step.TheVariants.{Join, Mirror, Copy, Switch, Drop, Retire}
use Rattle.plan_text.specs.declared.step.Source.{Source}
use Rattle.plan_text.specs.declared.step.Source.TheVariants.{Owner, Slots}
use Rattle.plan_text.specs.declared.step.Planned.{Planned}

-- a slot: its partition, and its index
abbrev pub slot_fields : Slot → List (List ℕ)
slot_fields s = decimal s.partition ∷ decimal s.index ∷ []

-- what a copy reads
abbrev pub source_fields : Source → List (List ℕ)
source_fields Owner = codes "owner" ∷ []
source_fields (Slots from) = codes "slots" ∷ map decimal from

-- what the step is
abbrev pub kind_fields : List (List ℕ) → Step → List (List ℕ)
kind_fields names (Join x) = codes "join" ∷ name_at names x ∷ []
kind_fields names (Mirror s x) = codes "mirror" ∷ (slot_fields s ++ name_at names x ∷ [])
kind_fields names (Copy s from) = codes "copy" ∷ (slot_fields s ++ source_fields from)
kind_fields names (Switch s) = codes "switch" ∷ slot_fields s
kind_fields names (Drop s x) = codes "drop" ∷ (slot_fields s ++ name_at names x ∷ [])
kind_fields names (Retire x) = codes "retire" ∷ name_at names x ∷ []

-- the steps that it waits for, if there are some
abbrev pub after_fields : List ℕ → List (List ℕ)
after_fields [] = []
after_fields (x ∷ xs) = codes "after" ∷ decimal x ∷ map decimal xs

-- the line of a step
abbrev pub step_fields : List (List ℕ) → Planned → List (List ℕ)
step_fields names x = kind_fields names x.step ++ after_fields x.after

-- the lines of a plan
abbrev pub plan_lines : RingValue → List Planned → List (List (List ℕ))
plan_lines ring plan = header_fields (codes "plan") (codes "1") ∷ (map (step_fields (names_of ring)) plan ++ end_fields ∷ [])

-- its text
abbrev pub plan_text : RingValue → List Planned → List ℕ
plan_text ring plan = text_of (plan_lines ring plan)
