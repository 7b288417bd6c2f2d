-- What is printed of a part of a bundle's history.
use Rattle.std.specs.Prelude.{◌≡◌, ◌⊎◌, ℕ, List, [], ◌∷◌, ◌++◌, Option, Some, None, Result, Ok, Err}
use Rattle.std.specs.Fmt.{decimal}
use Rattle.ring_names.specs.Refusals.{number_of}
use Rattle.history_text.specs.declared.cutting.Part.{Part}
use Rattle.history_text.specs.declared.cutting.NoPart.{NoPart}
use Rattle.history_text.specs.Cutting.{IsCut, refusal_of}
use Rattle.ringplan_command.specs.declared.parts.PartWish.{PartWish}
use Rattle.ringplan_answers.specs.Answers.{refused_status}
use Rattle.ringplan_answers.specs.Io.{Prints}

-- the place is that number on a line; nothing is printed where the part has no such entry
abbrev pub IsPlaceShown : Option ℕ → List ℕ → ℕ → Type 0
IsPlaceShown None text status = (text ≡ []) × (status ≡ 2)
IsPlaceShown (Some k) text status = (text ≡ decimal k ++ 10 ∷ []) × (status ≡ 0)

-- the bundle of a part, or if one of its entries is asked for, the place of that
abbrev pub IsCutShown : Option ℕ → Part → List ℕ → ℕ → Type 0
IsCutShown None part text status = (text ≡ part.text.items) × (status ≡ 0)
IsCutShown (Some n) part text status = IsPlaceShown part.place text status

-- that of what came of a cut, or nothing
abbrev pub IsPartShown : Option ℕ → Result Part NoPart → List ℕ → ℕ → Type 0
IsPartShown entry (Ok part) text status = IsCutShown entry part text status
IsPartShown entry (Err e) text status = (text ≡ []) × (status ≡ refused_status (number_of (refusal_of e)))

-- the entry whose place is found: that one, or any where none is asked for
abbrev pub IsWanted : Option ℕ → ℕ → Type 0
IsWanted None wanted = Unit {0}
IsWanted (Some n) wanted = n ≡ wanted

-- what is printed of a part of the bytes, and the status; or nothing, if memory or a read failed
pub data Parts (wish : PartWish) (bytes : List ℕ) (text : List ℕ) (status : ℕ) : Type 0 where
  cut : (wanted : ℕ) (r : Result Part NoPart) → IsWanted wish.entry wanted → IsCut wish.choice wanted bytes r → IsPartShown wish.entry r text status → Parts wish bytes text status
  failed : text ≡ [] → status ≡ 3 → Parts wish bytes text status

abbrev pub ShowsPart : PartWish → List ℕ → Option (List ℕ) → Option (List ℕ) → ℕ → Type 0
ShowsPart wish bytes old new result = (text : List ℕ) × (status : ℕ) × Parts wish bytes text status × Prints old new text status result

-- the same of a part that was cut
abbrev pub ShowsCut : Option ℕ → Part → Option (List ℕ) → Option (List ℕ) → ℕ → Type 0
ShowsCut entry part old new result = (text : List ℕ) × (status : ℕ) × (IsCutShown entry part text status ⊎ ((text ≡ []) × (status ≡ 3))) × Prints old new text status result
