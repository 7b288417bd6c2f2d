-- The first field of a text ends at the first space or line end.
use Rattle.std.proofs.Common.{◌≡◌, ℕ, Bool, true, false, cond, ◌||◌, eqb, List, [], ◌∷◌, length, take, refl, sym, ap, ◌∙◌}
use Rattle.std.specs.Str.{bytes_eq}
use Rattle.std.specs.List.{slice_split, onto_first}
use Rattle.std.proofs.lemmas.List.Splits.{slice_split-cons_yes, slice_split-cons_no}
use Rattle.std.proofs.lemmas.Bool.{or_parts}
use Rattle.texts.specs.Parts.{fields_of, lines_of, until}
use Rattle.texts.specs.Left.{begins_with}
use Rattle.texts.proofs.Cuts.{first_part}

FirstField : List ℕ → List ℕ → Type 0
FirstField bs field = (line : List ℕ) × (lines : List (List ℕ)) × (fields : List (List ℕ)) × (slice_split (λ b. eqb b 10) bs ≡ line ∷ lines) × (fields_of line ≡ field ∷ fields)

left : (a b : Bool) → (a || b) ≡ true → b ≡ false → a ≡ true
left true b e f = refl
left false true e f = sym f
left false false e f = e

more : (b : ℕ) (bs field : List ℕ) → (eqb b 32 || eqb b 10) ≡ false → FirstField bs field → FirstField (b ∷ bs) (b ∷ field)
unfolding FirstField
more b bs field e h =
    let no = or_parts (eqb b 32) (eqb b 10) e in (
      b ∷ h.0,
      h.1,
      h.2,
      slice_split-cons_no (λ c. eqb c 10) b bs no.1 ∙ ap (onto_first b) h.3,
      slice_split-cons_no (λ c. eqb c 32) b h.0 no.0 ∙ ap (onto_first b) h.4,
    )

stop : (b : ℕ) (bs : List ℕ) → (eqb b 32 || eqb b 10) ≡ true → FirstField (b ∷ bs) []
unfolding FirstField
stop b bs e = by (eqb b 10) refl
  where
    by : (t : Bool) → eqb b 10 ≡ t → FirstField (b ∷ bs) []
    by true f = ([], slice_split (λ c. eqb c 10) bs, [], slice_split-cons_yes (λ c. eqb c 10) b bs f, refl)
    by false f =
        let s = first_part (λ c. eqb c 10) bs in
        let space : eqb b 32 ≡ true = left (eqb b 32) (eqb b 10) e f in (
          b ∷ s.0,
          s.1,
          fields_of s.0,
          slice_split-cons_no (λ c. eqb c 10) b bs f ∙ ap (onto_first b) s.2,
          slice_split-cons_yes (λ c. eqb c 32) b s.0 space,
        )

first : (bs : List ℕ) → FirstField bs (until (λ b. eqb b 32 || eqb b 10) bs)
unfolding FirstField
first [] = ([], [], [], refl, refl)
first (b ∷ bs) = by (eqb b 32 || eqb b 10) refl (first bs)
  where
    by : (t : Bool) → (eqb b 32 || eqb b 10) ≡ t → FirstField bs (until (λ b. eqb b 32 || eqb b 10) bs) → FirstField (b ∷ bs) (cond t [] (b ∷ until (λ b. eqb b 32 || eqb b 10) bs))
    by true e f = stop b bs e
    by false e f = more b bs (until (λ b. eqb b 32 || eqb b 10) bs) e f

begins : (word bs field : List ℕ) → FirstField bs field → begins_with word (lines_of bs) ≡ bytes_eq field word
unfolding FirstField
begins word bs field h = rw (h.3, h.4) refl

-- a text begins with what stands in front of the first space or line end
pub begins_until : (word bs : List ℕ) → begins_with word (lines_of bs) ≡ bytes_eq (until (λ b. eqb b 32 || eqb b 10) bs) word
begins_until word bs = begins word bs (until (λ b. eqb b 32 || eqb b 10) bs) (first bs)

pub take_whole : (bs : List ℕ) → take (length bs) bs ≡ bs
take_whole [] = refl
take_whole (b ∷ bs) = ap (λ (cs : List ℕ). b ∷ cs) (take_whole bs)
