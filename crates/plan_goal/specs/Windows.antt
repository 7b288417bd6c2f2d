-- Windows of a plan: bundles that are done one after the other.
use Rattle.std.specs.Prelude.{◌≡◌, ℕ, ◌-◌, ◌+◌, List, [], ◌∷◌, ◌++◌, Option, Some, None, length, slice_get}
use Rattle.std.specs.List.{concat}
use Rattle.ring_table.specs.Value.{RingValue}
use Rattle.ring_table.specs.Spelling.{ring_text}
use Rattle.plan_text.specs.declared.step.Planned.{Planned}
use Rattle.plan_cert.specs.declared.cert.Cert.{Cert}
use Rattle.plan_check.specs.Certified.{IsCertified}
use Rattle.plan_check.specs.Headline.{KeepsPromises}
use Rattle.plan_goal.specs.declared.windows.Asked.{Asked}
use Rattle.plan_goal.specs.declared.windows.Asked.TheVariants.{All, After, Found}
use Rattle.plan_goal.specs.Cuts.{IsCut}
use Rattle.plan_goal.specs.Proposals.{front_text}
use Rattle.plan_goal.specs.Rings.{ring_left}

-- a window over a ring: the texts of the ring, this plan, which keeps its promises, and its certificate
pub record IsWindow (ring : RingValue) (plan : List Planned) (text : List ℕ) : Type 0 where
  pub cert : Cert
  pub text_is : text ≡ front_text ring plan cert
  pub certified : IsCertified ring plan cert
  pub keeps : KeepsPromises ring plan

-- windows one after the other, by their texts and plans, from one ring to another. Each is over the ring that
-- the one before leaves
pub data AreWindows (first : RingValue) : List (List ℕ) → List (List Planned) → RingValue → Type 0 where
  no_window : AreWindows first [] [] first
  one_more : (texts : List (List ℕ)) (plans : List (List Planned)) (before : RingValue) (text : List ℕ) (plan : List Planned) → AreWindows first texts plans before → IsWindow before plan text
      → AreWindows first (texts ++ text ∷ []) (plans ++ plan ∷ []) (ring_left before plan)

-- the windows' plans are the plan, cut; they lead from the ring to the one that the plan leaves
abbrev pub AreWindowsOf : RingValue → List Planned → List (List ℕ) → Type 0
AreWindowsOf ring plan texts = (plans : List (List Planned)) × (last : RingValue) × AreWindows ring texts plans last × IsCut plan plans
    × (ring_text last ≡ ring_text (ring_left ring plan))

-- what is asked for of texts: the one of a number, counted from 1, or all, one after the other
abbrev pub IsAsked : List (List ℕ) → Option ℕ → List ℕ → Type 0
IsAsked texts (Some number) text = slice_get texts (number - 1) ≡ Some text
IsAsked texts None text = text ≡ concat texts

-- what is kept once these texts were made
abbrev pub Keeps : Option ℕ → List (List ℕ) → Asked → Type 0
Keeps None texts (All text) = text.items ≡ concat texts
Keeps (Some number) texts (After left) = left + length texts ≡ number - 1
Keeps (Some number) texts (Found text) = slice_get texts (number - 1) ≡ Some text.items
Keeps None texts (After left) = ⊥
Keeps None texts (Found text) = ⊥
Keeps (Some number) texts (All text) = ⊥

-- the same of windows of these plans
abbrev pub AreKept : RingValue → List (List Planned) → Option ℕ → Asked → RingValue → Type 0
AreKept first plans only asked last = (texts : List (List ℕ)) × AreWindows first texts plans last × Keeps only texts asked

-- the text is what is asked for of windows of the plan
abbrev pub AreAskedOf : RingValue → List Planned → Option ℕ → List ℕ → Type 0
AreAskedOf ring plan only text = (texts : List (List ℕ)) × AreWindowsOf ring plan texts × IsAsked texts only text
