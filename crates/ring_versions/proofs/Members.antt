-- Versions in lists, and lists of versions in conflict.
use Rattle.std.proofs.Common.{◌≡◌, ◌≢◌, ◌∙◌, ◌⊎◌, Bool, true, IsTrue, inl, inr, ℕ, zero, suc, ◌<◌, List, [], ◌∷◌, ◌++◌, length, get_or, false, refl, sym, ap, subst, arith}
use Rattle.std.specs.Prelude.{◌==◌}
use Rattle.std.specs.List.{AllByRecursion, HoldsAt}
use Rattle.std.proofs.lemmas.Bool.{eqb-true, eq-eqb}
use Rattle.std.proofs.lemmas.List.{nil_from_length}
use Rattle.std.proofs.Math.Nat.{le_trans}
use Rattle.ring_clock.specs.declared.entry.Entry.{Entry}
use Rattle.ring_clock.specs.Clock.{IsAtMost}
use Rattle.ring_versions.specs.declared.version.Version.{Version}
use Rattle.ring_versions.specs.Versions.{IsIn, Covers, InConflict, IsApart}

pub in_first : (v : Version) (xs ys : List Version) → IsIn v xs → IsIn v (xs ++ ys)
in_first v [] ys h = absurd h
in_first v (x ∷ xs) ys h = elim h [ inl is ↦ inl is | inr more ↦ inr (in_first v xs ys more) ]

pub in_second : (v : Version) (xs ys : List Version) → IsIn v ys → IsIn v (xs ++ ys)
in_second v [] ys h = h
in_second v (x ∷ xs) ys h = inr (in_second v xs ys h)

pub in_either : (v : Version) (xs ys : List Version) → IsIn v (xs ++ ys) → IsIn v xs ⊎ IsIn v ys
in_either v [] ys h = inr h
in_either v (x ∷ xs) ys h = elim h [
  | inl is ↦ inl (inl is)
  | inr more ↦ elim (in_either v xs ys more) [ inl front ↦ inl (inr front) | inr back ↦ inr back ]
]

pub covers_down : (xs : List Version) (k c : List Entry) → IsAtMost k c → Covers xs c → Covers xs k
covers_down xs k c le h = (h.0, h.1, λ w. le_trans (le w) (h.2 w))

pub covers_first : (xs ys : List Version) (k : List Entry) → Covers xs k → Covers (xs ++ ys) k
covers_first xs ys k h = (h.0, in_first h.0 xs ys h.1, h.2)

pub covers_second : (xs ys : List Version) (k : List Entry) → Covers ys k → Covers (xs ++ ys) k
covers_second xs ys k h = (h.0, in_second h.0 xs ys h.1, h.2)

pub covers_front : (x : Version) (xs : List Version) (k : List Entry) → Covers (x ∷ xs) k → IsAtMost k x.clock ⊎ Covers xs k
covers_front x xs k h = elim h.1 [
  | inl is ↦ inl (subst (λ (v : Version). IsAtMost k v.clock) (sym is) h.2)
  | inr more ↦ inr (h.0, more, h.2)
]

pub covers_either : (xs ys : List Version) (k : List Entry) → Covers (xs ++ ys) k → Covers xs k ⊎ Covers ys k
covers_either xs ys k h = elim (in_either h.0 xs ys h.1) [ inl front ↦ inl (h.0, front, h.2) | inr back ↦ inr (h.0, back, h.2) ]

-- a list that is found to be empty, or not to be
pub empty : {A : Type 0} (xs : List A) (n : ℕ) (b : Bool) → n ≡ length xs → b ≡ (n == 0) → b ≡ true → xs ≡ []
empty xs n b len is so = nil_from_length xs (sym len ∙ eqb-true n 0 (sym is ∙ so))

pub filled : {A : Type 0} (xs : List A) (n : ℕ) (b : Bool) → n ≡ length xs → b ≡ (n == 0) → b ≡ false → xs ≢ []
filled xs n b len is isnt none = (let told : b ≡ true = is ∙ eq-eqb n 0 (len ∙ ap length none) in cc)

pub neither : (b : Bool) → b ≡ false → IsTrue b → ⊥
neither b isnt is = cc

pub each : (P : Version → Type 0) (vs : List Version) → AllByRecursion P vs → (u : Version) → IsIn u vs → P u
each P [] all u h = absurd h
each P (x ∷ xs) all u h = elim h [ inl is ↦ subst P is all.0 | inr more ↦ each P xs all.1 u more ]

every : (v : Version) (vs : List Version) → ((u : Version) → IsIn u vs → InConflict v u) → AllByRecursion (InConflict v) vs
every v [] h = tt
every v (x ∷ xs) h = (h x (inl refl), every v xs (λ u more. h u (inr more)))

-- each of the first is in conflict with each of the second
abbrev pub Cross : List Version → List Version → Type 0
Cross xs ys = (u v : Version) → IsIn u xs → IsIn v ys → InConflict u v

pub apart_join : (xs ys : List Version) → IsApart xs → IsApart ys → Cross xs ys → IsApart (xs ++ ys)
apart_join [] ys a b c = b
apart_join (x ∷ xs) ys a b c = (
  every x (xs ++ ys) (λ u h. elim (in_either u xs ys h) [ inl front ↦ each (InConflict x) xs a.0 u front | inr back ↦ c x u (inl refl) back ]),
  apart_join xs ys a.1 b (λ u v h. c u v (inr h)),
)

pub apart_cross : (xs ys : List Version) → IsApart (xs ++ ys) → Cross xs ys
apart_cross [] ys a u v h k = absurd h
apart_cross (x ∷ xs) ys a u v h k = elim h [
  | inl is ↦ subst (λ (z : Version). InConflict z v) is (each (InConflict x) (xs ++ ys) a.0 v (in_second v xs ys k))
  | inr more ↦ apart_cross xs ys a.1 u v more k
]

pub apart_first : (xs ys : List Version) → IsApart (xs ++ ys) → IsApart xs
apart_first [] ys a = tt
apart_first (x ∷ xs) ys a = (every x xs (λ u h. each (InConflict x) (xs ++ ys) a.0 u (in_first u xs ys h)), apart_first xs ys a.1)

pub apart_second : (xs ys : List Version) → IsApart (xs ++ ys) → IsApart ys
apart_second [] ys a = a
apart_second (x ∷ xs) ys a = apart_second xs ys a.1

at : (vs : List Version) (k : ℕ) (d : Version) → k < length vs → IsIn (get_or vs k d) vs
at [] k d l = absurd (omega arith)
at (v ∷ vs) zero d l = inl refl
at (v ∷ vs) (suc k) d l = inr (at vs k d (omega arith))

-- what a slice has at a place is in it
pub found_at : (vs : List Version) (k : ℕ) (x : Version) → (k < length vs) × HoldsAt (λ (y : Version). x ≡ y) vs k → IsIn x vs
found_at vs k x h = subst (λ (v : Version). IsIn v vs) (sym (h.1 x)) (at vs k x h.0)
