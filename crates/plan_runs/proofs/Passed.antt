-- Guards that hold, one by one.
use Rattle.std.proofs.Common.{◌≡◌, inl, inr, ◌∙◌, ℕ, Bool, true, false, List, [], ◌∷◌, ap, eqb-true}
use Rattle.std.specs.Prelude.{◌==◌, Option, Some, None, slice_get}
use Rattle.std.specs.List.{list_all}
use Rattle.ring_names.specs.Lists.{has}
use Rattle.std.proofs.lemmas.Bool.{and_parts, or_cases as either}
use Rattle.plan_text.specs.declared.step.Planned.{Planned}
use Rattle.plan_stage.specs.Clauses.{first_failing, Guard}
use Rattle.plan_stage.proofs.Below.{met}
use Rattle.plan_runs.specs.World.{World}
use Rattle.plan_runs.specs.Guards.{is_ready}
use Rattle.plan_runs.specs.Reached.{Ready}

abbrev pub AllMet : List Guard → Type 0
AllMet [] = Unit {0}
AllMet (c ∷ cs) = (c.0 ≡ true) × AllMet cs

pub all_met : (cs : List Guard) → first_failing cs ≡ None → AllMet cs
all_met [] h = tt
all_met (c ∷ cs) h = (let m = met c.0 c.1 (first_failing cs) h in (m.0, all_met cs m.1))

-- a test that all of these pass
pub among : (D : ℕ → Bool) (a : ℕ) (xs : List ℕ) → list_all D xs ≡ true → has a xs ≡ true → D a ≡ true
among D a [] e h = absurd cc
among D a (x ∷ xs) e h =
    let p = and_parts (D x) (list_all D xs) e in
    elim (either (a == x) (has a xs) h) [
      | inl f ↦ ap D (eqb-true a x f) ∙ p.0
      | inr f ↦ among D a xs p.1 f
    ]

pub ready : (plan : List Planned) (w : World) (n : ℕ) → is_ready plan w n ≡ true → Ready plan w.done n
ready plan w n e a d = by (slice_get plan n) e d
  where
    by : (o : Option Planned) → (elim o [ Some x ↦ list_all w.done x.after | None ↦ false ]) ≡ true → (elim o [ Some x ↦ has a x.after | None ↦ false ]) ≡ true → w.done a ≡ true
    by None e d = absurd cc
    by (Some x) e d = among w.done a x.after e d
