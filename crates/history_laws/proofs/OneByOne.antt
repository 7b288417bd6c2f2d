-- A history that is told entry by entry.
use Rattle.std.proofs.Common.{◌≡◌, ◌∙◌, ℕ, Bool, List, [], ◌∷◌, ◌++◌, length, Option, refl, sym, subst, arith, eqb-true}
use Rattle.std.specs.Prelude.{◌==◌, IsTrue}
use Rattle.std.proofs.Math.Path.{fun_ext}
use Rattle.ring_names.specs.declared.ids.Slot.{Slot}
use Rattle.plan_text.specs.declared.step.Planned.{Planned}
use Rattle.plan_runs.specs.declared.event.Entry.{Entry}
use Rattle.history_laws.specs.Past.{IsToldBy, Tells, taken_after}

-- slots that are the same one by one are the same
pub alike : (old : List Planned) (numbers : List (Option ℕ)) (f g : Slot → Bool) (xs ys : List Entry) → ((s : Slot) → f s ≡ g s) → Tells old numbers f xs ys → Tells old numbers g xs ys
alike old numbers f g xs ys same t = subst (λ (h : Slot → Bool). Tells old numbers h xs ys) (fun_ext same) t

-- if the first entry is told, and the others are, all are
pub goes_on : (old : List Planned) (numbers : List (Option ℕ)) (f g : Slot → Bool) (xs later ys front behind : List Entry) (x : Entry)
    → xs ≡ x ∷ later → ys ≡ front ++ behind → IsToldBy numbers f x front → ((s : Slot) → g s ≡ taken_after old numbers f x.event s) → Tells old numbers g later behind → Tells old numbers f xs ys
goes_on old numbers f g xs later ys front behind x first cut told taken t =
    subst (λ (zs : List Entry). Tells old numbers f zs ys) (sym first) (front, behind, cut, told, alike old numbers g (taken_after old numbers f x.event) later behind taken t)

-- nothing is left of both
pub ends : (old : List Planned) (numbers : List (Option ℕ)) (f : Slot → Bool) (xs ys : List Entry) (b : Bool) → length xs ≡ 0 → b ≡ (length ys == 0) → IsTrue b → Tells old numbers f xs ys
ends old numbers f [] [] b none is t = refl
ends old numbers f [] (y ∷ ys) b none is t = absurd (let e = eqb-true (length (y ∷ ys)) 0 (sym is ∙ t) in omega arith)
ends old numbers f (x ∷ xs) ys b none is t = absurd (omega arith)
