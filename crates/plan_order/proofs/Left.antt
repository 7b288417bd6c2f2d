-- The paths that are left at a place.
use Rattle.std.proofs.Common.{◌≡◌, ℕ, suc, zero, ◌+◌, Bool, true, false, List, [], ◌∷◌, drop, Some, refl, ◌∙◌, arith}
use Rattle.std.specs.Prelude.{◌||◌, slice_get, min}
use Rattle.ring_names.specs.declared.refusal.Refusal.TheVariants.{BadPath}
use Rattle.plan_text.specs.declared.step.Planned.{Planned}
use Rattle.plan_order.specs.Paths.{is_path, first_bad}
use Rattle.plan_order.specs.Facts.{leads, some_leads}

left : {X : Type 0} (xs : List X) (n : ℕ) (x : X) → slice_get xs n ≡ Some x → drop n xs ≡ x ∷ drop (n + 1) xs
left [] n x e = absurd cc
left (y ∷ ys) zero x e = (let f : y ≡ x = cc in rw f refl)
left (y ∷ ys) (suc n) x e =
    let s : suc n + 1 ≡ suc (n + 1) = omega arith in
    rw s (left ys n x e)

module _ (paths : List (List ℕ)) (n : ℕ) (path : List ℕ) (e : slice_get paths n ≡ Some path) where
  -- a path of the plan is passed over
  pub passed : (plan : List Planned) → is_path plan path ≡ true → first_bad plan n (drop n paths) ≡ first_bad plan (n + 1) (drop (n + 1) paths)
  passed plan good = rw (left paths n path e, good) refl

  -- any other is the first that is none
  pub stopped : (plan : List Planned) → is_path plan path ≡ false → first_bad plan n (drop n paths) ≡ Some (BadPath (min n 4294967295))
  stopped plan bad = rw (left paths n path e, bad) refl

  -- the ends of the path are added
  pub led : (a b : ℕ) (old new all : Bool) → (some_leads a b (drop n paths) || old) ≡ all → new ≡ (leads a b path || old) → (some_leads a b (drop (n + 1) paths) || new) ≡ all
  led a b old new all is added = crossed (leads a b path) (some_leads a b (drop (n + 1) paths)) old new all (rw (left paths n path e) at is) added
    where
      crossed : (l s o m t : Bool) → ((l || s) || o) ≡ t → m ≡ (l || o) → (s || m) ≡ t
      crossed true true o m t e f = e
      crossed true false o m t e f = f ∙ e
      crossed false s o m t e f = rw f e
