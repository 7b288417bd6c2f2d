-- The number of a name, among names in order of first sight.
use Rattle.std.proofs.Common.{◌≡◌, ℕ, suc, zero, ◌+◌, ◌<◌, Bool, true, false, cond, List, [], ◌∷◌, ◌++◌, length, map, Option, Some, None, refl, sym, ap, ◌∙◌, arith, append_assoc, length-append, inl, inr, ◌⊎◌}
use Rattle.std.specs.Prelude.{option_map, slice_get}
use Rattle.std.specs.Str.{bytes_eq}
use Rattle.std.specs.Global.{Vec}
use Rattle.std.proofs.lemmas.Slice.Eq.{bytes_eq-Decides}
use Rattle.std.proofs.lemmas.List.{append-nil, map_push}
use Rattle.ring_names.specs.Lists.{AllNew}
use Rattle.ring_names.specs.Names.{place}
use Rattle.ring_names.proofs.AtBytes.{same_bytes}
use Rattle.ring_names.proofs.Logic.{cond_none}

-- a new name gets the next number
pub place-push : (ns : List (List ℕ)) (x : List ℕ) → place ns x ≡ None → place (ns ++ x ∷ []) x ≡ Some (length ns)
place-push [] x e = rw (same_bytes x) refl
place-push (n ∷ ns) x e =
    let s = cond_none (bytes_eq x n) (place ns x) e in
    rw (s.0, place-push ns x s.1) refl

-- the names once a new one was put last
pub names-push : (old new : List (Vec ℕ)) (v : Vec ℕ) (ns : List (List ℕ)) (x : List ℕ) → map (λ k. k.items) old ≡ ns → v.items ≡ x → new ≡ old ++ v ∷ [] → map (λ k. k.items) new ≡ ns ++ x ∷ []
names-push old new v ns x e f is = ap (λ (l : List (Vec ℕ)). map (λ k. k.items) l) is ∙ map_push (λ (k : Vec ℕ). k.items) old v ∙ rw (e, f) refl

-- ---- names of which each is new

place-front : (seen ys : List (List ℕ)) (x : List ℕ) → place seen x ≡ None → place (seen ++ x ∷ ys) x ≡ Some (length seen)
place-front [] ys x e = rw (same_bytes x) refl
place-front (n ∷ ns) ys x e =
    let s = cond_none (bytes_eq x n) (place ns x) e in
    rw (s.0, place-front ns ys x s.1) refl

place-from : (seen xs : List (List ℕ)) (i : ℕ) (x : List ℕ) → AllNew seen xs → slice_get xs i ≡ Some x → place (seen ++ xs) x ≡ Some (length seen + i)
place-from seen [] i x new e = absurd cc
place-from seen (y ∷ ys) zero x new e =
    let same : y ≡ x = cc in
    let front : place (seen ++ y ∷ ys) x ≡ Some (length seen) = rw (← same) (place-front seen ys y new.0) in
    front ∙ ap (λ (n : ℕ). Some n) (omega arith)
place-from seen (y ∷ ys) (suc i) x new e =
    let later = place-from (seen ++ y ∷ []) ys i x new.1 e in
    let joined : (seen ++ y ∷ []) ++ ys ≡ seen ++ y ∷ ys = append_assoc seen (y ∷ []) ys in
    ap (λ ns. place ns x) (sym joined) ∙ later ∙ ap (λ (n : ℕ). Some n) (omega (arith, length-append seen (y ∷ [])))

-- one more that is new behind them
pub all-new-push : (seen xs : List (List ℕ)) (x : List ℕ) → AllNew seen xs → place (seen ++ xs) x ≡ None → AllNew seen (xs ++ x ∷ [])
all-new-push seen [] x new e = (rw append-nil at e, tt)
all-new-push seen (y ∷ ys) x new e = (new.0, all-new-push (seen ++ y ∷ []) ys x new.1 (ap (λ ns. place ns x) (append_assoc seen (y ∷ []) ys) ∙ e))

-- the number of a name that each is new before is its place
pub place-get : (xs : List (List ℕ)) (i : ℕ) (x : List ℕ) → AllNew [] xs → slice_get xs i ≡ Some x → place xs x ≡ Some i
place-get xs i x new e = place-from [] xs i x new e ∙ ap (λ (n : ℕ). Some n) (omega arith)

some_place : (b : Bool) (o : Option ℕ) (i : ℕ) → cond b (Some 0) (option_map (λ m. suc m) o) ≡ Some i → ((b ≡ true) × (i ≡ 0)) ⊎ ((b ≡ false) × ((j : ℕ) × (o ≡ Some j) × (i ≡ suc j)))
some_place true o i e = inl (refl, cc)
some_place false None i e = absurd cc
some_place false (Some j) i e = inr (refl, (j, refl, cc))

-- and at its number stands the name
pub get-place : (xs : List (List ℕ)) (i : ℕ) (x : List ℕ) → place xs x ≡ Some i → slice_get xs i ≡ Some x
get-place [] i x e = absurd cc
get-place (y ∷ ys) i x e =
    elim (some_place (bytes_eq x y) (place ys x) i e) [
      | inl h ↦ rw h.1 (ap (λ (n : List ℕ). Some n) (sym ((bytes_eq-Decides x y).0 h.0)))
      | inr h ↦ rw h.1.2 (get-place ys h.1.0 x h.1.1)
    ]

pub place-below : (xs : List (List ℕ)) (i : ℕ) (x : List ℕ) → place xs x ≡ Some i → i < length xs
place-below [] i x e = absurd cc
place-below (y ∷ ys) i x e =
    elim (some_place (bytes_eq x y) (place ys x) i e) [
      | inl h ↦ omega (arith, h.1)
      | inr h ↦ omega (arith, h.1.2, place-below ys h.1.0 x h.1.1)
    ]
