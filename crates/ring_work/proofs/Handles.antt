-- Some element of a list to which one is put, and from which one is taken.
use Rattle.std.proofs.Common.{◌≡◌, ◌∙◌, ◌+◌, List, [], ◌∷◌, ◌++◌, length, get_or, length-append, sym, ap, subst, inl, inr, arith}
use Rattle.std.proofs.lemmas.Bool.{cases_lt}
use Rattle.std.proofs.lemmas.List.{get_or_append_left, get_or-append-add}
use Rattle.std.specs.Prelude.{◌⊎◌, Any}

-- one more is put behind them
pub any_more : {X : Type 0} (P : X → Type 0) (xs : List X) (y : X) → Any P xs → Any P (xs ++ y ∷ [])
any_more P xs y a = (
  a.0,
  a.1,
  (let most = a.2 in let len = length-append xs (y ∷ []) in omega (arith, most, len)),
  get_or_append_left xs (y ∷ []) a.1 a.0 a.2 ∙ a.3,
  a.4,
)

-- the last one is taken
pub any_taken : {X : Type 0} (P : X → Type 0) (all xs : List X) (y : X) → all ≡ xs ++ y ∷ [] → Any P all → Any P xs ⊎ P y
any_taken P all xs y joined some =
    let a = subst (λ zs. Any P zs) joined some in
    let len = length-append xs (y ∷ []) in
    elim (cases_lt a.0 (length xs)) [
      | inl under ↦ inl (a.0, a.1, under, sym (get_or_append_left xs (y ∷ []) a.1 a.0 under) ∙ a.3, a.4)
      | inr from ↦
          let most = a.2 in
          let last : a.0 ≡ length xs + 0 = omega (arith, from, most, len) in
          let is : y ≡ a.1 = sym (ap (λ k. get_or (xs ++ y ∷ []) k a.1) last ∙ get_or-append-add xs (y ∷ []) 0 a.1) ∙ a.3 in
          inr (subst P (sym is) a.4)
    ]
