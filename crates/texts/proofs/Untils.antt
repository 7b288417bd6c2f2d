-- What stands in front of the first byte that ends it, beside a word.
use Rattle.std.proofs.Common.{◌≡◌, ℕ, zero, suc, ◌+◌, ◌<◌, Bool, true, false, cond, eqb, nat_lt, List, [], ◌∷◌, length, get_or, drop, take, refl, sym, ap, subst, arith}
use Rattle.std.proofs.lemmas.Bool.{eqb-true, ltb-true, ltb-false}
use Rattle.std.proofs.Math.Seq.{drop-cons}
use Rattle.std.proofs.lemmas.List.{drop_all}
use Rattle.std.specs.Str.{bytes_eq}
use Rattle.texts.specs.Parts.{until}

next : (bs : List ℕ) (i : ℕ) → i < length bs → drop i bs ≡ get_or bs i 0 ∷ drop (i + 1) bs
next bs i h = let e : suc i ≡ i + 1 = omega arith in subst (λ (k : ℕ). drop i bs ≡ get_or bs i 0 ∷ drop k bs) e (drop-cons bs i 0 h)

stops : (p : ℕ → Bool) (b w : ℕ) (bs ws : List ℕ) → (eqb b w ≡ true → p w ≡ true) → bytes_eq (until p (b ∷ bs)) (w ∷ ws) ≡ false
stops p b w bs ws h = by (p b) (eqb b w) refl refl
  where
    by : (t u : Bool) → p b ≡ t → eqb b w ≡ u → bytes_eq (cond t [] (b ∷ until p bs)) (w ∷ ws) ≡ false
    by true u e f = refl
    by false false e f = rw f refl
    by false true e f = absurd (let g : p b ≡ true = subst (λ (c : ℕ). p c ≡ true) (sym (eqb-true b w f)) (h f) in cc)

-- a byte of the word that they have not, or that ends them
pub until-stop : (p : ℕ → Bool) (bs ws : List ℕ) (i : ℕ) → i < length ws → (i < length bs → eqb (get_or bs i 0) (get_or ws i 0) ≡ true → p (get_or ws i 0) ≡ true)
    → bytes_eq (until p (drop i bs)) (drop i ws) ≡ false
until-stop p bs ws i l h = by (nat_lt i (length bs)) refl
  where
    by : (t : Bool) → nat_lt i (length bs) ≡ t → bytes_eq (until p (drop i bs)) (drop i ws) ≡ false
    by true e =
        let m = ltb-true i (length bs) e in
        rw (next bs i m, next ws i l) (stops p (get_or bs i 0) (get_or ws i 0) (drop (i + 1) bs) (drop (i + 1) ws) (h m))
    by false e = rw (drop_all i bs (ltb-false i (length bs) e), next ws i l) refl

-- what stands in front is the bytes up to the first that ends it
pub until-take : (p : ℕ → Bool) (bs : List ℕ) → take (length (until p bs)) bs ≡ until p bs
until-take p [] = refl
until-take p (b ∷ bs) = by (p b) (until-take p bs)
  where
    by : (t : Bool) → take (length (until p bs)) bs ≡ until p bs → take (length (cond t [] (b ∷ until p bs))) (b ∷ bs) ≡ cond t [] (b ∷ until p bs)
    by true h = refl
    by false h = ap (λ (cs : List ℕ). b ∷ cs) h

pub until-before : (p : ℕ → Bool) (bs : List ℕ) (k : ℕ) → k < length (until p bs) → p (get_or bs k 0) ≡ false
until-before p [] k h = absurd (omega arith)
until-before p (b ∷ bs) k h = by (p b) k refl (until-before p bs) h
  where
    by : (t : Bool) (k : ℕ) → p b ≡ t → ((j : ℕ) → j < length (until p bs) → p (get_or bs j 0) ≡ false) → k < length (cond t [] (b ∷ until p bs)) → p (get_or (b ∷ bs) k 0) ≡ false
    by true k e r h = absurd (omega arith)
    by false zero e r h = e
    by false (suc k) e r h = r k (omega arith)

pub until-at : (p : ℕ → Bool) (bs : List ℕ) → length (until p bs) < length bs → p (get_or bs (length (until p bs)) 0) ≡ true
until-at p [] h = absurd (omega arith)
until-at p (b ∷ bs) h = by (p b) refl (until-at p bs) h
  where
    by : (t : Bool) → p b ≡ t → (length (until p bs) < length bs → p (get_or bs (length (until p bs)) 0) ≡ true) → length (cond t [] (b ∷ until p bs)) < length (b ∷ bs) → p (get_or (b ∷ bs) (length (cond t [] (b ∷ until p bs))) 0) ≡ true
    by true e r h = e
    by false e r h = r (omega arith)
