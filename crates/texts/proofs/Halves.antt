-- Cutting a line at a word.
use Rattle.std.proofs.Common.{◌≡◌, ℕ, zero, suc, ◌+◌, ◌-◌, ◌<◌, ◌≤◌, Bool, true, false, cond, eqb, List, [], ◌∷◌, ◌++◌, length, get_or, take, drop, Option, Some, None, refl, sym, ap, subst, ◌∙◌, append_assoc, arith}
use Rattle.std.specs.List.{slice_split, onto_first, AllByRecursion}
use Rattle.std.specs.Str.{bytes_eq}
use Rattle.std.proofs.lemmas.List.{length-drop, take_rest, get_or-drop, drop_more, take-append-drop, append_cancel_right, append-nil}
use Rattle.std.proofs.Math.Seq.{drop-nil}
use Rattle.std.proofs.lemmas.List.Splits.{slice_split-cons_yes}
use Rattle.std.specs.Borrow.{Bor}
use Rattle.texts.specs.Parts.{fields_of}
use Rattle.texts.specs.Kept.{fields_left}
use Rattle.texts.specs.Cuts.{front_of, behind_of}
use Rattle.texts.proofs.Cuts.{cut_at, none_at, first_part}

-- no field is the word
abbrev pub AreOther : List ℕ → List (List ℕ) → Type 0
AreOther word fields = AllByRecursion (λ f. bytes_eq f word ≡ false) fields

joined-by : (t : Bool) (x : ℕ) (u v : List (List ℕ)) → (y : List ℕ) × (ys : List (List ℕ)) × (u ≡ y ∷ ys)
    → cond t ([] ∷ (u ++ v)) (onto_first x (u ++ v)) ≡ cond t ([] ∷ u) (onto_first x u) ++ v
joined-by true x u v s = refl
joined-by false x u v s = rw s.2 refl

-- parts on both sides of a byte at which is cut
joined : (p : ℕ → Bool) (a : List ℕ) (y : ℕ) (b : List ℕ) → p y ≡ true → slice_split p (a ++ y ∷ b) ≡ slice_split p a ++ slice_split p b
joined p [] y b h = slice_split-cons_yes p y b h
joined p (x ∷ a) y b h = rw (joined p a y b h) (joined-by (p x) x (slice_split p a) (slice_split p b) (first_part p a))

-- bytes around the one at an index
around : (bs : List ℕ) (i : ℕ) → i < length bs → bs ≡ take i bs ++ get_or bs i 0 ∷ drop (i + 1) bs
around bs i h = sym (take-append-drop i bs) ∙ ap (λ t. take i bs ++ t) (drop_more bs i 0 h)

drop_on : {X : Type 0} (n m : ℕ) (xs : List X) → drop m (drop n xs) ≡ drop (n + m) xs
drop_on zero m xs = let e : m ≡ 0 + m = omega arith in ap (λ t. drop t xs) e
drop_on (suc n) m [] = drop-nil m ∙ sym (drop-nil (suc n + m))
drop_on (suc n) m (x ∷ xs) = let e : suc (n + m) ≡ suc n + m = omega arith in drop_on n m xs ∙ ap (λ t. drop t (x ∷ xs)) e

-- the field from one index up to the next space, and what stands behind it
next-field : (bs : List ℕ) (s i : ℕ) → s ≤ i → i < length bs → ((k : ℕ) → s ≤ k → k < i → eqb (get_or bs k 0) 32 ≡ false) → eqb (get_or bs i 0) 32 ≡ true
    → fields_of (drop s bs) ≡ take (i - s) (drop s bs) ∷ fields_of (drop (i + 1) bs)
next-field bs s i le h none at =
    let same : s + (i - s) ≡ i = omega arith in
    let on : s + ((i - s) + 1) ≡ i + 1 = omega arith in
    let long : length (drop s bs) ≡ length bs - s = length-drop s bs in
    cut_at (λ b. eqb b 32) (drop s bs) (i - s) (omega arith)
    (λ k l. ap (λ b. eqb b 32) (get_or-drop s bs k 0) ∙ none (s + k) (omega arith) (omega arith))
    (ap (λ b. eqb b 32) (get_or-drop s bs (i - s) 0 ∙ ap (λ j. get_or bs j 0) same) ∙ at)
    ∙ ap (λ t. take (i - s) (drop s bs) ∷ fields_of t) (take_rest (drop s bs) ((i - s) + 1) ∙ drop_on s ((i - s) + 1) bs ∙ ap (λ j. drop j bs) on)

-- the last field
last-field : (bs : List ℕ) (s : ℕ) → ((k : ℕ) → s ≤ k → k < length bs → eqb (get_or bs k 0) 32 ≡ false) → fields_of (drop s bs) ≡ take (length bs - s) (drop s bs) ∷ []
last-field bs s none =
    let long : length (drop s bs) ≡ length bs - s = length-drop s bs in
    none_at (λ b. eqb b 32) (drop s bs) (λ k l. ap (λ b. eqb b 32) (get_or-drop s bs k 0) ∙ none (s + k) (omega arith) (omega arith))
    ∙ ap (λ t. t ∷ []) (sym (take_rest bs s))

-- fields in front, the field up to the next space, and what stands behind it
pub whole-here : (bs : List ℕ) (s i : ℕ) (front all : List (List ℕ)) → s ≤ i → i < length bs → ((k : ℕ) → s ≤ k → k < i → eqb (get_or bs k 0) 32 ≡ false)
    → eqb (get_or bs i 0) 32 ≡ true → front ++ fields_of (drop s bs) ≡ all → front ++ take (i - s) (drop s bs) ∷ fields_of (drop (i + 1) bs) ≡ all
whole-here bs s i front all le h none at e = ap (λ t. front ++ t) (sym (next-field bs s i le h none at)) ∙ e

-- fields in front, and the last field
pub whole-last : (bs : List ℕ) (s : ℕ) (front all : List (List ℕ)) → ((k : ℕ) → s ≤ k → k < length bs → eqb (get_or bs k 0) 32 ≡ false)
    → front ++ fields_of (drop s bs) ≡ all → front ++ take (length bs - s) (drop s bs) ∷ [] ≡ all
whole-last bs s front all none e = ap (λ t. front ++ t) (sym (last-field bs s none)) ∙ e

-- the fields on both sides of a space
pub both-sides : (bs : List ℕ) (i : ℕ) → i < length bs → eqb (get_or bs i 0) 32 ≡ true → fields_of (take i bs) ++ fields_of (drop (i + 1) bs) ≡ fields_of bs
both-sides bs i h at = sym (ap fields_of (around bs i h) ∙ joined (λ b. eqb b 32) (take i bs) (get_or bs i 0) (drop (i + 1) bs) at)

-- the fields in front of the space at an index
front-grown : (bs : List ℕ) (i : ℕ) (front : List (List ℕ)) (field : List ℕ) → i < length bs → eqb (get_or bs i 0) 32 ≡ true
    → front ++ field ∷ fields_of (drop (i + 1) bs) ≡ fields_of bs → fields_of (take i bs) ≡ front ++ field ∷ []
front-grown bs i front field h at e =
    let rest = fields_of (drop (i + 1) bs) in
    append_cancel_right (fields_of (take i bs)) (front ++ field ∷ []) rest (both-sides bs i h at ∙ sym e ∙ sym (append_assoc front (field ∷ []) rest))

-- ---- the word

front-past : (word : List ℕ) (fs gs : List (List ℕ)) → AreOther word fs → front_of word (fs ++ gs) ≡ fs ++ front_of word gs
front-past word [] gs none = refl
front-past word (f ∷ fs) gs none = ap (λ t. cond t [] (f ∷ front_of word (fs ++ gs))) none.0 ∙ ap (λ t. f ∷ t) (front-past word fs gs none.1)

behind-past : (word : List ℕ) (fs gs : List (List ℕ)) → AreOther word fs → behind_of word (fs ++ gs) ≡ behind_of word gs
behind-past word [] gs none = refl
behind-past word (f ∷ fs) gs none = ap (λ t. cond t (Some (fs ++ gs)) (behind_of word (fs ++ gs))) none.0 ∙ behind-past word fs gs none.1

-- where the word stands
pub front-here : (word : List ℕ) (fs gs all : List (List ℕ)) (f : List ℕ) → AreOther word fs → bytes_eq f word ≡ true → fs ++ f ∷ gs ≡ all → fs ≡ front_of word all
front-here word fs gs all f none is e =
    sym (ap (front_of word) (sym e) ∙ front-past word fs (f ∷ gs) none ∙ ap (λ t. fs ++ cond t [] (f ∷ front_of word gs)) is ∙ append-nil fs)

pub behind-here : (word : List ℕ) (fs gs all : List (List ℕ)) (f : List ℕ) → AreOther word fs → bytes_eq f word ≡ true → fs ++ f ∷ gs ≡ all
    → Some gs ≡ behind_of word all
behind-here word fs gs all f none is e =
    sym (ap (behind_of word) (sym e) ∙ behind-past word fs (f ∷ gs) none ∙ ap (λ t. cond t (Some gs) (behind_of word gs)) is)

-- where it stands nowhere
pub front-all : (word : List ℕ) (fs : List (List ℕ)) → AreOther word fs → fs ≡ front_of word fs
front-all word [] none = refl
front-all word (f ∷ fs) none = sym (ap (λ t. cond t [] (f ∷ front_of word fs)) none.0 ∙ ap (λ t. f ∷ t) (sym (front-all word fs none.1)))

pub behind-none : (word : List ℕ) (fs : List (List ℕ)) → AreOther word fs → None ≡ behind_of word fs
behind-none word [] none = refl
behind-none word (f ∷ fs) none = behind-none word fs none.1 ∙ sym (ap (λ t. cond t (Some fs) (behind_of word fs)) none.0)

-- one more that is not the word
other-too : (word : List ℕ) (fs : List (List ℕ)) (f : List ℕ) → AreOther word fs → bytes_eq f word ≡ false → AreOther word (fs ++ f ∷ [])
other-too word [] f none is = (is, tt)
other-too word (g ∷ fs) f none is = (none.0, other-too word fs f none.1 is)

-- so no field in front of the space is
pub front-other : (word bs : List ℕ) (s i : ℕ) (front : List (List ℕ)) → s ≤ i → i < length bs → ((k : ℕ) → s ≤ k → k < i → eqb (get_or bs k 0) 32 ≡ false)
    → eqb (get_or bs i 0) 32 ≡ true → front ++ fields_of (drop s bs) ≡ fields_of bs → AreOther word front → bytes_eq (take (i - s) (drop s bs)) word ≡ false
    → AreOther word (fields_of (take i bs))
front-other word bs s i front le h none at e other is =
    let field = take (i - s) (drop s bs) in
    subst (AreOther word) (sym (front-grown bs i front field h at (whole-here bs s i front (fields_of bs) le h none at e))) (other-too word front field other is)

-- and where the last is not, no field is
pub all-other : (word bs : List ℕ) (s : ℕ) (front all : List (List ℕ)) → ((k : ℕ) → s ≤ k → k < length bs → eqb (get_or bs k 0) 32 ≡ false)
    → front ++ fields_of (drop s bs) ≡ all → AreOther word front → bytes_eq (take (length bs - s) (drop s bs)) word ≡ false → AreOther word all
all-other word bs s front all none e other is =
    let field = take (length bs - s) (drop s bs) in
    subst (AreOther word) (whole-last bs s front all none e) (other-too word front field other is)

-- the fields that are left, of some bytes
pub own-fields : (rest : Option (Bor (List ℕ))) (bytes : Bor (List ℕ)) (all : List (List ℕ)) → rest ≡ Some bytes → fields_left rest ≡ all → fields_of bytes.now ≡ all
own-fields rest bytes all is e = ap fields_left (sym is) ∙ e
