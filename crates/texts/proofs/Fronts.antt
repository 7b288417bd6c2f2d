-- Items behind which no number may stand, since they take all numbers that do.
use Rattle.std.proofs.Common.{◌≡◌, ℕ, Bool, true, false, cond, nat_lt, List, [], ◌∷◌, ◌++◌, map, Some, Ok, refl, sym, ap, subst, ◌∙◌, arith, append_assoc}
use Rattle.std.specs.Fmt.{decimal}
use Rattle.std.proofs.lemmas.List.{append-nil}
use Rattle.std.proofs.lemmas.Bool.{ltb-true, and_parts}
use Rattle.ring_names.proofs.Logic.{cond_some, pair_is, pair_of}
use Rattle.texts.specs.Number.{value_from, is_number, decimal_value}
use Rattle.texts.specs.Numbers.{numbers_of, beyond, are_small}
use Rattle.texts.specs.Judging.{both_of, Item, ◌⊗◌, end_at, map_item, whole}
use Rattle.texts.specs.Laws.{IsItem, IsLine}
pub use Rattle.texts.specs.Laws.{IsFront, Last}
use Rattle.texts.proofs.Items.{both_is, map_is, end_is}
use Rattle.texts.proofs.Decimals.{decimal-value, value-decimal}

-- no number stands in front
abbrev pub Free : List (List ℕ) → Type 0
Free rest = (numbers_of rest ≡ []) × (beyond rest ≡ rest)

pub front-item : {A : Type 0} (C : List (List ℕ) → Type 0) (a : Item A) (s : A → List (List ℕ)) (P : A → Type 0) → IsItem a s P → IsFront C a s P
front-item C a s P ia = record { takes = ia.takes; gives = λ v rest p free. ia.gives v rest p }

pub front-⊗ : {A B : Type 0} (C D : List (List ℕ) → Type 0) (a : Item A) (b : Item B) (s : A → List (List ℕ)) (t : B → List (List ℕ)) (P : A → Type 0) (Q : B → Type 0) → IsFront C a s P → IsFront D b t Q
    → ((y : B) (rest : List (List ℕ)) → D rest → C (t y ++ rest)) → IsFront D (a ⊗ b) (λ v. s v.0 ++ t v.1) (λ v. P v.0 × Q v.1)
unfolding both_of
front-⊗ {A} {B} C D a b s t P Q ia ib free = record { takes = take; gives = give }
  where
    take : (fields rest : List (List ℕ)) (v : A × B) → (a ⊗ b) fields ≡ (Ok v, rest) → (fields ≡ (s v.0 ++ t v.1) ++ rest) × (P v.0 × Q v.1)
    take fields rest v e =
        let h = pair_is ((a ⊗ b) fields) (Ok v) rest e in
        let oks = both_is (a fields).0 (b (a fields).1).0 v h.0 in
        let first = ia.takes fields (a fields).1 v.0 (pair_of (a fields) (Ok v.0) (a fields).1 oks.0 refl) in
        let second = ib.takes (a fields).1 rest v.1 (pair_of (b (a fields).1) (Ok v.1) rest oks.1 h.1) in
        (first.0 ∙ ap (λ r. s v.0 ++ r) second.0 ∙ sym (append_assoc (s v.0) (t v.1) rest), (first.1, second.1))

    give : (v : A × B) (rest : List (List ℕ)) → P v.0 × Q v.1 → D rest → (a ⊗ b) ((s v.0 ++ t v.1) ++ rest) ≡ (Ok v, rest)
    give v rest p f =
        let first = ia.gives v.0 (t v.1 ++ rest) p.0 (free v.1 rest f) in
        let second = ib.gives v.1 rest p.1 f in
        rw (append_assoc (s v.0) (t v.1) rest, first, second) refl

-- the value as another type has it
pub front-map : {A B : Type 0} (C : List (List ℕ) → Type 0) (a : Item A) (s : A → List (List ℕ)) (P : A → Type 0) (f : A → B) (g : B → A) → ((x : A) → g (f x) ≡ x) → ((y : B) → f (g y) ≡ y) → IsFront C a s P → IsFront C (map_item f a) (λ y. s (g y)) (λ y. P (g y))
front-map {A} {B} C a s P f g gf fg ia = record { takes = take; gives = give }
  where
    take : (fields rest : List (List ℕ)) (v : B) → map_item f a fields ≡ (Ok v, rest) → (fields ≡ s (g v) ++ rest) × P (g v)
    take fields rest v e =
        let h = pair_is (map_item f a fields) (Ok v) rest e in
        let m = map_is f (a fields).0 v h.0 in
        let i = ia.takes fields rest m.0 (pair_of (a fields) (Ok m.0) rest m.1 h.1) in
        rw (← m.2, gf m.0) i

    give : (v : B) (rest : List (List ℕ)) → P (g v) → C rest → map_item f a (s (g v) ++ rest) ≡ (Ok v, rest)
    give v rest p free = rw (ia.gives (g v) rest p free, fg v) refl

pub front-whole : {A : Type 0} (C : List (List ℕ) → Type 0) (k : ℕ) (a : Item A) (s : A → List (List ℕ)) (P : A → Type 0) → C [] → IsFront C a s P → IsLine (whole k a) s P
unfolding both_of
front-whole {A} C k a s P nothing ia = record { takes = take; gives = give }
  where
    take : (fields : List (List ℕ)) (v : A) → whole k a fields ≡ Ok v → (fields ≡ s v) × P v
    take fields v e =
        let m = map_is (λ x. x.0) ((a ⊗ end_at k) fields).0 v e in
        let oks = both_is (a fields).0 (end_at k (a fields).1).0 m.0 m.1 in
        let rest-is : (a fields).1 ≡ [] = end_is k (a fields).1 (end_at k (a fields).1).1 (pair_of (end_at k (a fields).1) (Ok tt) (end_at k (a fields).1).1 oks.1 refl) in
        let first = ia.takes fields [] m.0.0 (pair_of (a fields) (Ok m.0.0) [] oks.0 rest-is) in
        rw (← m.2) (first.0 ∙ append-nil (s m.0.0), first.1)

    give : (v : A) → P v → whole k a (s v) ≡ Ok v
    give v p =
        let e = ia.gives v [] p nothing in
        let f : a (s v) ≡ (Ok v, []) = subst (λ l. a l ≡ (Ok v, [])) (append-nil (s v)) e in
        rw f refl

-- ---- numbers

-- the numbers in front are spelled so
pub numbers-taken : (fields : List (List ℕ)) → are_small (numbers_of fields) ≡ true → fields ≡ map decimal (numbers_of fields) ++ beyond fields
numbers-taken [] small = refl
numbers-taken (f ∷ fs) small = by (is_number f) refl (λ s. numbers-taken fs s) small
  where
    by : (b : Bool) → is_number f ≡ b → (are_small (numbers_of fs) ≡ true → fs ≡ map decimal (numbers_of fs) ++ beyond fs) → are_small (cond b (value_from 0 f ∷ numbers_of fs) []) ≡ true → f ∷ fs ≡ map decimal (cond b (value_from 0 f ∷ numbers_of fs) []) ++ cond b (beyond fs) (f ∷ fs)
    by true h later s =
        let p = and_parts (nat_lt (value_from 0 f) 4294967296) (are_small (numbers_of fs)) s in
        let lt = ltb-true (value_from 0 f) 4294967296 p.0 in
        let is : decimal_value f ≡ Some (value_from 0 f) = rw h refl in
        ap (λ (x : List ℕ). x ∷ fs) (decimal-value f (value_from 0 f) is (omega (arith, lt))) ∙ ap (λ (x : List (List ℕ)). decimal (value_from 0 f) ∷ x) (later p.1)
    by false h later s = refl

pub numbers-given : (xs : List ℕ) (rest : List (List ℕ)) → are_small xs ≡ true → Free rest → (numbers_of (map decimal xs ++ rest) ≡ xs) × (beyond (map decimal xs ++ rest) ≡ rest)
numbers-given [] rest small free = free
numbers-given (x ∷ xs) rest small free =
    let p = and_parts (nat_lt x 4294967296) (are_small xs) small in
    let lt = ltb-true x 4294967296 p.0 in
    let is = cond_some (is_number (decimal x)) (value_from 0 (decimal x)) x (value-decimal x (omega (arith, lt))) in
    let i = numbers-given xs rest p.1 free in
    (rw (is.0, is.1, i.0) refl, rw (is.0, i.1) refl)
