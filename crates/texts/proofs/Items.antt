-- Items, lines and parts of a text, put together.
use Rattle.std.proofs.Common.{suc, arith, ◌≡◌, ℕ, ◌+◌, Bool, true, false, cond, List, [], ◌∷◌, ◌++◌, Result, Ok, Err, refl, sym, ap, subst, ◌∙◌, append_assoc, length, map}
use Rattle.std.specs.List.{AllByRecursion}
use Rattle.std.specs.Str.{bytes_eq}
use Rattle.std.proofs.lemmas.List.{append-nil}
use Rattle.std.proofs.lemmas.Slice.Eq.{bytes_eq-Decides}
use Rattle.ring_names.specs.declared.refusal.Refusal.{Refusal}
use Rattle.ring_names.specs.declared.refusal.Refusal.TheVariants.{BadLine, TooLarge}
use Rattle.ring_names.proofs.Logic.{pair_is, pair_of}
use Rattle.texts.specs.Judging.{both_of, Item, ◌⊗◌, field_at, word_at, end_at, need_at, map_ok, map_item, whole, unless}
use Rattle.texts.specs.Left.{Left, ◌>>=◌, next_number, first_line, next_line, one_line, then_part, map_part}
use Rattle.texts.specs.Laws.{IsItem, IsLine, IsPart, SomeLeft, Any}

abbrev done : {A : Type 0} → A → Result A Refusal
done x = Ok x

pub ok_is : {A : Type 0} (x y : A) → done x ≡ done y → x ≡ y
ok_is x y e = cc

-- the value of a step that did not fail
pub bind_ok : {A B : Type 0} (r : Result A Refusal) (f : A → Result B Refusal) (y : B) → (r >>= f) ≡ Ok y → (x : A) × (r ≡ Ok x) × (f x ≡ Ok y)
bind_ok (Ok x) f y e = (x, refl, e)
bind_ok (Err d) f y e = absurd cc

pub map_is : {A B : Type 0} (f : A → B) (r : Result A Refusal) (y : B) → map_ok f r ≡ Ok y → (x : A) × (r ≡ Ok x) × (f x ≡ y)
map_is f (Ok x) y e = (x, refl, ok_is (f x) y e)
map_is f (Err d) y e = absurd cc

pub both_is : {A B : Type 0} (a : Result A Refusal) (b : Result B Refusal) (v : A × B) → both_of a b ≡ Ok v → (a ≡ Ok v.0) × (b ≡ Ok v.1)
unfolding both_of
both_is (Ok x) (Ok y) v e = let f = ok_is (x, y) v e in (ap (λ p. Ok p.0) f, ap (λ p. Ok p.1) f)
both_is (Ok x) (Err d) v e = absurd cc
both_is (Err d) (Ok y) v e = absurd cc
both_is (Err d) (Err g) v e = absurd cc

pub IsItem-⊗ : {A B : Type 0} (a : Item A) (b : Item B) (s : A → List (List ℕ)) (t : B → List (List ℕ)) (P : A → Type 0) (Q : B → Type 0) → IsItem a s P → IsItem b t Q → IsItem (a ⊗ b) (λ v. s v.0 ++ t v.1) (λ v. P v.0 × Q v.1)
unfolding both_of
IsItem-⊗ {A} {B} a b s t P Q ia ib = record { takes = take; gives = give }
  where
    take : (fields rest : List (List ℕ)) (v : A × B) → (a ⊗ b) fields ≡ (Ok v, rest) → (fields ≡ (s v.0 ++ t v.1) ++ rest) × (P v.0 × Q v.1)
    take fields rest v e =
        let h = pair_is ((a ⊗ b) fields) (Ok v) rest e in
        let oks = both_is (a fields).0 (b (a fields).1).0 v h.0 in
        let first = ia.takes fields (a fields).1 v.0 (pair_of (a fields) (Ok v.0) (a fields).1 oks.0 refl) in
        let second = ib.takes (a fields).1 rest v.1 (pair_of (b (a fields).1) (Ok v.1) rest oks.1 h.1) in
        (first.0 ∙ ap (λ r. s v.0 ++ r) second.0 ∙ sym (append_assoc (s v.0) (t v.1) rest), (first.1, second.1))

    give : (v : A × B) (rest : List (List ℕ)) → P v.0 × Q v.1 → (a ⊗ b) ((s v.0 ++ t v.1) ++ rest) ≡ (Ok v, rest)
    give v rest p =
        let first = ia.gives v.0 (t v.1 ++ rest) p.0 in
        let second = ib.gives v.1 rest p.1 in
        rw (append_assoc (s v.0) (t v.1) rest, first, second) refl

pub end_is : (k : ℕ) (fields rest : List (List ℕ)) → end_at k fields ≡ (Ok tt, rest) → fields ≡ []
end_is k [] rest e = refl
end_is k (f ∷ fs) rest e = let bad : Err (BadLine k) ≡ Ok tt = ap (λ p. p.0) e in absurd cc

-- only the item makes the line
pub IsLine-whole : {A : Type 0} (k : ℕ) (a : Item A) (s : A → List (List ℕ)) (P : A → Type 0) → IsItem a s P → IsLine (whole k a) s P
unfolding both_of
IsLine-whole {A} k a s P ia = record { takes = take; gives = give }
  where
    take : (fields : List (List ℕ)) (v : A) → whole k a fields ≡ Ok v → (fields ≡ s v) × P v
    take fields v e =
        let m = map_is (λ x. x.0) ((a ⊗ end_at k) fields).0 v e in
        let oks = both_is (a fields).0 (end_at k (a fields).1).0 m.0 m.1 in
        let rest-is : (a fields).1 ≡ [] = end_is k (a fields).1 (end_at k (a fields).1).1 (pair_of (end_at k (a fields).1) (Ok tt) (end_at k (a fields).1).1 oks.1 refl) in
        let first = ia.takes fields [] m.0.0 (pair_of (a fields) (Ok m.0.0) [] oks.0 rest-is) in
        rw (← m.2) (first.0 ∙ append-nil (s m.0.0), first.1)

    give : (v : A) → P v → whole k a (s v) ≡ Ok v
    give v p =
        let e = ia.gives v [] p in
        let f : a (s v) ≡ (Ok v, []) = subst (λ l. a l ≡ (Ok v, [])) (append-nil (s v)) e in
        rw f refl

-- the value as another type has it
pub IsLine-map : {A B : Type 0} (read : List (List ℕ) → Result A Refusal) (s : A → List (List ℕ)) (P : A → Type 0) (f : A → B) (g : B → A) → ((a : A) → g (f a) ≡ a) → ((b : B) → f (g b) ≡ b) → IsLine read s P → IsLine (λ l. map_ok f (read l)) (λ b. s (g b)) (λ b. P (g b))
IsLine-map {A} {B} read s P f g gf fg il = record { takes = take; gives = give }
  where
    take : (fields : List (List ℕ)) (v : B) → map_ok f (read fields) ≡ Ok v → (fields ≡ s (g v)) × P (g v)
    take fields v e =
        let m = map_is f (read fields) v e in
        let h = il.takes fields m.0 m.1 in
        rw (← m.2, gf m.0) h

    give : (v : B) → P (g v) → map_ok f (read (s (g v))) ≡ Ok v
    give v p = rw (il.gives (g v) p, fg v) refl

-- none of the tests is so
abbrev pub Passes : List (Bool × Refusal) → Type 0
Passes [] = Unit {0}
Passes (t ∷ ts) = (t.0 ≡ false) × Passes ts

unless_by : {A : Type 0} (b : Bool) (e : Refusal) (r : Result A Refusal) (y : A) → cond b (Err e) r ≡ Ok y → (b ≡ false) × (r ≡ Ok y)
unless_by true e r y h = absurd cc
unless_by false e r y h = (refl, h)

pub unless_is : {A : Type 0} (ts : List (Bool × Refusal)) (x y : A) → unless ts x ≡ Ok y → (x ≡ y) × Passes ts
unless_is [] x y e = (ok_is x y e, tt)
unless_is (t ∷ ts) x y e =
    let h = unless_by t.0 t.1 (unless ts x) y e in
    let i = unless_is ts x y h.1 in
    (i.0, (h.0, i.1))

pub unless_ok : {A : Type 0} (ts : List (Bool × Refusal)) (x : A) → Passes ts → unless ts x ≡ Ok x
unless_ok [] x p = refl
unless_ok (t ∷ ts) x p = rw p.0 (unless_ok ts x p.1)

-- another way to say what is allowed
pub IsLine-as : {A : Type 0} (read : List (List ℕ) → Result A Refusal) (s t : A → List (List ℕ)) (P Q : A → Type 0) → ((v : A) → s v ≡ t v) → ((v : A) → P v → Q v) → ((v : A) → Q v → P v) → IsLine read s P → IsLine read t Q
IsLine-as {A} read s t P Q same to from il = record {
  takes = λ fields v e. let h = il.takes fields v e in (h.0 ∙ same v, to v h.1);
  gives = λ v q. rw (← same v) (il.gives v (from v q));
}

word_is : (k : ℕ) (w f : List ℕ) (b : Bool) → bytes_eq f w ≡ b → cond b (done {A = Unit {0}} tt) (Err (BadLine k)) ≡ Ok tt → f ≡ w
word_is k w f true h e = (bytes_eq-Decides f w).0 h
word_is k w f false h e = absurd cc

-- a word stands for itself
pub IsItem-word : (k : ℕ) (w : List ℕ) → IsItem (word_at k w) (λ _. w ∷ []) (λ _. Unit {0})
IsItem-word k w = record { takes = take; gives = λ v rest p. rw ((bytes_eq-Decides w w).1 refl) refl }
  where
    take : (fields rest : List (List ℕ)) (v : Unit {0}) → word_at k w fields ≡ (Ok v, rest) → (fields ≡ (w ∷ []) ++ rest) × Unit {0}
    take [] rest v e = let bad : Err (BadLine k) ≡ Ok v = ap (λ p. p.0) e in absurd cc
    take (f ∷ fs) rest v e =
        let h = pair_is (word_at k w (f ∷ fs)) (Ok v) rest e in
        (ap (λ x. x ∷ fs) (word_is k w f (bytes_eq f w) refl h.0) ∙ ap (λ r. w ∷ r) h.1, tt)

-- one field
pub IsItem-field : {A : Type 0} (k : ℕ) (judge : List ℕ → Result A Refusal) (s : A → List ℕ) (P : A → Type 0) → ((f : List ℕ) (v : A) → judge f ≡ Ok v → (f ≡ s v) × P v) → ((v : A) → P v → judge (s v) ≡ Ok v) → IsItem (field_at k judge) (λ v. s v ∷ []) P
IsItem-field {A} k judge s P to from = record { takes = take; gives = λ v rest p. rw (from v p) refl }
  where
    take : (fields rest : List (List ℕ)) (v : A) → field_at k judge fields ≡ (Ok v, rest) → (fields ≡ (s v ∷ []) ++ rest) × P v
    take [] rest v e = let bad : Err (BadLine k) ≡ Ok v = ap (λ p. p.0) e in absurd cc
    take (f ∷ fs) rest v e =
        let h = pair_is (field_at k judge (f ∷ fs)) (Ok v) rest e in
        let j = to f v h.0 in
        (ap (λ x. x ∷ fs) j.0 ∙ ap (λ r. s v ∷ r) h.1, j.1)

pub first_is : (k : ℕ) (lines : List (List (List ℕ))) (l : List (List ℕ)) (t : Left) → first_line k lines ≡ Ok (l, t) → (lines ≡ l ∷ t.lines) × SomeLeft t
first_is k [] l t e = absurd cc
first_is k (a ∷ []) l t e = absurd cc
first_is k (a ∷ b ∷ more) l t e =
    let h = pair_is (a, record { line = next_number k; lines = b ∷ more }) l t (ok_is _ _ e) in
    (ap (λ x. x ∷ b ∷ more) h.0 ∙ ap (λ (s : Left). l ∷ s.lines) h.1, (b, more, sym (ap (λ (s : Left). s.lines) h.1)))

-- a line that must come
pub IsPart-line : {A : Type 0} (read : ℕ → List (List ℕ) → Result A Refusal) (s : A → List (List ℕ)) (P : A → Type 0) → ((k : ℕ) → IsLine (read k) s P) → IsPart Any (one_line read) (λ v. s v ∷ []) P
IsPart-line {A} read s P il = record { takes = take; gives = λ k v x xs p any. (next_number k, rw ((il k).gives v p) refl) }
  where
    take : (a t : Left) (v : A) → SomeLeft a → one_line read a ≡ Ok (v, t) → (a.lines ≡ (s v ∷ []) ++ t.lines) × P v × SomeLeft t
    take a t v some e =
        let b = bind_ok (next_line a) (λ x. read a.line x.0 >>= λ w. Ok (w, x.1)) (v, t) e in
        let c = bind_ok (read a.line b.0.0) (λ w. Ok (w, b.0.1)) (v, t) b.2 in
        let h = pair_is (c.0, b.0.1) v t (ok_is (c.0, b.0.1) (v, t) c.2) in
        let f = first_is a.line a.lines b.0.0 b.0.1 b.1 in
        let r = (il a.line).takes b.0.0 c.0 c.1 in
        let lines : a.lines ≡ s v ∷ t.lines = f.0 ∙ ap (λ x. x ∷ b.0.1.lines) (r.0 ∙ ap s h.0) ∙ ap (λ (u : Left). s v ∷ u.lines) h.1 in
        (lines, subst P h.0 r.1, subst SomeLeft h.1 f.1)

-- the first of some lines and one more
abbrev pub some_lines : (ls : List (List (List ℕ))) (x : List (List ℕ)) (xs : List (List (List ℕ))) → (y : List (List ℕ)) × (ys : List (List (List ℕ))) × (ls ++ x ∷ xs ≡ y ∷ ys)
some_lines [] x xs = (x, xs, refl)
some_lines (l ∷ ls) x xs = (l, ls ++ x ∷ xs, refl)

-- one part, and then another, which may depend on the first
pub IsPart-then : {A B : Type 0} (C D : List (List ℕ) → Type 0) (read : Left → Result (A × Left) Refusal) (again : A → Left → Result (B × Left) Refusal) (s : A → List (List (List ℕ))) (t : A → B → List (List (List ℕ))) (P : A → Type 0) (Q : A → B → Type 0)
    → IsPart C read s P → ((a : A) → P a → IsPart D (again a) (t a) (Q a))
    → ((a : A) (b : B) (x : List (List ℕ)) (xs : List (List (List ℕ))) → P a → Q a b → D x → C (some_lines (t a b) x xs).0)
    → IsPart {A = A × B} D (then_part read again) (λ v. s v.0 ++ t v.0 v.1) (λ v. P v.0 × Q v.0 v.1)
IsPart-then {A} {B} C D read again s t P Q ia ib meet = record { takes = take; gives = give }
  where
    take : (a z : Left) (v : A × B) → SomeLeft a → then_part read again a ≡ Ok (v, z) → (a.lines ≡ (s v.0 ++ t v.0 v.1) ++ z.lines) × (P v.0 × Q v.0 v.1) × SomeLeft z
    take a z v some e =
        let b = bind_ok (read a) (λ x. again x.0 x.1 >>= λ y. Ok ((x.0, y.0), y.1)) (v, z) e in
        let c = bind_ok (again b.0.0 b.0.1) (λ y. Ok ((b.0.0, y.0), y.1)) (v, z) b.2 in
        let first = ia.takes a b.0.1 b.0.0 some b.1 in
        let second = (ib b.0.0 first.1).takes b.0.1 c.0.1 c.0.0 first.2 c.1 in
        let lines : a.lines ≡ (s b.0.0 ++ t b.0.0 c.0.0) ++ c.0.1.lines = first.0 ∙ ap (λ r. s b.0.0 ++ r) second.0 ∙ sym (append_assoc (s b.0.0) (t b.0.0 c.0.0) c.0.1.lines) in
        let G : (A × B) × Left → Type 0 = λ w. (a.lines ≡ (s w.0.0 ++ t w.0.0 w.0.1) ++ w.1.lines) × (P w.0.0 × Q w.0.0 w.0.1) × SomeLeft w.1 in
        subst G (ok_is ((b.0.0, c.0.0), c.0.1) (v, z) c.2) (lines, (first.1, second.1), second.2)

    give : (k : ℕ) (v : A × B) (x : List (List ℕ)) (xs : List (List (List ℕ))) → P v.0 × Q v.0 v.1 → D x → (m : ℕ) × (then_part read again (record { line = k; lines = (s v.0 ++ t v.0 v.1) ++ x ∷ xs }) ≡ Ok (v, record { line = m; lines = x ∷ xs }))
    give k v x xs p d =
        let sh = some_lines (t v.0 v.1) x xs in
        let first = ia.gives k v.0 sh.0 sh.1 p.0 (meet v.0 v.1 x xs p.0 p.1 d) in
        let second = (ib v.0 p.0).gives first.0 v.1 x xs p.1 d in
        let one : read (record { line = k; lines = (s v.0 ++ t v.0 v.1) ++ x ∷ xs }) ≡ Ok (v.0, record { line = first.0; lines = t v.0 v.1 ++ x ∷ xs }) = rw (append_assoc (s v.0) (t v.0 v.1) (x ∷ xs), sh.2) first.1 in
        (second.0, rw (one, second.1) refl)

pub IsPart-map : {A B : Type 0} (C : List (List ℕ) → Type 0) (read : Left → Result (A × Left) Refusal) (s : A → List (List (List ℕ))) (P : A → Type 0) (f : A → B) (g : B → A) → ((a : A) → g (f a) ≡ a) → ((b : B) → f (g b) ≡ b) → IsPart C read s P → IsPart C (map_part f read) (λ b. s (g b)) (λ b. P (g b))
IsPart-map {A} {B} C read s P f g gf fg ip = record { takes = take; gives = give }
  where
    take : (a z : Left) (v : B) → SomeLeft a → map_part f read a ≡ Ok (v, z) → (a.lines ≡ s (g v) ++ z.lines) × P (g v) × SomeLeft z
    take a z v some e =
        let b = bind_ok (read a) (λ x. Ok (f x.0, x.1)) (v, z) e in
        let i = ip.takes a b.0.1 b.0.0 some b.1 in
        let G : B × Left → Type 0 = λ w. (a.lines ≡ s (g w.0) ++ w.1.lines) × P (g w.0) × SomeLeft w.1 in
        let j : G (f b.0.0, b.0.1) = rw (gf b.0.0) i in
        subst G (ok_is (f b.0.0, b.0.1) (v, z) b.2) j

    give : (k : ℕ) (v : B) (x : List (List ℕ)) (xs : List (List (List ℕ))) → P (g v) → C x → (m : ℕ) × (map_part f read (record { line = k; lines = s (g v) ++ x ∷ xs }) ≡ Ok (v, record { line = m; lines = x ∷ xs }))
    give k v x xs p d = let i = ip.gives k (g v) x xs p d in (i.0, rw (i.1, fg v) refl)

-- another way to say what is allowed, and what it looks like
pub IsPart-as : {A : Type 0} (C : List (List ℕ) → Type 0) (read : Left → Result (A × Left) Refusal) (s t : A → List (List (List ℕ))) (P Q : A → Type 0) → ((v : A) → s v ≡ t v) → ((v : A) → P v → Q v) → ((v : A) → Q v → P v) → IsPart C read s P → IsPart C read t Q
IsPart-as {A} C read s t P Q same to from ip = record {
  takes = λ a z v some e. let i = ip.takes a z v some e in (i.0 ∙ ap (λ x. x ++ z.lines) (same v), to v i.1, i.2);
  gives = λ k v x xs q d. rw (← same v) (ip.gives k v x xs (from v q) d);
}

-- a demand that takes no field
pub IsItem-need : (k : ℕ) (b : Bool) → IsItem (need_at k b) (λ _. []) (λ _. b ≡ true)
IsItem-need k b = record { takes = take b; gives = λ v rest p. rw p refl }
  where
    take : (c : Bool) (fields rest : List (List ℕ)) (v : Unit {0}) → need_at k c fields ≡ (Ok v, rest) → (fields ≡ [] ++ rest) × (c ≡ true)
    take true fields rest v e = ((pair_is (need_at k true fields) (Ok v) rest e).1, refl)
    take false fields rest v e = let bad : Err (TooLarge k) ≡ Ok v = ap (λ p. p.0) e in absurd cc

-- ---- values that are made into others, before they are joined or after

pub both-map_left : {A B C : Type 0} (f : A → B) (x : Result A Refusal) (y : Result C Refusal) → both_of (map_ok f x) y ≡ map_ok (λ v. (f v.0, v.1)) (both_of x y)
unfolding both_of
both-map_left f (Ok a) (Ok b) = refl
both-map_left f (Ok a) (Err d) = refl
both-map_left f (Err d) (Ok b) = refl
both-map_left f (Err d) (Err e) = refl

pub both-map_right : {A B C : Type 0} (f : A → B) (x : Result C Refusal) (y : Result A Refusal) → both_of x (map_ok f y) ≡ map_ok (λ v. (v.0, f v.1)) (both_of x y)
unfolding both_of
both-map_right f (Ok a) (Ok b) = refl
both-map_right f (Ok a) (Err d) = refl
both-map_right f (Err d) (Ok b) = refl
both-map_right f (Err d) (Err e) = refl

pub map-map : {A B C : Type 0} (f : A → B) (g : B → C) (x : Result A Refusal) → map_ok g (map_ok f x) ≡ map_ok (λ v. g (f v)) x
map-map f g (Ok a) = refl
map-map f g (Err d) = refl

-- a line that is judged by tests of its value, which then is made into another
pub IsLine-judged : {A B : Type 0} (read : List (List ℕ) → Result A Refusal) (s : A → List (List ℕ)) (P : A → Type 0) (tests : A → List (Bool × Refusal)) (f : A → B) (g : B → A) → ((a : A) → g (f a) ≡ a) → ((b : B) → f (g b) ≡ b) → IsLine read s P → IsLine (λ l. read l >>= λ v. unless (tests v) (f v)) (λ b. s (g b)) (λ b. P (g b) × Passes (tests (g b)))
IsLine-judged {A} {B} read s P tests f g gf fg il = record { takes = take; gives = give }
  where
    take : (fields : List (List ℕ)) (v : B) → (read fields >>= λ x. unless (tests x) (f x)) ≡ Ok v → (fields ≡ s (g v)) × (P (g v) × Passes (tests (g v)))
    take fields v e =
        let b = bind_ok (read fields) (λ x. unless (tests x) (f x)) v e in
        let u = unless_is (tests b.0) (f b.0) v b.2 in
        let h = il.takes fields b.0 b.1 in
        let G : A → Type 0 = λ a. (fields ≡ s a) × (P a × Passes (tests a)) in
        subst G (sym (gf b.0) ∙ ap g u.0) (h.0, (h.1, u.1))

    give : (v : B) → P (g v) × Passes (tests (g v)) → (read (s (g v)) >>= λ x. unless (tests x) (f x)) ≡ Ok v
    give v p = rw (il.gives (g v) p.0) (unless_ok (tests (g v)) (f (g v)) p.1 ∙ ap done (fg v))

-- ---- lists

-- none
pub IsItem-nil : {A : Type 0} (a : Item (List A)) (s : A → List ℕ) (P : A → Type 0) → ((fields : List (List ℕ)) → a fields ≡ (Ok [], fields)) → IsItem a (λ xs. map s xs) (λ xs. (length xs ≡ 0) × AllByRecursion P xs)
IsItem-nil {A} a s P is = record { takes = take; gives = give }
  where
    take : (fields rest : List (List ℕ)) (v : List A) → a fields ≡ (Ok v, rest) → (fields ≡ map s v ++ rest) × ((length v ≡ 0) × AllByRecursion P v)
    take fields rest v e =
        let h = pair_is (Ok [], fields) (Ok v) rest (sym (is fields) ∙ e) in
        let G : List A → Type 0 = λ xs. (fields ≡ map s xs ++ rest) × ((length xs ≡ 0) × AllByRecursion P xs) in
        subst G (ok_is [] v h.0) (h.1, (refl, tt))

    give : (v : List A) (rest : List (List ℕ)) → (length v ≡ 0) × AllByRecursion P v → a (map s v ++ rest) ≡ (Ok v, rest)
    give [] rest p = is rest
    give (x ∷ xs) rest p = absurd (omega arith)

-- one, and so many others
pub IsItem-cons : {A : Type 0} (a : Item A) (b : Item (List A)) (s : A → List ℕ) (P : A → Type 0) (m : ℕ) → IsItem a (λ x. s x ∷ []) P → IsItem b (λ xs. map s xs) (λ xs. (length xs ≡ m) × AllByRecursion P xs)
    → IsItem (map_item (λ v. v.0 ∷ v.1) (a ⊗ b)) (λ xs. map s xs) (λ xs. (length xs ≡ suc m) × AllByRecursion P xs)
IsItem-cons {A} a b s P m ia ib = record { takes = take; gives = give }
  where
    both : IsItem (a ⊗ b) (λ v. (s v.0 ∷ []) ++ map s v.1) (λ v. P v.0 × ((length v.1 ≡ m) × AllByRecursion P v.1))
    both = IsItem-⊗ a b (λ x. s x ∷ []) (λ xs. map s xs) P (λ xs. (length xs ≡ m) × AllByRecursion P xs) ia ib

    take : (fields rest : List (List ℕ)) (v : List A) → map_item (λ w. w.0 ∷ w.1) (a ⊗ b) fields ≡ (Ok v, rest) → (fields ≡ map s v ++ rest) × ((length v ≡ suc m) × AllByRecursion P v)
    take fields rest v e =
        let h = pair_is (map_item (λ w. w.0 ∷ w.1) (a ⊗ b) fields) (Ok v) rest e in
        let f = map_is (λ w. w.0 ∷ w.1) ((a ⊗ b) fields).0 v h.0 in
        let i = both.takes fields rest f.0 (pair_of ((a ⊗ b) fields) (Ok f.0) rest f.1 h.1) in
        let G : List A → Type 0 = λ xs. (fields ≡ map s xs ++ rest) × ((length xs ≡ suc m) × AllByRecursion P xs) in
        subst G f.2 (i.0, (ap suc i.1.1.0, (i.1.0, i.1.1.1)))

    give : (v : List A) (rest : List (List ℕ)) → (length v ≡ suc m) × AllByRecursion P v → map_item (λ w. w.0 ∷ w.1) (a ⊗ b) (map s v ++ rest) ≡ (Ok v, rest)
    give [] rest p = absurd (omega arith)
    give (x ∷ xs) rest p = ap (λ (w : Result (A × List A) Refusal × List (List ℕ)). (map_ok (λ v. v.0 ∷ v.1) w.0, w.1)) (both.gives (x, xs) rest (p.1.0, (omega arith, p.1.1)))

-- no part
pub IsPart-nil : {A : Type 0} (read : Left → Result (List A × Left) Refusal) (s : ℕ → List A → List (List (List ℕ))) (p : ℕ) (P : A → Type 0) → (s p [] ≡ []) → ((l : Left) → read l ≡ Ok ([], l)) → IsPart Any read (s p) (λ xs. (length xs ≡ 0) × AllByRecursion P xs)
IsPart-nil {A} read s p P none is = record { takes = take; gives = give }
  where
    take : (a z : Left) (v : List A) → SomeLeft a → read a ≡ Ok (v, z) → (a.lines ≡ s p v ++ z.lines) × ((length v ≡ 0) × AllByRecursion P v) × SomeLeft z
    take a z v some e =
        let G : List A × Left → Type 0 = λ w. (a.lines ≡ s p w.0 ++ w.1.lines) × ((length w.0 ≡ 0) × AllByRecursion P w.0) × SomeLeft w.1 in
        let start : G ([], a) = (rw none refl, (refl, tt), some) in
        subst G (ok_is ([], a) (v, z) (sym (is a) ∙ e)) start

    give : (k : ℕ) (v : List A) (x : List (List ℕ)) (xs : List (List (List ℕ))) → (length v ≡ 0) × AllByRecursion P v → Any x → (m : ℕ) × (read (record { line = k; lines = s p v ++ x ∷ xs }) ≡ Ok (v, record { line = m; lines = x ∷ xs }))
    give k [] x xs q d = (k, rw none (is (record { line = k; lines = x ∷ xs })))
    give k (y ∷ ys) x xs q d = absurd (omega arith)

-- one line, and so many others
pub IsPart-cons : {A : Type 0} (line : ℕ → List (List ℕ) → Result A Refusal) (read : Left → Result (List A × Left) Refusal) (s : ℕ → A → List (List ℕ)) (t : ℕ → List A → List (List (List ℕ))) (p : ℕ) (P : A → Type 0) (m : ℕ)
    → ((x : A) (xs : List A) → t p (x ∷ xs) ≡ s p x ∷ t (p + 1) xs)
    → ((k : ℕ) → IsLine (line k) (s p) P) → IsPart Any read (t (p + 1)) (λ xs. (length xs ≡ m) × AllByRecursion P xs)
    → IsPart Any (map_part (λ v. v.0 ∷ v.1) (then_part (one_line line) (λ _. read))) (t p) (λ xs. (length xs ≡ suc m) × AllByRecursion P xs)
IsPart-cons {A} line read s t p P m step il ip = record { takes = take; gives = give }
  where
    both : IsPart Any (then_part (one_line line) (λ _. read)) (λ v. (s p v.0 ∷ []) ++ t (p + 1) v.1) (λ v. P v.0 × ((length v.1 ≡ m) × AllByRecursion P v.1))
    both = IsPart-then Any Any (one_line line) (λ _. read) (λ v. s p v ∷ []) (λ _ xs. t (p + 1) xs) P (λ _ xs. (length xs ≡ m) × AllByRecursion P xs) (IsPart-line line (s p) P il) (λ a q. ip) (λ a b x xs q r d. tt)

    take : (a z : Left) (v : List A) → SomeLeft a → map_part (λ w. w.0 ∷ w.1) (then_part (one_line line) (λ _. read)) a ≡ Ok (v, z) → (a.lines ≡ t p v ++ z.lines) × ((length v ≡ suc m) × AllByRecursion P v) × SomeLeft z
    take a z v some e =
        let b = bind_ok (then_part (one_line line) (λ _. read) a) (λ x. Ok (x.0.0 ∷ x.0.1, x.1)) (v, z) e in
        let i = both.takes a b.0.1 b.0.0 some b.1 in
        let G : List A × Left → Type 0 = λ w. (a.lines ≡ t p w.0 ++ w.1.lines) × ((length w.0 ≡ suc m) × AllByRecursion P w.0) × SomeLeft w.1 in
        let start : G (b.0.0.0 ∷ b.0.0.1, b.0.1) = (rw (step b.0.0.0 b.0.0.1) i.0, (ap suc i.1.1.0, (i.1.0, i.1.1.1)), i.2) in
        subst G (ok_is (b.0.0.0 ∷ b.0.0.1, b.0.1) (v, z) b.2) start

    give : (k : ℕ) (v : List A) (x : List (List ℕ)) (xs : List (List (List ℕ))) → (length v ≡ suc m) × AllByRecursion P v → Any x → (n : ℕ) × (map_part (λ w. w.0 ∷ w.1) (then_part (one_line line) (λ _. read)) (record { line = k; lines = t p v ++ x ∷ xs }) ≡ Ok (v, record { line = n; lines = x ∷ xs }))
    give k [] x xs q d = absurd (omega arith)
    give k (y ∷ ys) x xs q d = let i = both.gives k (y, ys) x xs (q.1.0, (omega arith, q.1.1)) d in (i.0, rw (step y ys, i.1) refl)
