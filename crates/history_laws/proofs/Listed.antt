-- Records of a part beside those of the whole, if a record is changed or another record comes.
use Rattle.std.proofs.Common.{◌≡◌, ◌∙◌, ℕ, zero, suc, Bool, true, false, List, [], ◌∷◌, ◌++◌, length, refl, sym, ap, subst, arith}
use Rattle.std.specs.Prelude.{Some, None, slice_get}
use Rattle.plan_runs.specs.Effects.{changed}
use Rattle.plan_runs.proofs.Changed.{read_at}
use Rattle.history_laws.specs.Parts.{is_of_part, part_size, number_in}

-- the marks say which records of the whole pass the test. Only these are in the part, in their order, each as
-- it is to be there
abbrev pub Part : {A : Type 0} → (A → Bool) → (A → A → Type 0) → List Bool → List A → List A → Type 0
Part test Same [] [] [] = Unit {0}
Part test Same (true ∷ bs) (x ∷ xs) (y ∷ ys) = (test x ≡ true) × Same x y × Part test Same bs xs ys
Part test Same (false ∷ bs) (x ∷ xs) ys = (test x ≡ false) × Part test Same bs xs ys
Part test Same bs xs ys = ⊥

pub marks : {A : Type 0} (test : A → Bool) (Same : A → A → Type 0) (bs : List Bool) (xs ys : List A) → Part test Same bs xs ys → length bs ≡ length xs
marks test Same [] [] [] p = refl
marks test Same (true ∷ bs) (x ∷ xs) (y ∷ ys) p = (let e = marks test Same bs xs ys p.2 in omega arith)
marks test Same (false ∷ bs) (x ∷ xs) ys p = (let e = marks test Same bs xs ys p.1 in omega arith)
marks test Same bs xs ys p = absurd p

pub size : {A : Type 0} (test : A → Bool) (Same : A → A → Type 0) (bs : List Bool) (xs ys : List A) → Part test Same bs xs ys → length ys ≡ part_size bs
size test Same [] [] [] p = refl
size test Same (true ∷ bs) (x ∷ xs) (y ∷ ys) p = (let e = size test Same bs xs ys p.2 in omega arith)
size test Same (false ∷ bs) (x ∷ xs) ys p = size test Same bs xs ys p.1
size test Same bs xs ys p = absurd p

-- a record that is of the part
pub record Pair {A : Type 0} (test : A → Bool) (Same : A → A → Type 0) (n m : ℕ) (xs ys : List A) : Type 0 where
  pub left : A
  pub right : A
  pub at_left : slice_get xs n ≡ Some left
  pub at_right : slice_get ys m ≡ Some right
  pub mine : test left ≡ true
  pub same : Same left right

pub pair : {A : Type 0} (test : A → Bool) (Same : A → A → Type 0) (bs : List Bool) (xs ys : List A) (n : ℕ) → Part test Same bs xs ys → is_of_part bs n ≡ true → Pair test Same n (number_in bs n) xs ys
pair test Same [] [] [] n p h = absurd cc
pair test Same (true ∷ bs) (x ∷ xs) (y ∷ ys) zero p h = record { left = x; right = y; at_left = refl; at_right = refl; mine = p.0; same = p.1 }
pair test Same (true ∷ bs) (x ∷ xs) (y ∷ ys) (suc n) p h = (let q = pair test Same bs xs ys n p.2 h in record { left = q.left; right = q.right; at_left = q.at_left; at_right = q.at_right; mine = q.mine; same = q.same })
pair test Same (false ∷ bs) (x ∷ xs) ys zero p h = absurd cc
pair test Same (false ∷ bs) (x ∷ xs) ys (suc n) p h = (let q = pair test Same bs xs ys n p.1 h in record { left = q.left; right = q.right; at_left = q.at_left; at_right = q.at_right; mine = q.mine; same = q.same })
pair test Same bs xs ys n p h = absurd p

-- the mark of a record is its test
pub marked_is : {A : Type 0} (test : A → Bool) (Same : A → A → Type 0) (bs : List Bool) (xs ys : List A) (n : ℕ) → Part test Same bs xs ys → is_of_part bs n ≡ read_at test false xs n
marked_is test Same [] [] [] n p = refl
marked_is test Same (true ∷ bs) (x ∷ xs) (y ∷ ys) zero p = sym p.0
marked_is test Same (true ∷ bs) (x ∷ xs) (y ∷ ys) (suc n) p = marked_is test Same bs xs ys n p.2
marked_is test Same (false ∷ bs) (x ∷ xs) ys zero p = sym p.0
marked_is test Same (false ∷ bs) (x ∷ xs) ys (suc n) p = marked_is test Same bs xs ys n p.1
marked_is test Same bs xs ys n p = absurd p

pub read_is : {A B : Type 0} (f : A → B) (d : B) (xs : List A) (n : ℕ) (x : A) → slice_get xs n ≡ Some x → read_at f d xs n ≡ f x
read_is f d xs n x e = ap (λ o. elim o [ Some y ↦ f y | None ↦ d ]) e

-- a reading that is the same in both
pub read_same : {A B : Type 0} (f : A → B) (d : B) (test : A → Bool) (Same : A → A → Type 0) (n m : ℕ) (xs ys : List A) → ((x y : A) → Same x y → f y ≡ f x) → Pair test Same n m xs ys → read_at f d ys m ≡ read_at f d xs n
read_same f d test Same n m xs ys h q = read_is f d ys m q.right q.at_right ∙ (h q.left q.right q.same ∙ sym (read_is f d xs n q.left q.at_left))

-- two readings of which something holds in both
pub read_so : {A B : Type 0} (f : A → B) (d : B) (P : B → B → Type 0) (test : A → Bool) (Same : A → A → Type 0) (n m : ℕ) (xs ys : List A) → ((x y : A) → Same x y → P (f x) (f y)) → Pair test Same n m xs ys → P (read_at f d xs n) (read_at f d ys m)
read_so f d P test Same n m xs ys h q = subst (λ b. P b (read_at f d ys m)) (sym (read_is f d xs n q.left q.at_left)) (subst (λ b. P (f q.left) b) (sym (read_is f d ys m q.right q.at_right)) (h q.left q.right q.same))

-- ---- one more

pub one_mine : {A : Type 0} (test : A → Bool) (Same : A → A → Type 0) (bs : List Bool) (xs ys : List A) (x y : A) → Part test Same bs xs ys → test x ≡ true → Same x y → Part test Same (bs ++ true ∷ []) (xs ++ x ∷ []) (ys ++ y ∷ [])
one_mine test Same [] [] [] x y p h s = (h, s, tt)
one_mine test Same (true ∷ bs) (a ∷ xs) (b ∷ ys) x y p h s = (p.0, p.1, one_mine test Same bs xs ys x y p.2 h s)
one_mine test Same (false ∷ bs) (a ∷ xs) ys x y p h s = (p.0, one_mine test Same bs xs ys x y p.1 h s)
one_mine test Same bs xs ys x y p h s = absurd p

pub one_other : {A : Type 0} (test : A → Bool) (Same : A → A → Type 0) (bs : List Bool) (xs ys : List A) (x : A) → Part test Same bs xs ys → test x ≡ false → Part test Same (bs ++ false ∷ []) (xs ++ x ∷ []) ys
one_other test Same [] [] [] x p h = (h, tt)
one_other test Same (true ∷ bs) (a ∷ xs) (b ∷ ys) x p h = (p.0, p.1, one_other test Same bs xs ys x p.2 h)
one_other test Same (false ∷ bs) (a ∷ xs) ys x p h = (p.0, one_other test Same bs xs ys x p.1 h)
one_other test Same bs xs ys x p h = absurd p

-- ---- one is changed

pub mine_changed : {A : Type 0} (test : A → Bool) (Same : A → A → Type 0) (bs : List Bool) (xs ys : List A) (n : ℕ) (f g : A → A) → ((x : A) → test (f x) ≡ test x) → ((x y : A) → slice_get xs n ≡ Some x → Same x y → Same (f x) (g y))
    → is_of_part bs n ≡ true → Part test Same bs xs ys → Part test Same bs (changed xs n f) (changed ys (number_in bs n) g)
mine_changed test Same [] [] [] n f g t s h p = tt
mine_changed test Same (true ∷ bs) (x ∷ xs) (y ∷ ys) zero f g t s h p = (t x ∙ p.0, s x y refl p.1, p.2)
mine_changed test Same (true ∷ bs) (x ∷ xs) (y ∷ ys) (suc n) f g t s h p = (p.0, p.1, mine_changed test Same bs xs ys n f g t s h p.2)
mine_changed test Same (false ∷ bs) (x ∷ xs) ys zero f g t s h p = absurd cc
mine_changed test Same (false ∷ bs) (x ∷ xs) ys (suc n) f g t s h p = (p.0, mine_changed test Same bs xs ys n f g t s h p.1)
mine_changed test Same bs xs ys n f g t s h p = absurd p

pub other_changed : {A : Type 0} (test : A → Bool) (Same : A → A → Type 0) (bs : List Bool) (xs ys : List A) (n : ℕ) (f : A → A) → ((x : A) → test (f x) ≡ test x) → is_of_part bs n ≡ false → Part test Same bs xs ys → Part test Same bs (changed xs n f) ys
other_changed test Same [] [] [] n f t h p = tt
other_changed test Same (true ∷ bs) (x ∷ xs) (y ∷ ys) zero f t h p = absurd cc
other_changed test Same (true ∷ bs) (x ∷ xs) (y ∷ ys) (suc n) f t h p = (p.0, p.1, other_changed test Same bs xs ys n f t h p.2)
other_changed test Same (false ∷ bs) (x ∷ xs) ys zero f t h p = (t x ∙ p.0, p.1)
other_changed test Same (false ∷ bs) (x ∷ xs) ys (suc n) f t h p = (p.0, other_changed test Same bs xs ys n f t h p.1)
other_changed test Same bs xs ys n f t h p = absurd p

-- ---- they are the same in another way

pub same_so : {A : Type 0} (test : A → Bool) (Same Also : A → A → Type 0) (bs : List Bool) (xs ys : List A) → ((n : ℕ) (x y : A) → slice_get xs n ≡ Some x → test x ≡ true → Same x y → Also x y) → Part test Same bs xs ys → Part test Also bs xs ys
same_so test Same Also [] [] [] s p = tt
same_so test Same Also (true ∷ bs) (x ∷ xs) (y ∷ ys) s p = (p.0, s zero x y refl p.0 p.1, same_so test Same Also bs xs ys (λ n. s (suc n)) p.2)
same_so test Same Also (false ∷ bs) (x ∷ xs) ys s p = (p.0, same_so test Same Also bs xs ys (λ n. s (suc n)) p.1)
same_so test Same Also bs xs ys s p = absurd p
