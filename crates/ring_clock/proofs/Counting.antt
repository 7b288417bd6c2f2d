-- Lists in order of a key. Each item has the counters for a class of writers: a clock's entries, and its
-- blocks.
use Rattle.std.proofs.Common.{◌≡◌, ◌≢◌, ◌⊎◌, ◌∙◌, inl, inr, ℕ, zero, suc, ◌<◌, ◌≤◌, List, [], ◌∷◌, ◌++◌, ◌↔◌, length, drop, refl, sym, subst, arith}
use Rattle.std.proofs.lemmas.Bool.{cases_lt}
use Rattle.std.specs.Prelude.{max}
use Rattle.std.specs.List.{AllByRecursion}
use Rattle.std.proofs.lemmas.Bool.Decides.{eqb_tells}
use Rattle.std.proofs.lemmas.List.{append_assoc}
use Rattle.ring_clock.specs.Merge.{Stand}

-- what is known of such lists from the front
pub record Counts {A : Type 0} (key : A → ℕ) (class : ℕ → ℕ) (one : A → ℕ → ℕ) (Are : List A → Type 0) (count : List A → ℕ → ℕ) : Type 0 where
  pub nil : Are []
  pub none : (w : ℕ) → count [] w ≡ 0
  pub split : (x : A) (xs : List A) → Are (x ∷ xs) → AllByRecursion (λ y. key x < key y) xs × Are xs
  pub put : (x : A) (xs ys : List A) → Are (x ∷ xs) → AllByRecursion (λ y. key x < key y) ys → Are ys → Are (x ∷ ys)
  pub here : (x : A) (xs : List A) (w : ℕ) → Are (x ∷ xs) → class w ≡ key x → count (x ∷ xs) w ≡ one x w
  pub there : (x : A) (xs : List A) (w : ℕ) → Are (x ∷ xs) → class w ≢ key x → count (x ∷ xs) w ≡ count xs w
  pub absent : (k : ℕ) (xs : List A) (w : ℕ) → AllByRecursion (λ y. k < key y) xs → Are xs → class w ≤ k → count xs w ≡ 0
  pub some : (x : A) (xs : List A) → Are (x ∷ xs) → (w : ℕ) × (class w ≡ key x) × (0 < one x w)

pub by_equal : (m n : ℕ) (P : Type 0) → (m ≡ n → P) → (m ≢ n → P) → P
by_equal m n P same apart = elim (eqb_tells m n) [ inl t ↦ same t.1 | inr t ↦ apart t.1 ]

-- by which of two is the lesser
pub by_order : (m n : ℕ) (P : Type 0) → (m < n → P) → (m ≡ n → P) → (n < m → P) → P
by_order m n P less same more =
    by_equal m n P same (λ apart. elim (cases_lt m n) [ inl h ↦ less h | inr h ↦ more (grind (arith, apart)) ])

pub above_more : {A : Type 0} (key : A → ℕ) (j k : ℕ) (xs : List A) → j ≤ k → AllByRecursion (λ x. k < key x) xs → AllByRecursion (λ x. j < key x) xs
above_more key j k [] le h = tt
above_more key j k (x ∷ xs) le h = (omega (arith, h.0), above_more key j k xs le h.1)

-- an item behind others is in front of what follows
pub again : {A : Type 0} (new out : List A) (x : A) (a : List A) → new ≡ out ++ x ∷ [] → new ++ a ≡ out ++ x ∷ a
again new out x a is = rw is (append_assoc out (x ∷ []) a)

-- each writer's counter in the first is at most that in the second
abbrev pub AtMost : {A : Type 0} → (List A → ℕ → ℕ) → List A → List A → Type 0
AtMost count c d = (w : ℕ) → count c w ≤ count d w

module _ {A : Type 0} {key : A → ℕ} {class : ℕ → ℕ} {one : A → ℕ → ℕ} {Are : List A → Type 0} {count : List A → ℕ → ℕ} (laws : Counts key class one Are count) where
  -- ---- lists that stand for two others

  pub first_less : (x y : A) (xs ys : List A) → key x < key y → Are (x ∷ xs) → Are (y ∷ ys) → Stand key Are count (x ∷ xs) (y ∷ ys) (x ∷ xs) (x ∷ y ∷ ys)
  first_less x y xs ys less a b =
      let above : AllByRecursion (λ z. key x < key z) (y ∷ ys) = (less, above_more key (key x) (key y) ys (omega arith) (laws.split y ys b).0) in
      let both = laws.put x xs (y ∷ ys) a above b in
      record {
        first = a;
        second = both;
        above = λ k h l. (h, (h.0, l));
        counters = λ w. by_equal (class w) (key x) (max (count (x ∷ xs) w) (count (x ∷ y ∷ ys) w) ≡ max (count (x ∷ xs) w) (count (y ∷ ys) w))
            (λ is.
            let none = laws.absent (key x) (y ∷ ys) w above b (omega arith) in
            let mine = laws.here x xs w a is in
            let again = laws.here x (y ∷ ys) w both is in
            omega arith)
            (λ apart. let on = laws.there x (y ∷ ys) w both apart in omega arith);
      }

  pub second_less : (x y : A) (xs ys : List A) → key y < key x → Are (x ∷ xs) → Are (y ∷ ys) → Stand key Are count (x ∷ xs) (y ∷ ys) (y ∷ x ∷ xs) (y ∷ ys)
  second_less x y xs ys less a b =
      let other = first_less y x ys xs less b a in
      record {
        first = other.second;
        second = other.first;
        above = λ k h l. ((l.0, h), l);
        counters = λ w. (let at = other.counters w in omega arith);
      }

  pub first_alone : (x : A) (xs ys : List A) → length ys ≡ 0 → Are (x ∷ xs) → Stand key Are count (x ∷ xs) ys (x ∷ xs) (x ∷ ys)
  first_alone x xs (y ∷ ys) none a = absurd (omega arith)
  first_alone x xs [] none a =
      let alone = laws.put x xs [] a tt laws.nil in
      record {
        first = a;
        second = alone;
        above = λ k h l. (h, (h.0, tt));
        counters = λ w. by_equal (class w) (key x) (max (count (x ∷ xs) w) (count (x ∷ []) w) ≡ max (count (x ∷ xs) w) (count [] w))
            (λ is. let mine = laws.here x xs w a is in let again = laws.here x [] w alone is in let no = laws.none w in omega arith)
            (λ apart. let on = laws.there x [] w alone apart in omega arith);
      }

  pub second_alone : (y : A) (xs ys : List A) → length xs ≡ 0 → Are (y ∷ ys) → Stand key Are count xs (y ∷ ys) (y ∷ xs) (y ∷ ys)
  second_alone y xs ys none b =
      let other = first_alone y ys xs none b in
      record {
        first = other.second;
        second = other.first;
        above = λ k h l. ((l.0, h), l);
        counters = λ w. (let at = other.counters w in omega arith);
      }

  -- an item that has, for each writer in its class, the greater counter of two in front
  pub joined_front : (x y z : A) (xs ys : List A) → key x ≡ key y → key z ≡ key x → ((w : ℕ) → one z w ≡ max (one x w) (one y w)) → Are (x ∷ xs) → Are (y ∷ ys) → Are (z ∷ xs) → Are (z ∷ ys) → Stand key Are count (x ∷ xs) (y ∷ ys) (z ∷ xs) (z ∷ ys)
  joined_front x y z xs ys same is counters a b c d = record {
    first = c;
    second = d;
    above = λ k h l. ((omega (arith, h.0), h.1), (omega (arith, l.0), l.1));
    counters = λ w. by_equal (class w) (key x) (max (count (z ∷ xs) w) (count (z ∷ ys) w) ≡ max (count (x ∷ xs) w) (count (y ∷ ys) w))
        (λ at.
        let p = laws.here x xs w a at in
        let q = laws.here y ys w b (at ∙ same) in
        let r = laws.here z xs w c (at ∙ sym is) in
        let s = laws.here z ys w d (at ∙ sym is) in
        let all = counters w in
        omega arith)
        (λ apart.
        let p = laws.there x xs w a apart in
        let q = laws.there y ys w b (λ e. apart (e ∙ sym same)) in
        let r = laws.there z xs w c (λ e. apart (e ∙ is)) in
        let s = laws.there z ys w d (λ e. apart (e ∙ is)) in
        omega arith);
  }

  -- what stands for two lists stands for them behind the same items too
  pub behind : (out a b c d : List A) → Stand key Are count a b c d → Are (out ++ a) → Are (out ++ b) → Stand key Are count (out ++ a) (out ++ b) (out ++ c) (out ++ d)
  behind [] a b c d s h k = s
  behind (x ∷ xs) a b c d s h k =
      let mine = laws.split x (xs ++ a) h in
      let theirs = laws.split x (xs ++ b) k in
      let t = behind xs a b c d s mine.1 theirs.1 in
      let up = t.above (key x) mine.0 theirs.0 in
      let first = laws.put x (xs ++ a) (xs ++ c) h up.0 t.first in
      let second = laws.put x (xs ++ a) (xs ++ d) h up.1 t.second in
      record {
        first = first;
        second = second;
        above = λ j p q. let more = t.above j p.1 q.1 in ((p.0, more.0), (p.0, more.1));
        counters = λ w. by_equal (class w) (key x) (max (count (x ∷ (xs ++ c)) w) (count (x ∷ (xs ++ d)) w) ≡ max (count (x ∷ (xs ++ a)) w) (count (x ∷ (xs ++ b)) w))
            (λ at.
            let e = laws.here x (xs ++ c) w first at in
            let f = laws.here x (xs ++ d) w second at in
            let m = laws.here x (xs ++ a) w h at in
            let n = laws.here x (xs ++ b) w k at in
            omega arith)
            (λ apart.
            let e = laws.there x (xs ++ c) w first apart in
            let f = laws.there x (xs ++ d) w second apart in
            let m = laws.there x (xs ++ a) w h apart in
            let n = laws.there x (xs ++ b) w k apart in
            let all = t.counters w in
            omega arith);
      }

  -- what is left of a list in order is one
  pub left : (out a : List A) → Are (out ++ a) → Are a
  left [] a h = h
  left (x ∷ xs) a h = left xs a (laws.split x (xs ++ a) h).1

  -- ---- two lists that face each other

  pub rest : (x : A) (xs c : List A) → c ≡ x ∷ xs → Are c → Are xs
  rest x xs c is a = (laws.split x xs (subst Are is a)).1

  -- an item is left in the first list, and some writer's counter is greater there
  greater : (x : A) (xs d : List A) → Are (x ∷ xs) → ((w : ℕ) → class w ≡ key x → count d w ≡ 0) → AtMost count (x ∷ xs) d → ⊥
  greater x xs d a none h =
      let s = laws.some x xs a in
      let at = laws.here x xs s.0 a s.1 in
      let le = h s.0 in
      let no = none s.0 s.1 in
      omega (arith, s.2)

  pub none_facing : (x : A) (xs c d : List A) → c ≡ x ∷ xs → length d ≡ 0 → Are c → AtMost count c d → ⊥
  none_facing x xs c [] is none a h = greater x xs [] (subst Are is a) (λ w e. laws.none w) (subst (λ l. AtMost count l []) is h)
  none_facing x xs c (y ∷ ys) is none a h = absurd (omega arith)

  pub later_facing : (x y : A) (xs ys c d : List A) → c ≡ x ∷ xs → d ≡ y ∷ ys → key x < key y → Are c → Are d → AtMost count c d → ⊥
  later_facing x y xs ys c d is other less a b h =
      let theirs = subst Are other b in
      let above : AllByRecursion (λ z. key x < key z) (y ∷ ys) = (less, above_more key (key x) (key y) ys (omega arith) (laws.split y ys theirs).0) in
      greater x xs (y ∷ ys) (subst Are is a)
      (λ w e. laws.absent (key x) (y ∷ ys) w above theirs (omega arith))
      (subst (λ l. AtMost count l (y ∷ ys)) is (subst (λ l. AtMost count c l) other h))

  -- of two items of one key in front the first is at most the second
  pub front_facing : (x y : A) (xs ys c d : List A) → c ≡ x ∷ xs → d ≡ y ∷ ys → key x ≡ key y → Are c → Are d → AtMost count c d → (w : ℕ) → class w ≡ key x → one x w ≤ one y w
  front_facing x y xs ys c d is other same a b h w at =
      let le = subst (λ l. AtMost count l (y ∷ ys)) is (subst (λ l. AtMost count c l) other h) w in
      let mine = laws.here x xs w (subst Are is a) at in
      let theirs = laws.here y ys w (subst Are other b) (at ∙ same) in
      omega arith

  -- an item that only the second list has says nothing
  passed : (y : A) (c ys : List A) → AllByRecursion (λ z. key y < key z) c → Are c → Are (y ∷ ys) → AtMost count c ys ↔ AtMost count c (y ∷ ys)
  passed y c ys above a b = (
    λ h w. by_equal (class w) (key y) (count c w ≤ count (y ∷ ys) w)
        (λ is. let none = laws.absent (key y) c w above a (omega arith) in omega arith)
        (λ apart. let at = h w in let on = laws.there y ys w b apart in omega arith),
    λ h w. by_equal (class w) (key y) (count c w ≤ count ys w)
        (λ is. let none = laws.absent (key y) c w above a (omega arith) in omega arith)
        (λ apart. let at = h w in let on = laws.there y ys w b apart in omega arith),
  )

  -- what is behind two of one key is at most too
  uncovered : (x y : A) (xs ys : List A) → key x ≡ key y → Are (x ∷ xs) → Are (y ∷ ys) → AtMost count (x ∷ xs) (y ∷ ys) → AtMost count xs ys
  uncovered x y xs ys same a b h w = by_equal (class w) (key x) (count xs w ≤ count ys w)
      (λ is. let behind_it = laws.split x xs a in let none = laws.absent (key x) xs w behind_it.0 behind_it.1 (omega arith) in omega arith)
      (λ apart.
      let at = h w in
      let mine = laws.there x xs w a apart in
      let theirs = laws.there y ys w b (λ e. apart (e ∙ sym same)) in
      omega arith)

  -- two of one key are compared
  compared : (x y : A) (xs ys : List A) → key x ≡ key y → ((w : ℕ) → one x w ≤ one y w) → Are (x ∷ xs) → Are (y ∷ ys) → AtMost count xs ys ↔ AtMost count (x ∷ xs) (y ∷ ys)
  compared x y xs ys same le a b = (
    λ h w. by_equal (class w) (key x) (count (x ∷ xs) w ≤ count (y ∷ ys) w)
        (λ is. let at = le w in let mine = laws.here x xs w a is in let theirs = laws.here y ys w b (is ∙ same) in omega arith)
        (λ apart.
        let at = h w in
        let mine = laws.there x xs w a apart in
        let theirs = laws.there y ys w b (λ e. apart (e ∙ sym same)) in
        omega arith),
    uncovered x y xs ys same a b,
  )

  pub pass : (x y : A) (xs ys c d : List A) → c ≡ x ∷ xs → d ≡ y ∷ ys → key y < key x → Are c → Are d → AtMost count c ys ↔ AtMost count c d
  pass x y xs ys c d is other less a b =
      let mine = laws.split x xs (subst Are is a) in
      let above : AllByRecursion (λ z. key y < key z) c = subst (AllByRecursion (λ z. key y < key z)) (sym is) (less, above_more key (key y) (key x) xs (omega arith) mine.0) in
      subst (λ l. AtMost count c ys ↔ AtMost count c l) (sym other) (passed y c ys above a (subst Are other b))

  pub compare : (x y : A) (xs ys c d : List A) → c ≡ x ∷ xs → d ≡ y ∷ ys → key x ≡ key y → ((w : ℕ) → one x w ≤ one y w) → Are c → Are d → AtMost count xs ys ↔ AtMost count c d
  compare x y xs ys c d is other same le a b =
      subst (λ l. AtMost count xs ys ↔ AtMost count l d) (sym is) (subst (λ l. AtMost count xs ys ↔ AtMost count (x ∷ xs) l) (sym other) (compared x y xs ys same le (subst Are is a) (subst Are other b)))

  -- a list that is at most another has no more items
  pub no_longer : (d c : List A) → Are c → Are d → AtMost count c d → length c ≤ length d
  no_longer d [] a b h = omega arith
  no_longer [] (x ∷ xs) a b h = absurd (none_facing x xs (x ∷ xs) [] refl (omega arith) a h)
  no_longer (y ∷ ys) (x ∷ xs) a b h = by_order (key x) (key y) (length (x ∷ xs) ≤ length (y ∷ ys))
      (λ less. absurd (later_facing x y xs ys (x ∷ xs) (y ∷ ys) refl refl less a b h))
      (λ same. omega (arith, no_longer ys xs (laws.split x xs a).1 (laws.split y ys b).1 (uncovered x y xs ys same a b h)))
      (λ more. omega (arith, no_longer ys (x ∷ xs) a (laws.split y ys b).1 ((pass x y xs ys (x ∷ xs) (y ∷ ys) refl refl more a b).1 h)))

  -- what is left behind some items is in order
  pub dropped : (n : ℕ) (xs : List A) → Are xs → Are (drop n xs)
  dropped zero xs h = h
  dropped (suc n) [] h = h
  dropped (suc n) (x ∷ xs) h = dropped n xs (laws.split x xs h).1
