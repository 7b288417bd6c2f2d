-- Forms that few formats have: numbers, fields that may be left out, lines that are tested, and sections of one line or more.
use Rattle.std.proofs.Common.{◌≡◌, ℕ, ◌<◌, ◌≤◌, ◌^◌, Bool, true, false, not, cond, nat_lt, ◌&&◌, List, [], ◌∷◌, ◌++◌, length, Option, Some, None, Result, Ok, Err, refl, ap, subst, arith, decimal}
use Rattle.std.specs.List.{AllByRecursion}
use Rattle.std.proofs.lemmas.Bool.{and_parts, not-false}
use Rattle.ring_names.proofs.Logic.{and_false, pair_of}
use Rattle.texts.specs.Judging.{number_at, unless}
use Rattle.texts.proofs.Items.{IsLine-judged}
use Rattle.texts.proofs.Forms.{Form, LineForm, Section, IsPart, IsPlain, Always, Left, ReadsTo, Refusal, BadLine, Item, map_item, whole, IsFront, IsPlainLine, SomeLeft, Passes, AllAt, some_lines, of_item, has_field, plain-line}
use Rattle.texts.proofs.Forms.{◌>>=◌, then_part, IsLine-as, IsPart-then, bind_ok, map_is, ok_is, unless_is, front-whole, at-bind, at-unless, at-whole, either-at, judges-map, judges-number, advances-then, IsItem-number, appended, decimal-plain}

-- the fields of a line
abbrev pub Fields : Type 0
Fields = List (List ℕ)

-- ---- fields of any format

-- a number up to a limit
abbrev pub number : {W : Type 0} (limit : ℕ) → limit < 2 ^ 64 → Form W Always ℕ
number limit wide = of_item (λ k. number_at k limit) (λ n. decimal n ∷ []) (λ n. n ≤ limit) (λ _ k. IsItem-number k limit wide) (λ k. judges-number k limit)
    (λ _ v le. (decimal-plain v (omega arith), tt))

-- a field that is left out where the test is true, its value then x
abbrev pub unsaid : {W A : Type 0} (x : A) (a : Form W Always A) (P : Bool → A → Type 0) → P true x → ((v : A) → P true v → v ≡ x)
    → ((v : A) → a.allowed v → P false v) → ((v : A) → P false v → a.allowed v) → Bool → Form W Always A
unsaid x a P known is to from b = record {
  item = λ k fields. cond b (Ok x, fields) (a.item k fields);
  spell = λ v. cond b [] (a.spell v);
  allowed = P b;
  exact = λ w k. elim b as (λ c. IsFront Always (λ fields. cond c (Ok x, fields) (a.item k fields)) (λ v. cond c [] (a.spell v)) (P c)) [
    | true ↦ record { takes = λ fs rest v e. (ap (λ q. q.1) e, subst (P true) (ok_is x v (ap (λ q. q.0) e)) known); gives = λ v rest p c. rw (is v p) refl }
    | false ↦ let i = a.exact w k in record { takes = λ fs r v e. (let t = i.takes fs r v e in (t.0, to v t.1)); gives = λ v r p. i.gives v r (from v p) }
  ];
  judges = λ k. record { at = λ fields. either-at k b (Ok x, fields) (a.item k fields) tt ((a.judges k).at fields) };
  plain = λ w v. elim b as (λ c. P c v → AllByRecursion IsPlain (cond c [] (a.spell v))) [ true ↦ λ p. tt | false ↦ λ p. a.plain w v (from v p) ];
}

-- an optional item: read where the format has it and the fields begin so
module _ {W A : Type 0} (may : Bool) (test : Fields → Bool) (a : Form W Always A)
    (begins : (v : A) (rest : Fields) → a.allowed v → test (a.spell v ++ rest) ≡ true) where
  -- what is read: the value if the fields begin so, and otherwise nothing
  abbrev pub maybe_item : ℕ → Item (Option A)
  maybe_item k fields = cond (may && test fields) (map_item Some (a.item k) fields) (Ok None, fields)

  -- how it is spelled
  abbrev pub maybe_fields : Option A → Fields
  maybe_fields None = []
  maybe_fields (Some v) = a.spell v

  -- when it is allowed
  abbrev pub IsMaybe : Option A → Type 0
  IsMaybe None = Unit {0}
  IsMaybe (Some v) = (may ≡ true) × a.allowed v

  pub maybe-front : W → (k : ℕ) → IsFront (λ rest. test rest ≡ false) (maybe_item k) maybe_fields IsMaybe
  maybe-front w k = record { takes = λ fields rest v e. take fields rest v (may && test fields) refl e; gives = give }
    where
      take : (fields rest : Fields) (v : Option A) (b : Bool) → (may && test fields) ≡ b → cond b (map_item Some (a.item k) fields) (Ok None, fields) ≡
          (Ok v, rest) → (fields ≡ maybe_fields v ++ rest) × IsMaybe v
      take fields rest v false h e = (let n : None ≡ v = ok_is None v (ap (λ q. q.0) e) in rw (← n) (ap (λ q. q.1) e, tt))
      take fields rest v true h e =
          let m = map_is Some (a.item k fields).0 v (ap (λ q. q.0) e) in
          let t = (a.exact w k).takes fields rest m.0 (pair_of (a.item k fields) (Ok m.0) rest m.1 (ap (λ q. q.1) e)) in
          rw (← m.2) (t.0, ((and_parts may (test fields) h).0, t.1))

      give : (v : Option A) (rest : Fields) → IsMaybe v → test rest ≡ false → maybe_item k (maybe_fields v ++ rest) ≡ (Ok v, rest)
      give None rest p c = rw (c, and_false may) refl
      give (Some v) rest p c = rw (p.0, begins v rest p.1, (a.exact w k).gives v rest p.1 tt) refl

  -- an optional item as a form
  abbrev pub maybe : Form W (λ rest. test rest ≡ false) (Option A)
  maybe = record {
    item = maybe_item;
    spell = maybe_fields;
    allowed = IsMaybe;
    exact = maybe-front;
    judges = λ k. record { at = λ fs. either-at k (may && test fs) _ (Ok None, fs) ((judges-map k Some (a.item k) (a.judges k)).at fs) tt };
    plain = λ w v. elim v as (λ o. IsMaybe o → AllByRecursion IsPlain (maybe_fields o)) [ None ↦ λ p. tt | Some x ↦ λ p. a.plain w x p.1 ];
  }

-- ---- lines of any format

-- a whole line of a form, unless one of the tests is so
abbrev pub judged_line : {W A B : Type 0} (tests : ℕ → A → List (Bool × Refusal)) (f : A → B) (g : B → A) (P : B → Type 0) (a : Form W Always A)
    → ((x : A) → g (f x) ≡ x) → ((y : B) → f (g y) ≡ y) → ((v : A) → has_field (a.spell v) ≡ true) → ((k : ℕ) (x : A) → AllAt k (tests k x))
    → ((k : ℕ) (y : B) → a.allowed (g y) × Passes (tests k (g y)) → P y) → ((k : ℕ) (y : B) → P y → a.allowed (g y) × Passes (tests k (g y))) → LineForm W B
judged_line tests f g P a gf fg some at to from = record {
  read = λ k fields. whole k (a.item k) fields >>= λ x. unless (tests k x) (f x);
  spell = λ y. a.spell (g y);
  allowed = P;
  exact = λ w k. IsLine-as _ (λ y. a.spell (g y)) (λ y. a.spell (g y)) (λ y. a.allowed (g y) × Passes (tests k (g y))) P (λ y. refl) (to k) (from k)
      (IsLine-judged (whole k (a.item k)) a.spell a.allowed (tests k) f g gf fg (front-whole Always k (a.item k) a.spell a.allowed tt (a.exact w k)));
  at = λ k fields. at-bind k (whole k (a.item k) fields) (λ x. unless (tests k x) (f x)) (at-whole k (a.item k) (a.judges k) fields)
      (λ x. at-unless k (tests k x) (f x) (at k x));
  plain = λ w y p. plain-line (a.spell (g y)) (a.plain w (g y) (from 0 y p).0) (some (g y));
}

-- ---- sections of any format

-- a section that is not empty. If it is empty, the next line is at fault
module _ {W A : Type 0} (C : Fields → Type 0) (a : Section W C (List A)) where
  -- reads the section, and refuses an empty list
  abbrev pub some_read : Left → Result (List A × Left) Refusal
  some_read s = a.read s >>= λ x. unless ((not (nat_lt 0 (length x.0)), BadLine x.1.line) ∷ []) x

  -- an allowed list with something in it
  abbrev pub IsSome : List A → Type 0
  IsSome v = a.allowed v × (nat_lt 0 (length v) ≡ true)

  pub some-part : W → IsPart C some_read a.spell IsSome
  some-part w = record { takes = take; gives = give }
    where
      take : (s t : Left) (v : List A) → SomeLeft s → some_read s ≡ Ok (v, t) → (s.lines ≡ a.spell v ++ t.lines) × IsSome v × SomeLeft t
      take s t v some e =
          let b = bind_ok (a.read s) (λ x. unless ((not (nat_lt 0 (length x.0)), BadLine x.1.line) ∷ []) x) (v, t) e in
          let u = unless_is ((not (nat_lt 0 (length b.0.0)), BadLine b.0.1.line) ∷ []) b.0 (v, t) b.2 in
          let i = (a.exact w).takes s b.0.1 b.0.0 some b.1 in
          subst (λ (x : List A × Left). (s.lines ≡ a.spell x.0 ++ x.1.lines) × IsSome x.0 × SomeLeft x.1) u.0
          (i.0, (i.1, not-false (nat_lt 0 (length b.0.0)) u.1.0), i.2)

      give : (k : ℕ) (v : List A) (x : Fields) (xs : List Fields) → IsSome v → C x
          → (m : ℕ) × (some_read (record { line = k; lines = a.spell v ++ x ∷ xs }) ≡ Ok (v, record { line = m; lines = x ∷ xs }))
      give k v x xs p c = (let i = (a.exact w).gives k v x xs p.0 c in (i.0, rw (i.1, p.1) refl))

  -- a place in it is one of the whole
  pub to-some : (k : ℕ) (s : Left) → ReadsTo k (a.read s) → ReadsTo k (some_read s)
  to-some k s p = by (a.read s) p
    where
      by : (r : Result (List A × Left) Refusal) → ReadsTo k r → ReadsTo k (◌>>=◌ {B = List A × Left} r
          (λ x. unless ((not (nat_lt 0 (length x.0)), BadLine x.1.line) ∷ []) x))
      by (Ok x) q = elim (not (nat_lt 0 (length x.0))) as (λ b. ReadsTo k (cond {A = Result (List A × Left) Refusal} b (Err (BadLine x.1.line)) (Ok x)))
          [ true ↦ (x.1.line, q, refl) | false ↦ q ]
      by (Err e) q = q

  -- one or more, as a section
  abbrev pub at_least_one : Section W C (List A)
  at_least_one = record {
    read = some_read;
    spell = a.spell;
    allowed = IsSome;
    exact = some-part;
    advances = record { on = λ s. to-some s.line s (a.advances.on s) };
    plain = λ w v p. a.plain w v p.0;
  }

-- one section, and after it another, which holds where V does of the first
abbrev pub after : {W A B : Type 0} (V : A → Type 0) (C D : Fields → Type 0) (a : Section W C A) (b : (x : A) → Section (V x) D B)
    → (W → (x : A) → a.allowed x → V x) → ((x : A) (y : B) (l : Fields) (ls : List Fields) → D l → C (some_lines ((b x).spell y) l ls).0) → Section W D (A × B)
after V C D a b known meet = record {
  read = then_part a.read (λ x. (b x).read);
  spell = λ v. a.spell v.0 ++ (b v.0).spell v.1;
  allowed = λ v. a.allowed v.0 × (b v.0).allowed v.1;
  exact = λ w. IsPart-then C D a.read (λ x. (b x).read) a.spell (λ x. (b x).spell) a.allowed (λ x. (b x).allowed) (a.exact w) (λ x p. (b x).exact (known w x p))
      (λ x y l ls p q d. meet x y l ls d);
  advances = advances-then a.read (λ x. (b x).read) a.advances (λ x. (b x).advances);
  plain = λ w v p. appended IsPlainLine (a.spell v.0) ((b v.0).spell v.1) (a.plain w v.0 p.0) ((b v.0).plain (known w v.0 p.0) v.1 p.1);
}
