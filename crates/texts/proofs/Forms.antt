-- Forms of fields, lines and sections, put together: each law is proved once here.
use Rattle.std.proofs.Common.{◌≡◌, ℕ, ◌+◌, ◌-◌, ◌<◌, ◌≤◌, Bool, true, false, cond, not, List, [], ◌∷◌, ◌++◌, length, map, codes, Result, Ok, Err, refl, sym, ap, subst, ◌∙◌, arith, rules, append_assoc, length-append}
use Rattle.std.specs.List.{AllByRecursion, list_all}
use Rattle.std.specs.Fmt.{decimal}
use Rattle.std.specs.Str.{bytes_eq}
use Rattle.std.proofs.lemmas.Bool.{and_parts}
use Rattle.std.proofs.lemmas.List.{append-nil}
use Rattle.std.proofs.lemmas.Slice.Eq.{bytes_eq-Decides}
use Rattle.ring_names.proofs.Logic.{pair_is, pair_of}
use Rattle.texts.specs.Judging.{◌⊗◌, word_at, need_at, unless}
use Rattle.texts.specs.Left.{many_from, map_part, whole_text}
use Rattle.texts.specs.Late.{IsAt}
use Rattle.texts.proofs.Many.{loop-part, other-any}
use Rattle.texts.proofs.Items.{IsLine-map, IsPart-line, IsPart-map, IsItem-need, unless_ok}
use Rattle.texts.proofs.Fronts.{front-item, front-⊗, numbers-taken, numbers-given}
use Rattle.texts.proofs.Lates.{loop-on, judges-need}
use Rattle.texts.proofs.FrameLaws.{Nothing, header-line, end-line}
use Rattle.texts.proofs.Rows.{numbers-plain}
use Rattle.texts.proofs.Wholes.{whole-takes, whole-gives}
-- and for those who write a format
pub use Rattle.ring_names.specs.declared.refusal.Refusal.{Refusal}
pub use Rattle.ring_names.specs.declared.refusal.Refusal.TheVariants.{BadLine, TooLarge, Repeated, UnknownNode, NotMember}
pub use Rattle.texts.specs.Name.{is_name}
pub use Rattle.texts.specs.Number.{decimal_value}
pub use Rattle.texts.specs.Numbers.{ascending, are_small, numbers_of, beyond}
pub use Rattle.texts.specs.Parts.{line_text, spaced, text_of}
pub use Rattle.texts.specs.Frames.{header_at, end_line_at, header_fields, end_fields}
pub use Rattle.texts.specs.Judging.{Item, field_at, map_ok, map_item, whole}
pub use Rattle.texts.specs.Left.{Left, ◌>>=◌, Reads, begins_so, begins_with, is_word, first_line, next_line, next_number, one_line, then_part}
pub use Rattle.texts.specs.Laws.{IsItem, IsFront, IsLine, IsPart, IsPlain, IsPlainLine, SomeLeft, EachNext, Any, Always, Last, BeginsOther}
pub use Rattle.texts.specs.Late.{ReadsTo}
pub use Rattle.texts.specs.Form.{Form, LineForm, Section}
pub use Rattle.texts.proofs.Decimals.{IsItem-number, decimal-value, value-decimal}
pub use Rattle.texts.proofs.Items.{Passes, some_lines, ok_is, bind_ok, map_is, unless_is, IsItem-field, IsItem-word, IsLine-as, IsPart-then}
pub use Rattle.texts.proofs.Fronts.{Free, front-map, front-whole}
pub use Rattle.texts.proofs.Many.{Steps, pushed}
pub use Rattle.texts.proofs.Lates.{At, AllAt, Judges, Advances, at-if, either-at, at-bind, at-map, at-unless, at-whole, judges-field, judges-word, judges-number, judges-map, judges-⊗}
pub use Rattle.texts.proofs.Lates.{advances-line, advances-then, advances-map, loop-late, to-first, to-second, to-after, to-map, past, past-next, reads-less, next-after}
pub use Rattle.texts.proofs.FrameLaws.{header-at, end-at}
pub use Rattle.texts.proofs.Texts.{appended}
pub use Rattle.texts.proofs.Wholes.{decimal-plain, name-plain}

-- ---- fields

-- an item of which all this is known
abbrev pub of_item : {W A : Type 0} (item : ℕ → Item A) (spell : A → List (List ℕ)) (allowed : A → Type 0) → (W → (k : ℕ) → IsItem (item k) spell allowed) → ((k : ℕ) → Judges k (item k))
    → (W → (v : A) → allowed v → AllByRecursion IsPlain (spell v)) → Form W Always A
of_item item spell allowed exact judges plain = record {
  item = item;
  spell = spell;
  allowed = allowed;
  exact = λ w k. front-item Always (item k) spell allowed (exact w k);
  judges = judges;
  plain = plain;
}

-- one field, which is judged
abbrev pub field_of : {W A : Type 0} (judge : ℕ → List ℕ → Result A Refusal) (spell : A → List ℕ) (allowed : A → Type 0)
    → (W → (k : ℕ) (f : List ℕ) (v : A) → judge k f ≡ Ok v → (f ≡ spell v) × allowed v) → (W → (k : ℕ) (v : A) → allowed v → judge k (spell v) ≡ Ok v)
    → ((k : ℕ) (f : List ℕ) → At k (judge k f)) → (W → (v : A) → allowed v → IsPlain (spell v)) → Form W Always A
field_of judge spell allowed read given at plain = of_item (λ k. field_at k (judge k)) (λ v. spell v ∷ []) allowed
    (λ w k. IsItem-field k (judge k) spell allowed (read w k) (given w k)) (λ k. judges-field k (judge k) (at k)) (λ w v p. (plain w v p, tt))

-- this very word
abbrev pub word : {W : Type 0} (w : List ℕ) → IsPlain w → Form W Always (Unit {0})
word w p = of_item (λ k. word_at k w) (λ _. w ∷ []) (λ _. Unit {0}) (λ _ k. IsItem-word k w) (λ k. judges-word k w) (λ _ v q. (p, tt))

-- one of two words is plain
pub either-plain : (b : Bool) (x y : List ℕ) → IsPlain x → IsPlain y → IsPlain (cond b x y)
either-plain true x y p q = p
either-plain false x y p q = q

-- room for what the line begins
abbrev pub room : {W : Type 0} → Bool → Form W Always (Unit {0})
room b = of_item (λ k. need_at k b) (λ _. []) (λ _. b ≡ true) (λ _ k. IsItem-need k b) (λ k. judges-need k b) (λ _ v q. tt)

-- the value of the word
abbrev pub judge_words : {A : Type 0} → List (List ℕ × A) → ℕ → List ℕ → Result A Refusal
judge_words [] k field = Err (BadLine k)
judge_words (w ∷ ws) k field = cond (bytes_eq field w.0) (Ok w.1) (judge_words ws k field)

module _ {A : Type 0} (spell : A → List ℕ) where
  -- each is a plain word, and that of its value
  abbrev pub AreWords : List (List ℕ × A) → Type 0
  AreWords ws = AllByRecursion (λ w. (spell w.1 ≡ w.0) × IsPlain w.0) ws

  pub words-are : (ws : List (List ℕ × A)) → AreWords ws → (k : ℕ) (f : List ℕ) (v : A) → judge_words ws k f ≡ Ok v → (f ≡ spell v) × IsPlain f
  words-are [] p k f v e = absurd cc
  words-are (w ∷ ws) p k f v e = by (bytes_eq f w.0) refl e (words-are ws p.1 k f v)
    where
      by : (b : Bool) → bytes_eq f w.0 ≡ b → cond b (Ok w.1) (judge_words ws k f) ≡ Ok v → (judge_words ws k f ≡ Ok v → (f ≡ spell v) × IsPlain f) → (f ≡ spell v) × IsPlain f
      by true h g later = (let is : f ≡ w.0 = (bytes_eq-Decides f w.0).0 h in (is ∙ sym p.0.0 ∙ ap spell (ok_is w.1 v g), subst IsPlain (sym is) p.0.1))
      by false h g later = later g

  pub words-at : (ws : List (List ℕ × A)) (k : ℕ) (f : List ℕ) → At k (judge_words ws k f)
  words-at [] k f = refl
  words-at (w ∷ ws) k f = at-if k (bytes_eq f w.0) (Ok w.1) (judge_words ws k f) tt (words-at ws k f)

  -- one of some words
  abbrev pub one_of : {W : Type 0} (ws : List (List ℕ × A)) → AreWords ws → ((k : ℕ) (v : A) → judge_words ws k (spell v) ≡ Ok v) → Form W Always A
  one_of ws p given = field_of (judge_words ws) spell (λ v. Unit {0}) (λ _ k f v e. ((words-are ws p k f v e).0, tt)) (λ _ k v q. given k v) (words-at ws)
      (λ _ v q. (words-are ws p 0 (spell v) v (given 0 v)).1)

-- one, and after it the other, whose spelling may follow
abbrev pub pair : {W A B : Type 0} (C D : List (List ℕ) → Type 0) (a : Form W C A) (b : Form W D B)
    → ((y : B) (rest : List (List ℕ)) → D rest → C (b.spell y ++ rest)) → Form W D (A × B)
pair C D a b meet = record {
  item = λ k. a.item k ⊗ b.item k;
  spell = λ v. a.spell v.0 ++ b.spell v.1;
  allowed = λ v. a.allowed v.0 × b.allowed v.1;
  exact = λ w k. front-⊗ C D (a.item k) (b.item k) a.spell b.spell a.allowed b.allowed (a.exact w k) (b.exact w k) meet;
  judges = λ k. judges-⊗ k (a.item k) (b.item k) (a.judges k) (b.judges k);
  plain = λ w v p. appended IsPlain (a.spell v.0) (b.spell v.1) (a.plain w v.0 p.0) (b.plain w v.1 p.1);
}

-- one that any fields may follow, and after it the other
abbrev pub both : {W A B : Type 0} (D : List (List ℕ) → Type 0) → Form W Always A → Form W D B → Form W D (A × B)
both D a b = pair Always D a b (λ y rest d. tt)

-- the same where fewer fields may follow
abbrev pub narrow : {W A : Type 0} (C D : List (List ℕ) → Type 0) → ((rest : List (List ℕ)) → D rest → C rest) → Form W C A → Form W D A
narrow C D less a = record {
  item = a.item;
  spell = a.spell;
  allowed = a.allowed;
  exact = λ w k. record { takes = (a.exact w k).takes; gives = λ v rest p d. (a.exact w k).gives v rest p (less rest d) };
  judges = a.judges;
  plain = a.plain;
}

-- the same where some fields may follow
abbrev pub anywhere : {W A : Type 0} (C : List (List ℕ) → Type 0) → Form W Always A → Form W C A
anywhere C a = narrow Always C (λ rest c. tt) a

-- the value made into another
abbrev pub mapped : {W A B : Type 0} (C : List (List ℕ) → Type 0) (f : A → B) (g : B → A) → ((x : A) → g (f x) ≡ x) → ((y : B) → f (g y) ≡ y) → Form W C A
    → Form W C B
mapped C f g gf fg a = record {
  item = λ k. map_item f (a.item k);
  spell = λ y. a.spell (g y);
  allowed = λ y. a.allowed (g y);
  exact = λ w k. front-map C (a.item k) a.spell a.allowed f g gf fg (a.exact w k);
  judges = λ k. judges-map k f (a.item k) (a.judges k);
  plain = λ w y p. a.plain w (g y) p;
}

-- all numbers in front, unless one of the tests is so
abbrev pub row_at : (ℕ → List ℕ → List (Bool × Refusal)) → ℕ → Item (List ℕ)
row_at tests k fields = (unless (tests k (numbers_of fields)) (numbers_of fields), beyond fields)

module _ {W : Type 0} (tests : ℕ → List ℕ → List (Bool × Refusal)) (same : (k m : ℕ) (xs : List ℕ) → Passes (tests k xs) → Passes (tests m xs))
    (small : W → (xs : List ℕ) → Passes (tests 0 xs) → are_small xs ≡ true) where
  pub row-front : W → (k : ℕ) → IsFront Free (row_at tests k) (map decimal) (λ xs. Passes (tests 0 xs))
  row-front w k = record { takes = take; gives = give }
    where
      take : (fields rest : List (List ℕ)) (v : List ℕ) → row_at tests k fields ≡ (Ok v, rest) → (fields ≡ map decimal v ++ rest) × Passes (tests 0 v)
      take fields rest v e =
          let h = pair_is (row_at tests k fields) (Ok v) rest e in
          let a = unless_is (tests k (numbers_of fields)) (numbers_of fields) v h.0 in
          let p = same k 0 (numbers_of fields) a.1 in (
            numbers-taken fields (small w (numbers_of fields) p) ∙ ap (λ (xs : List ℕ). map decimal xs ++ beyond fields) a.0
                ∙ ap (λ (r : List (List ℕ)). map decimal v ++ r) h.1,
            subst (λ (xs : List ℕ). Passes (tests 0 xs)) a.0 p,
          )

      give : (v : List ℕ) (rest : List (List ℕ)) → Passes (tests 0 v) → Free rest → row_at tests k (map decimal v ++ rest) ≡ (Ok v, rest)
      give v rest p free =
          let n = numbers-given v rest (small w v p) free in
          rw (n.0, n.1) (ap (λ (r : Result (List ℕ) Refusal). (r, rest)) (unless_ok (tests k v) v (same 0 k v p)))

  -- if no number may follow
  abbrev pub free_row : ((k : ℕ) (xs : List ℕ) → AllAt k (tests k xs)) → Form W Free (List ℕ)
  free_row at = record {
    item = row_at tests;
    spell = λ xs. map decimal xs;
    allowed = λ xs. Passes (tests 0 xs);
    exact = row-front;
    judges = λ k. record { at = λ fields. at-unless k (tests k (numbers_of fields)) (numbers_of fields) (at k (numbers_of fields)) };
    plain = λ w v p. numbers-plain v (small w v p);
  }

  -- if no field may follow
  abbrev pub row : ((k : ℕ) (xs : List ℕ) → AllAt k (tests k xs)) → Form W Last (List ℕ)
  row at = narrow Free Last (λ rest last. rw last (refl, refl)) (free_row at)

-- the value made into another, unless one of the tests is so
abbrev pub judged_at : {A B : Type 0} → (ℕ → Item A) → (ℕ → A → List (Bool × Refusal)) → (A → B) → ℕ → Item B
judged_at a tests f k fields = ((a k fields).0 >>= (λ v. unless (tests k v) (f v)), (a k fields).1)

module _ {W A B : Type 0} (C : List (List ℕ) → Type 0) (tests : ℕ → A → List (Bool × Refusal)) (same : (k m : ℕ) (x : A) → Passes (tests k x) → Passes (tests m x)) (f : A → B) (g : B → A)
    (gf : (x : A) → g (f x) ≡ x) (fg : (y : B) → f (g y) ≡ y) (a : Form W C A) where
  abbrev Allowed : B → Type 0
  Allowed y = a.allowed (g y) × Passes (tests 0 (g y))

  pub judged-front : W → (k : ℕ) → IsFront C (judged_at a.item tests f k) (λ y. a.spell (g y)) Allowed
  judged-front w k = record { takes = take; gives = give }
    where
      take : (fields rest : List (List ℕ)) (v : B) → judged_at a.item tests f k fields ≡ (Ok v, rest) → (fields ≡ a.spell (g v) ++ rest) × Allowed v
      take fields rest v e =
          let h = pair_is (judged_at a.item tests f k fields) (Ok v) rest e in
          let b = bind_ok (a.item k fields).0 (λ x. unless (tests k x) (f x)) v h.0 in
          let u = unless_is (tests k b.0) (f b.0) v b.2 in
          let i = (a.exact w k).takes fields rest b.0 (pair_of (a.item k fields) (Ok b.0) rest b.1 h.1) in
          let G : A → Type 0 = λ x. (fields ≡ a.spell x ++ rest) × (a.allowed x × Passes (tests 0 x)) in
          subst (λ (y : B). G (g y)) u.0 (subst G (sym (gf b.0)) (i.0, (i.1, same k 0 b.0 u.1)))

      give : (v : B) (rest : List (List ℕ)) → Allowed v → C rest → judged_at a.item tests f k (a.spell (g v) ++ rest) ≡ (Ok v, rest)
      give v rest p c =
          let i = (a.exact w k).gives (g v) rest p.0 c in
          rw i (ap (λ (r : Result B Refusal). (r, rest)) (unless_ok (tests k (g v)) (f (g v)) (same 0 k (g v) p.1) ∙ ap (λ (x : B). Ok x) (fg v)))

  abbrev pub judged : ((k : ℕ) (x : A) → AllAt k (tests k x)) → Form W C B
  judged at = record {
    item = judged_at a.item tests f;
    spell = λ y. a.spell (g y);
    allowed = Allowed;
    exact = judged-front;
    judges = λ k. record { at = λ fields. at-bind k (a.item k fields).0 (λ v. unless (tests k v) (f v)) ((a.judges k).at fields) (λ x. at-unless k (tests k x) (f x) (at k x)) };
    plain = λ w y p. a.plain w (g y) p.0;
  }

-- ---- a choice by the first word

-- one case: a word, what follows, and the value that both make
pub record Case (W : Type 0) (C : List (List ℕ) → Type 0) (S : Type 0) (spell : S → List (List ℕ)) (allowed : S → Type 0) : Type 1 where
  pub kind : Type 0
  pub word : List ℕ
  pub is_plain : IsPlain word
  pub form : Form W C kind
  pub value : kind → S
  pub spelled : (x : kind) → spell (value x) ≡ word ∷ form.spell x
  pub to : (x : kind) → form.allowed x → allowed (value x)
  pub from : (x : kind) → allowed (value x) → form.allowed x

module _ {W S : Type 0} {C : List (List ℕ) → Type 0} {spell : S → List (List ℕ)} {allowed : S → Type 0} where
  -- a case, part by part
  abbrev pub case_of : {A : Type 0} (word : List ℕ) → IsPlain word → (form : Form W C A) (value : A → S)
      → ((x : A) → spell (value x) ≡ word ∷ form.spell x) → ((x : A) → form.allowed x → allowed (value x)) → ((x : A) → allowed (value x) → form.allowed x)
      → Case W C S spell allowed
  case_of {A = A} word is_plain form value spelled to from =
      record { kind = A; word = word; is_plain = is_plain; form = form; value = value; spelled = spelled; to = to; from = from }

  -- after a word: what its case reads
  abbrev pub choose : List (Case W C S spell allowed) → ℕ → List ℕ → Item S
  choose [] k word fields = (Err (BadLine k), fields)
  choose (c ∷ cs) k word fields = cond (bytes_eq word c.word) (map_item c.value (c.form.item k) fields) (choose cs k word fields)

  -- a word, and what its case reads
  abbrev pub choice_at : List (Case W C S spell allowed) → ℕ → Item S
  choice_at cs k [] = (Err (BadLine k), [])
  choice_at cs k (word ∷ fields) = choose cs k word fields

  -- the case of a value: the one that its word chooses
  pub record Chosen (cases : List (Case W C S spell allowed)) (v : S) : Type 1 where
    pub case : Case W C S spell allowed
    pub part : case.kind
    pub is : case.value part ≡ v
    pub first : (k : ℕ) (fields : List (List ℕ)) → choose cases k case.word fields ≡ map_item case.value (case.form.item k) fields

  module _ (cases : List (Case W C S spell allowed)) (item : ℕ → Item S) (same : (k : ℕ) (fields : List (List ℕ)) → item k fields ≡ choice_at cases k fields)
      (of : (v : S) → allowed v → Chosen cases v) where
    pub choice-front : W → (k : ℕ) → IsFront C (item k) spell allowed
    choice-front w k = record { takes = λ fields rest v e. take fields rest v (sym (same k fields) ∙ e); gives = give }
      where
        chosen : (cs : List (Case W C S spell allowed)) (word : List ℕ) (fields rest : List (List ℕ)) (v : S)
            → choose cs k word fields ≡ (Ok v, rest) → (word ∷ fields ≡ spell v ++ rest) × allowed v
        chosen [] word fields rest v e = (let h = pair_is {A = Result S Refusal} (Err (BadLine k), fields) (Ok v) rest e in absurd cc)
        chosen (c ∷ cs) word fields rest v e = by (bytes_eq word c.word) refl e (chosen cs word fields rest v)
          where
            by : (b : Bool) → bytes_eq word c.word ≡ b → cond b (map_item c.value (c.form.item k) fields) (choose cs k word fields) ≡ (Ok v, rest)
                → (choose cs k word fields ≡ (Ok v, rest) → (word ∷ fields ≡ spell v ++ rest) × allowed v) → (word ∷ fields ≡ spell v ++ rest) × allowed v
            by true h g later =
                let p = pair_is (map_item c.value (c.form.item k) fields) (Ok v) rest g in
                let m = map_is c.value (c.form.item k fields).0 v p.0 in
                let i = (c.form.exact w k).takes fields rest m.0 (pair_of (c.form.item k fields) (Ok m.0) rest m.1 p.1) in
                let start = ap (λ (y : List ℕ). y ∷ fields) ((bytes_eq-Decides word c.word).0 h) ∙ ap (λ (r : List (List ℕ)). c.word ∷ r) i.0
                ∙ ap (λ (r : List (List ℕ)). r ++ rest) (sym (c.spelled m.0)) in
                subst (λ (x : S). (word ∷ fields ≡ spell x ++ rest) × allowed x) m.2 (start, c.to m.0 i.1)
            by false h g later = later g

        take : (fields rest : List (List ℕ)) (v : S) → choice_at cases k fields ≡ (Ok v, rest) → (fields ≡ spell v ++ rest) × allowed v
        take [] rest v e = (let h = pair_is {A = Result S Refusal} (Err (BadLine k), []) (Ok v) rest e in absurd cc)
        take (word ∷ fields) rest v e = chosen cases word fields rest v e

        give : (v : S) (rest : List (List ℕ)) → allowed v → C rest → item k (spell v ++ rest) ≡ (Ok v, rest)
        give v rest p after =
            let o = of v p in
            let c = o.case in
            let i = (c.form.exact w k).gives o.part rest (c.from o.part (subst allowed (sym o.is) p)) after in
            ap (λ (l : List (List ℕ)). item k (l ++ rest)) (ap spell (sym o.is) ∙ c.spelled o.part) ∙ same k (c.word ∷ (c.form.spell o.part ++ rest))
            ∙ o.first k (c.form.spell o.part ++ rest) ∙ ap (λ (r : Result c.kind Refusal × List (List ℕ)). (map_ok c.value r.0, r.1)) i
            ∙ ap (λ (x : S). (Ok x, rest)) o.is

    choose-at : (cs : List (Case W C S spell allowed)) (k : ℕ) (word : List ℕ) (fields : List (List ℕ)) → At k (choose cs k word fields).0
    choose-at [] k word fields = refl
    choose-at (c ∷ cs) k word fields = either-at k (bytes_eq word c.word) (map_item c.value (c.form.item k) fields) (choose cs k word fields)
        (at-map k c.value (c.form.item k fields).0 ((c.form.judges k).at fields)) (choose-at cs k word fields)

    pub choice-at : (k : ℕ) (fields : List (List ℕ)) → At k (item k fields).0
    choice-at k [] = rw (same k []) refl
    choice-at k (word ∷ fields) = rw (same k (word ∷ fields)) (choose-at cases k word fields)

    pub choice-plain : W → (v : S) → allowed v → AllByRecursion IsPlain (spell v)
    choice-plain w v p =
        let o = of v p in
        let c = o.case in
        subst (AllByRecursion IsPlain) (sym (c.spelled o.part) ∙ ap spell o.is) (c.is_plain, c.form.plain w o.part (c.from o.part (subst allowed (sym o.is) p)))

    -- one of the cases, by the first word, where each allowed value has its case
    abbrev pub choice_if : Form W C S
    choice_if = record { item = item; spell = spell; allowed = allowed; exact = choice-front; judges = λ k. record { at = choice-at k }; plain = choice-plain }

  -- the same where each value has its case
  abbrev pub choice : (cases : List (Case W C S spell allowed)) (item : ℕ → Item S) → ((k : ℕ) (fields : List (List ℕ)) → item k fields ≡ choice_at cases k fields) → ((v : S) → Chosen cases v) → Form W C S
  choice cases item same of = choice_if cases item same (λ v p. of v)

-- ---- nothing, or a word and some values

-- none, or some that are allowed
abbrev pub NoneOr : {A : Type 0} → (List A → Type 0) → List A → Type 0
NoneOr P [] = Unit {0}
NoneOr P (x ∷ xs) = P (x ∷ xs)

-- nothing, or the word and what is after it
abbrev pub optional_at : {W A : Type 0} → List ℕ → Form W Last (List A) → ℕ → Item (List A)
optional_at word a k [] = (Ok [], [])
optional_at word a k (field ∷ fields) = cond (bytes_eq field word) (a.item k fields) (Err (BadLine k), fields)

module _ {W A : Type 0} (word : List ℕ) (is_plain : IsPlain word) (a : Form W Last (List A)) (never : a.allowed [] → ⊥)
    (item : ℕ → Item (List A)) (same : (k : ℕ) (fields : List (List ℕ)) → item k fields ≡ optional_at word a k fields)
    (spell : List A → List (List ℕ)) (empty : spell [] ≡ []) (filled : (x : A) (xs : List A) → spell (x ∷ xs) ≡ word ∷ a.spell (x ∷ xs)) where
  pub optional-front : W → (k : ℕ) → IsFront Last (item k) spell (NoneOr a.allowed)
  optional-front w k = record { takes = λ fields rest v e. take fields rest v (sym (same k fields) ∙ e); gives = give }
    where
      take : (fields rest : List (List ℕ)) (v : List A) → optional_at word a k fields ≡ (Ok v, rest) → (fields ≡ spell v ++ rest) × NoneOr a.allowed v
      take [] rest v e =
          let h = pair_is (Ok [], []) (Ok v) rest e in
          subst (λ (xs : List A). ([] ≡ spell xs ++ rest) × NoneOr a.allowed xs) (ok_is [] v h.0) (rw empty h.1, tt)
      take (field ∷ fields) rest v e = by (bytes_eq field word) refl e
        where
          some : (v : List A) → (fields ≡ a.spell v ++ rest) × a.allowed v → field ≡ word → (field ∷ fields ≡ spell v ++ rest) × NoneOr a.allowed v
          some [] i h = absurd (never i.1)
          some (x ∷ xs) i h =
              (ap (λ (y : List ℕ). y ∷ fields) h ∙ ap (λ (r : List (List ℕ)). word ∷ r) i.0 ∙ ap (λ (r : List (List ℕ)). r ++ rest) (sym (filled x xs)), i.1)

          by : (b : Bool) → bytes_eq field word ≡ b → ◌≡◌ {A = Result (List A) Refusal × List (List ℕ)} (cond b (a.item k fields) (Err (BadLine k), fields))
              (Ok v, rest)
              → (field ∷ fields ≡ spell v ++ rest) × NoneOr a.allowed v
          by true h g = some v ((a.exact w k).takes fields rest v g) ((bytes_eq-Decides field word).0 h)
          by false h g = (let p = pair_is {A = Result (List A) Refusal} (Err (BadLine k), fields) (Ok v) rest g in absurd cc)

      give : (v : List A) (rest : List (List ℕ)) → NoneOr a.allowed v → Last rest → item k (spell v ++ rest) ≡ (Ok v, rest)
      give [] rest p last = rw (empty, last) (same k [])
      give (x ∷ xs) rest p last = ap (λ (l : List (List ℕ)). item k (l ++ rest)) (filled x xs) ∙ same k (word ∷ (a.spell (x ∷ xs) ++ rest))
          ∙ rw ((bytes_eq-Decides word word).1 refl) ((a.exact w k).gives (x ∷ xs) rest p last)

  pub optional-at : (k : ℕ) (fields : List (List ℕ)) → At k (item k fields).0
  optional-at k [] = rw (same k []) tt
  optional-at k (field ∷ fields) =
      rw (same k (field ∷ fields)) (either-at k (bytes_eq field word) (a.item k fields) (Err (BadLine k), fields) ((a.judges k).at fields) refl)

  pub optional-plain : W → (v : List A) → NoneOr a.allowed v → AllByRecursion IsPlain (spell v)
  optional-plain w [] p = rw empty tt
  optional-plain w (x ∷ xs) p = rw (filled x xs) (is_plain, a.plain w (x ∷ xs) p)

  -- none, or the word and some
  abbrev pub optional : Form W Last (List A)
  optional = record {
    item = item;
    spell = spell;
    allowed = NoneOr a.allowed;
    exact = optional-front;
    judges = λ k. record { at = optional-at k };
    plain = optional-plain;
  }

-- ---- lines

-- a field is there
abbrev pub has_field : List (List ℕ) → Bool
has_field [] = false
has_field (f ∷ fs) = true

pub plain-line : (l : List (List ℕ)) → AllByRecursion IsPlain l → has_field l ≡ true → IsPlainLine l
plain-line [] p e = absurd cc
plain-line (f ∷ fs) p e = p

-- a whole line of a form, its value made into another
abbrev pub line : {W A B : Type 0} (C : List (List ℕ) → Type 0) → C [] → (f : A → B) (g : B → A) → ((x : A) → g (f x) ≡ x) → ((y : B) → f (g y) ≡ y) → (a : Form W C A) → ((v : A) → has_field (a.spell v) ≡ true) → LineForm W B
line C nothing f g gf fg a some = record {
  read = λ k fields. map_ok f (whole k (a.item k) fields);
  spell = λ v. a.spell (g v);
  allowed = λ v. a.allowed (g v);
  exact = λ w k. IsLine-map (whole k (a.item k)) a.spell a.allowed f g gf fg (front-whole C k (a.item k) a.spell a.allowed nothing (a.exact w k));
  at = λ k fields. at-map k f (whole k (a.item k) fields) (at-whole k (a.item k) (a.judges k) fields);
  plain = λ w v p. plain-line (a.spell (g v)) (a.plain w (g v) p) (some (g v));
}

-- the value made into another, which each of those is
abbrev pub line_as : {W A B : Type 0} (spell : B → List (List ℕ)) (allowed : B → Type 0) (f : A → B) → ((y : B) → (x : A) × (f x ≡ y)) → (l : LineForm W A)
    → ((x : A) → l.spell x ≡ spell (f x)) → ((x : A) → l.allowed x → allowed (f x)) → ((x : A) → allowed (f x) → l.allowed x) → LineForm W B
line_as {W} {A} {B} spell allowed f each l same to from = record {
  read = λ k fields. map_ok f (l.read k fields);
  spell = spell;
  allowed = allowed;
  exact = λ w k. record {
    takes = λ fields v e.
        let m = map_is f (l.read k fields) v e in
        let i = (l.exact w k).takes fields m.0 m.1 in
        subst (λ (y : B). (fields ≡ spell y) × allowed y) m.2 (i.0 ∙ same m.0, to m.0 i.1);
    gives = λ v p.
        let x = each v in
        let given = (l.exact w k).gives x.0 (from x.0 (subst allowed (sym x.1) p)) in
        subst (λ (y : B). map_ok f (l.read k (spell y)) ≡ Ok y) x.1 (rw (← same x.0) (ap (map_ok f) given));
  };
  at = λ k fields. at-map k f (l.read k fields) (l.at k fields);
  plain = λ w v p.
      let x = each v in
      let line = l.plain w x.0 (from x.0 (subst allowed (sym x.1) p)) in
      subst IsPlainLine (same x.0 ∙ ap spell x.1) line;
}

-- ---- sections

-- a line that must come
abbrev pub one : {W A : Type 0} → LineForm W A → Section W Any A
one l = record {
  read = one_line l.read;
  spell = λ v. l.spell v ∷ [];
  allowed = l.allowed;
  exact = λ w. IsPart-line l.read l.spell l.allowed (l.exact w);
  advances = advances-line l.read l.at;
  plain = λ w v p. (l.plain w v p, tt);
}

pub each-plain : {A : Type 0} (spell : A → List (List ℕ)) (P : List A → A → Type 0) → ((seen : List A) (v : A) → P seen v → IsPlainLine (spell v)) → (seen xs : List A) → EachNext P seen xs → AllByRecursion IsPlainLine (map spell xs)
each-plain spell P plain seen [] next = tt
each-plain spell P plain seen (x ∷ xs) next = (plain seen x next.0, each-plain spell P plain (seen ++ x ∷ []) xs next.1)

-- lines that are read one after another, each after those seen
abbrev pub loop_of : {W A : Type 0} (goes : List (List (List ℕ)) → Bool) (C : List (List ℕ) → Type 0)
    → ((line : List (List ℕ)) (more : List (List (List ℕ))) → C line → goes (line ∷ more) ≡ false)
    → (spell : A → List (List ℕ)) (l : List A → LineForm W A) (loop : List A → ℕ → List (List (List ℕ)) → Result (List A × Left) Refusal)
    → Steps goes (λ seen. (l seen).read) pushed loop → ((seen : List A) (k : ℕ) → ReadsTo k (loop seen k []))
    → ((seen : List A) (v : A) → (l seen).spell v ≡ spell v)
    → (W → (seen : List A) (x : A) (more : List (List (List ℕ))) → (l seen).allowed x → goes (spell x ∷ more) ≡ true) → Section W C (List A)
loop_of goes C ends spell l loop steps nothing same begins = record {
  read = λ s. loop [] s.line s.lines;
  spell = λ xs. map spell xs;
  allowed = EachNext (λ seen. (l seen).allowed) [];
  exact = λ w. loop-part goes (λ seen. (l seen).read) loop steps spell (λ seen. (l seen).allowed)
      (λ seen k. IsLine-as ((l seen).read k) (l seen).spell spell (l seen).allowed (l seen).allowed (same seen) (λ v p. p) (λ v p. p) ((l seen).exact w k))
      (begins w) C ends;
  advances = record { on = λ s. loop-on goes (λ seen. (l seen).read) pushed loop steps nothing (λ seen. (l seen).at) [] s.line s.lines };
  plain = λ w v p. each-plain spell (λ seen. (l seen).allowed) (λ seen x q. subst IsPlainLine (same seen x) ((l seen).plain w x q)) [] v p;
}

pub nothing-left : {A : Type 0} (v : A) (k : ℕ) → ReadsTo k (Ok (v, record { line = k; lines = [] }))
nothing-left v k = omega arith

-- lines as long as they begin so
abbrev pub many : {W A : Type 0} (test : List ℕ → Bool) (spell : A → List (List ℕ)) (l : List A → LineForm W A)
    → ((seen : List A) (v : A) → (l seen).spell v ≡ spell v)
    → (W → (seen : List A) (x : A) (more : List (List (List ℕ))) → (l seen).allowed x → begins_so test (spell x ∷ more) ≡ true)
    → Section W (BeginsOther test) (List A)
many test spell l same begins = loop_of (begins_so test) (BeginsOther test) (other-any test) spell l (many_from test (λ seen. (l seen).read))
    (λ seen k line more. refl) nothing-left same begins

-- the line's first field passes the test
abbrev pub Begins : (List ℕ → Bool) → List (List ℕ) → Type 0
Begins test line = begins_so test (line ∷ []) ≡ true

-- reading goes on where the next line does not begin so
abbrev pub goes_on : (List ℕ → Bool) → List (List (List ℕ)) → Bool
goes_on test lines = not (begins_so test lines)

pub ends-there : (test : List ℕ → Bool) (line : List (List ℕ)) (more : List (List (List ℕ))) → Begins test line → goes_on test (line ∷ more) ≡ false
ends-there test [] more h = absurd cc
ends-there test (f ∷ fs) more h = ap not h

pub no-line : (k : ℕ) → (m : ℕ) × (k ≤ m) × IsAt m (BadLine k)
no-line k = (k, omega arith, refl)

-- lines up to one that begins so
abbrev pub until : {W A : Type 0} (test : List ℕ → Bool) (spell : A → List (List ℕ)) (l : List A → LineForm W A)
    (loop : List A → ℕ → List (List (List ℕ)) → Result (List A × Left) Refusal)
    → Steps (goes_on test) (λ seen. (l seen).read) pushed loop → ((seen : List A) (k : ℕ) → ReadsTo k (loop seen k []))
    → ((seen : List A) (v : A) → (l seen).spell v ≡ spell v)
    → (W → (seen : List A) (x : A) (more : List (List (List ℕ))) → (l seen).allowed x → begins_so test (spell x ∷ more) ≡ false)
    → Section W (Begins test) (List A)
until test spell l loop steps nothing same begins =
    loop_of (goes_on test) (Begins test) (ends-there test) spell l loop steps nothing same (λ w seen x more p. ap not (begins w seen x more p))

-- the one, or the other
pub turned : {A : Type 0} (b : Bool) (x y : A) → cond b x y ≡ cond (not b) y x
turned true x y = refl
turned false x y = refl

-- one section, and then another, which may depend on the first
abbrev pub then : {W A B : Type 0} (C D : List (List ℕ) → Type 0) (a : Section W C A) (b : A → Section W D B)
    → (W → (x : A) (y : B) (l : List (List ℕ)) (ls : List (List (List ℕ))) → a.allowed x → (b x).allowed y → D l → C (some_lines ((b x).spell y) l ls).0) → Section W D (A × B)
then C D a b meet = record {
  read = then_part a.read (λ x. (b x).read);
  spell = λ v. a.spell v.0 ++ (b v.0).spell v.1;
  allowed = λ v. a.allowed v.0 × (b v.0).allowed v.1;
  exact = λ w. IsPart-then C D a.read (λ x. (b x).read) a.spell (λ x. (b x).spell) a.allowed (λ x. (b x).allowed) (a.exact w) (λ x p. (b x).exact w) (meet w);
  advances = advances-then a.read (λ x. (b x).read) a.advances (λ x. (b x).advances);
  plain = λ w v p. appended IsPlainLine (a.spell v.0) ((b v.0).spell v.1) (a.plain w v.0 p.0) ((b v.0).plain w v.1 p.1);
}

-- a section, its value made into another
abbrev pub made : {W A B : Type 0} (C : List (List ℕ) → Type 0) (f : A → B) (g : B → A) → ((x : A) → g (f x) ≡ x) → ((y : B) → f (g y) ≡ y) → Section W C A → Section W C B
made C f g gf fg a = record {
  read = map_part f a.read;
  spell = λ v. a.spell (g v);
  allowed = λ v. a.allowed (g v);
  exact = λ w. IsPart-map C a.read a.spell a.allowed f g gf fg (a.exact w);
  advances = advances-map f a.read a.advances;
  plain = λ w v p. a.plain w (g v) p;
}

-- the first and the last line of a section
abbrev pub header : {W : Type 0} (w format : List ℕ) → IsPlain w → IsPlain format → Section W Any (Unit {0})
header w format p q = one (record {
  read = header_at w format;
  spell = λ _. header_fields w format;
  allowed = Nothing;
  exact = λ _ k. header-line w format k;
  at = header-at w format;
  plain = λ _ v r. (p, (q, tt));
})

pub end-plain : IsPlain (codes "end")
end-plain = (search rules)

abbrev pub ending : {W : Type 0} → Section W Any (Unit {0})
ending = one (record {
  read = end_line_at;
  spell = λ _. end_fields;
  allowed = Nothing;
  exact = λ _ k. end-line k;
  at = end-at;
  plain = λ _ v r. (end-plain, tt);
})

-- ---- what is read of sections

-- a whole text is read only from its spelling, and from that it is
pub text-found : {W A : Type 0} (f : Section W Any A) → W → (text : List ℕ) (v : A) → whole_text f.read text ≡ Ok v → f.allowed v × (text ≡ text_of (f.spell v))
text-found f w text v e = whole-takes f.read f.spell f.allowed (f.exact w) text v e

pub text-given : {W A : Type 0} (f : Section W Any A) → W → (text : List ℕ) (v : A) → f.allowed v → text ≡ text_of (f.spell v) → whole_text f.read text ≡ Ok v
text-given f w text v p e = whole-gives f.read f.spell f.allowed (f.exact w) text v p (f.plain w v p) e

-- a text that must begin with a line is read only if there is a line
pub some-first : {A B E : Type 0} (f : A × B → E) (read : ℕ → List (List ℕ) → Result A Refusal) (again : A → Left → Result (B × Left) Refusal) (s t : Left) (v : E) → map_part f (then_part (one_line read) again) s ≡ Ok (v, t) → SomeLeft s
some-first f read again s t v e = by s.lines e
  where
    by : (lines : List (List (List ℕ))) → map_part f (then_part (one_line read) again) (record { line = s.line; lines = lines }) ≡ Ok (v, t) → (x : List (List ℕ)) × (xs : List (List (List ℕ))) × (lines ≡ x ∷ xs)
    by [] h = absurd cc
    by (x ∷ xs) h = (x, xs, refl)

-- ---- lines that are each allowed after those seen

module _ {A : Type 0} (P : List A → A → Type 0) where
  -- what each passes they all pass
  pub each-all : (test : A → Bool) → ((seen : List A) (x : A) → P seen x → test x ≡ true) → (seen xs : List A) → EachNext P seen xs → list_all test xs ≡ true
  each-all test is seen [] next = refl
  each-all test is seen (x ∷ xs) next = rw (is seen x next.0) (each-all test is (seen ++ x ∷ []) xs next.1)

  -- and those that pass, where R holds of them all, are each allowed
  pub all-each : (test : A → Bool) (R : List A → Type 0) → ((seen : List A) (x : A) (xs : List A) → test x ≡ true → R (seen ++ x ∷ xs) → P seen x) → (seen xs : List A) → list_all test xs ≡ true → R (seen ++ xs) → EachNext P seen xs
  all-each test R is seen [] e r = tt
  all-each test R is seen (x ∷ xs) e r =
      let a = and_parts (test x) (list_all test xs) e in
      (is seen x xs a.0 r, all-each test R is (seen ++ x ∷ []) xs a.1 (subst R (sym (append_assoc seen (x ∷ []) xs)) r))

  -- what holds with each of them more holds of them all
  pub each-grows : (R : List A → Type 0) → ((seen : List A) (x : A) → R seen → P seen x → R (seen ++ x ∷ [])) → (seen xs : List A) → R seen → EachNext P seen xs
      → R (seen ++ xs)
  each-grows R more seen [] r next = rw (append-nil seen) r
  each-grows R more seen (x ∷ xs) r next = subst R (append_assoc seen (x ∷ []) xs) (each-grows R more (seen ++ x ∷ []) xs (more seen x r next.0) next.1)

  -- lines for which there is room
  pub each-few : (n : ℕ) → ((seen : List A) (x : A) → P seen x → length seen < n) → (seen xs : List A) (m : ℕ) → length seen + m ≡ n → EachNext P seen xs → length xs ≤ m
  each-few n is seen [] m e next = omega arith
  each-few n is seen (x ∷ xs) m e next = (let lt = is seen x next.0 in let grown = length-append seen (x ∷ []) in let few = each-few n is (seen ++ x ∷ []) xs (m - 1) (omega arith) next.1 in omega arith)

  pub few-each : (n : ℕ) (one two : A → Bool) → ((seen : List A) (x : A) → length seen < n → one x ≡ true → two x ≡ true → P seen x) → (seen xs : List A) (m : ℕ) → length seen + m ≡ n
      → length xs ≤ m → list_all one xs ≡ true → list_all two xs ≡ true → EachNext P seen xs
  few-each n one two is seen [] m e few p q = tt
  few-each n one two is seen (x ∷ xs) m e few p q =
      let a = and_parts (one x) (list_all one xs) p in
      let b = and_parts (two x) (list_all two xs) q in
      let grown = length-append seen (x ∷ []) in
      (is seen x (omega arith) a.0 b.0, few-each n one two is (seen ++ x ∷ []) xs (m - 1) (omega arith) (omega arith) a.1 b.1)
