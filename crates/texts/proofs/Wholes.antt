-- A whole text is read only if it is the spelling of an allowed value, and what is plain.
use Rattle.std.proofs.Common.{◌≡◌, ℕ, ◌<◌, ◌^◌, Bool, true, false, cond, ◌&&◌, ◌||◌, ◌==◌, nat_le, List, [], ◌∷◌, ◌++◌, length, Result, Ok, Err, refl, sym, ap, subst, ◌∙◌, arith, inl, inr}
use Rattle.std.specs.List.{AllByRecursion, list_all}
use Rattle.std.specs.Str.{all_ascii_digits}
use Rattle.std.specs.Char.{is_ascii_digit}
use Rattle.std.specs.Fmt.{decimal}
use Rattle.std.proofs.lemmas.Bool.{leb-true, eqb-true, and_parts, or_cases}
use Rattle.std.proofs.lemmas.Fmt.{digits_decimal}
use Rattle.ring_names.specs.declared.refusal.Refusal.{Refusal}
use Rattle.ring_names.specs.declared.refusal.Refusal.TheVariants.{BadLine}
use Rattle.std.specs.Prelude.{IfOk}
use Rattle.texts.specs.Judging.{Gives}
use Rattle.texts.specs.Parts.{lines_of, text_of}
use Rattle.texts.specs.Name.{is_name_byte, is_name}
use Rattle.texts.specs.Left.{Left, ◌>>=◌, Reads, is_nil, is_nothing, over_at, whole_text}
use Rattle.texts.specs.Laws.{IsPart, SomeLeft, Any, IsPlain, IsPlainLine}
use Rattle.texts.proofs.Cuts.{some_line}
use Rattle.texts.proofs.Items.{bind_ok, ok_is}
use Rattle.texts.proofs.Decimals.{own}
use Rattle.texts.proofs.Texts.{text-lines, lines-text}

nil_is : (f : List ℕ) → is_nil f ≡ true → f ≡ []
nil_is [] e = refl
nil_is (x ∷ xs) e = absurd cc

nothing_is : (x : List (List ℕ)) (xs : List (List (List ℕ))) → is_nothing (x ∷ xs) ≡ true → x ∷ xs ≡ ([] ∷ []) ∷ []
nothing_is [] xs e = absurd cc
nothing_is (f ∷ []) [] e = ap (λ (g : List ℕ). (g ∷ []) ∷ []) (nil_is f e)
nothing_is (f ∷ []) (l ∷ ls) e = absurd cc
nothing_is (f ∷ g ∷ fs) xs e = absurd cc

over_by : (b : Bool) (k : ℕ) (u : Unit {0}) → cond b (Ok tt) (Err (BadLine k)) ≡ Ok u → b ≡ true
over_by true k u e = refl
over_by false k u e = absurd cc

over_is : (s : Left) (u : Unit {0}) → SomeLeft s → over_at s ≡ Ok u → s.lines ≡ ([] ∷ []) ∷ []
over_is s u some e =
    let b = over_by (is_nothing s.lines) s.line u e in
    let c : is_nothing (some.0 ∷ some.1) ≡ true = ap is_nothing (sym some.2) ∙ b in
    some.2 ∙ nothing_is some.0 some.1 c

pub whole-takes : {A : Type 0} (read : Left → Result (A × Left) Refusal) (s : A → List (List (List ℕ))) (P : A → Type 0) → IsPart Any read s P → (text : List ℕ) (v : A) → whole_text read text ≡ Ok v → P v × (text ≡ text_of (s v))
whole-takes read s P part text v e =
    let b = bind_ok (read (record { line = 1; lines = lines_of text })) (λ x. over_at x.1 >>= λ _. Ok x.0) v e in
    let c = bind_ok (over_at b.0.1) (λ _. Ok b.0.0) v b.2 in
    let t = part.takes (record { line = 1; lines = lines_of text }) b.0.1 b.0.0 (some_line text) b.1 in
    let last = over_is b.0.1 c.0 t.2 c.1 in
    let G : _ → Type 0 = λ w. P w × (text ≡ text_of (s w)) in
    subst G (ok_is b.0.0 v c.2) (t.1, text-lines text (s b.0.0) (t.0 ∙ ap (λ (l : List (List (List ℕ))). s b.0.0 ++ l) last))

pub whole-gives : {A : Type 0} (read : Left → Result (A × Left) Refusal) (s : A → List (List (List ℕ))) (P : A → Type 0) → IsPart Any read s P → (text : List ℕ) (v : A) → P v → AllByRecursion IsPlainLine (s v) → text ≡ text_of (s v) → whole_text read text ≡ Ok v
whole-gives read s P part text v p plain e =
    let g = part.gives 1 v ([] ∷ []) [] p tt in
    let lines : lines_of text ≡ s v ++ ([] ∷ []) ∷ [] = ap lines_of e ∙ lines-text (s v) plain in
    rw (lines, g.1) refl

-- what is known of all that reading gives is known of what was returned
pub gives-found : {A : Type 0} (r read : Result A Refusal) (P : A → Type 0) → Gives r read → ((v : A) → read ≡ Ok v → P v) → IfOk r P
gives-found (Ok v) read P g p = p v g
gives-found (Err e) read P g p = tt

pub reads-found : {A : Type 0} (r : Result A Refusal) (new : Left) (read : Result (A × Left) Refusal) (P : A → Type 0) → Reads r new read → ((v : A) (t : Left) → read ≡ Ok (v, t) → P v) → IfOk r P
reads-found (Ok v) new read P g p = p v new g
reads-found (Err e) new read P g p = tt

-- ---- plain fields

digits-plain : (ds : List ℕ) → all_ascii_digits ds ≡ true → IsPlain ds
digits-plain [] e = tt
digits-plain (d ∷ ds) e =
    let p = and_parts (is_ascii_digit d) (all_ascii_digits ds) e in
    (digit-plain d p.0, digits-plain ds p.1)
  where
    digit-plain : (c : ℕ) → is_ascii_digit c ≡ true → 32 < c
    digit-plain c h = omega (arith, leb-true 48 c (and_parts (nat_le 48 c) (nat_le c 57) h).0)

pub decimal-plain : (n : ℕ) → n < 2 ^ 64 → IsPlain (decimal n)
decimal-plain n small = digits-plain (decimal n) (digits_decimal own n small)

abbrev letter : ℕ → Bool
letter b = nat_le 97 b && nat_le b 122

abbrev digit : ℕ → Bool
digit b = nat_le 48 b && nat_le b 57

name-byte-plain : (b : ℕ) → is_name_byte b ≡ true → 32 < b
name-byte-plain b e =
    elim (or_cases (letter b || digit b || (b == 95) || (b == 46) || (b == 58)) (b == 45) e) [
      | inr h ↦ omega (arith, eqb-true b 45 h)
      | inl e1 ↦ elim (or_cases (letter b || digit b || (b == 95) || (b == 46)) (b == 58) e1) [
        | inr h ↦ omega (arith, eqb-true b 58 h)
        | inl e2 ↦ elim (or_cases (letter b || digit b || (b == 95)) (b == 46) e2) [
          | inr h ↦ omega (arith, eqb-true b 46 h)
          | inl e3 ↦ elim (or_cases (letter b || digit b) (b == 95) e3) [
            | inr h ↦ omega (arith, eqb-true b 95 h)
            | inl e4 ↦ elim (or_cases (letter b) (digit b) e4) [
              | inl h ↦ omega (arith, leb-true 97 b (and_parts (nat_le 97 b) (nat_le b 122) h).0)
              | inr h ↦ omega (arith, leb-true 48 b (and_parts (nat_le 48 b) (nat_le b 57) h).0)
            ]
          ]
        ]
      ]
    ]

pub name-bytes-plain : (bs : List ℕ) → list_all is_name_byte bs ≡ true → IsPlain bs
name-bytes-plain [] e = tt
name-bytes-plain (b ∷ bs) e =
    let p = and_parts (is_name_byte b) (list_all is_name_byte bs) e in
    (name-byte-plain b p.0, name-bytes-plain bs p.1)

pub name-plain : (bs : List ℕ) → is_name bs ≡ true → IsPlain bs
name-plain bs e = name-bytes-plain bs (and_parts (nat_le 1 (length bs) && nat_le (length bs) 32) (list_all is_name_byte bs) e).1
