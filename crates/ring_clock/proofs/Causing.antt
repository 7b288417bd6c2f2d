-- Clocks that are raised to others, and the order that follows.
use Rattle.std.proofs.Common.{◌≡◌, ◌≢◌, ◌⊎◌, inl, inr, ◌∙◌, ℕ, ◌+◌, ◌<◌, ◌≤◌, true, List, [], ◌∷◌, length, refl, sym, subst, arith}
use Rattle.std.specs.Prelude.{max, ◌==◌, ◌||◌, Option, Some, None}
use Rattle.std.proofs.lemmas.Bool.Decides.{eqb_tells}
use Rattle.std.proofs.lemmas.Bool.{ne_eqb, eq-eqb}
use Rattle.ring_names.specs.Lists.{has}
use Rattle.ring_names.proofs.Logic.{or_true, max_either}
use Rattle.ring_clock.specs.declared.entry.Entry.{Entry}
use Rattle.ring_clock.specs.declared.causes.Cause.{Cause}
use Rattle.ring_clock.specs.Clock.{counter, IsAtMost}
use Rattle.ring_clock.specs.Built.{IsJoinOf, Bumps, IsInput}

front : (v x : ℕ) (xs : List ℕ) → has v (x ∷ xs) ≡ true → (v ≡ x) ⊎ (has v xs ≡ true)
front v x xs h = elim (eqb_tells v x) [ inl t ↦ inl t.1 | inr t ↦ inr (subst (λ b. (b || has v xs) ≡ true) (ne_eqb v x t.1) h) ]

pub has_first : (x : ℕ) (xs : List ℕ) → has x (x ∷ xs) ≡ true
has_first x xs = rw (eq-eqb x x refl) refl

pub has_later : (v x : ℕ) (xs : List ℕ) → has v xs ≡ true → has v (x ∷ xs) ≡ true
has_later v x xs h = rw h (or_true (v == x))

-- the clock is raised to those that were seen, but for the rest
pub record Raised (clock : ℕ → List Entry) (seen rest : List ℕ) (c : List Entry) : Type 0 where
  pub left : (v : ℕ) → has v rest ≡ true → has v seen ≡ true
  pub above : (v : ℕ) → has v seen ≡ true → (has v rest ≡ true) ⊎ IsAtMost (clock v) c
  pub from : (w : ℕ) → (counter c w ≡ 0) ⊎ ((v : ℕ) × (has v seen ≡ true) × (counter (clock v) w ≡ counter c w))

pub raise_at : (old new : List Entry) {a b : List Entry} → a ≡ b → ((w : ℕ) → counter new w ≡ max (counter old w) (counter a w)) → (w : ℕ) → counter new w ≡ max (counter old w) (counter b w)
raise_at old new at raise w = subst (λ (x : List Entry). counter new w ≡ max (counter old w) (counter x w)) at (raise w)

pub raised_none : (clock : ℕ → List Entry) (seen : List ℕ) (c : List Entry) → c ≡ [] → Raised clock seen seen c
raised_none clock seen c is = record {
  left = λ v h. h;
  above = λ v h. inl h;
  from = λ w. inl (subst (λ x. counter x w ≡ 0) (sym is) refl);
}

pub raised_one : (clock : ℕ → List Entry) (seen rest later : List ℕ) (put : ℕ) (old new : List Entry) → rest ≡ put ∷ later → ((w : ℕ) → counter new w ≡ max (counter old w) (counter (clock put) w)) → Raised clock seen rest old → Raised clock seen later new
raised_one clock seen rest later put old new is raise r =
    let up : (v : ℕ) → IsAtMost (clock v) old → IsAtMost (clock v) new = λ v h w. (let a = h w in let b = raise w in omega arith) in
    record {
      left = λ v h. r.left v (subst (λ xs. has v xs ≡ true) (sym is) (has_later v put later h));
      above = λ v h. elim (r.above v h) [
        | inl left ↦ elim (front v put later (subst (λ xs. has v xs ≡ true) is left)) [
          | inl at ↦ inr (λ w. subst (λ u. counter (clock u) w ≤ counter new w) (sym at) (let b = raise w in omega arith))
          | inr more ↦ inl more
        ]
        | inr below ↦ inr (up v below)
      ];
      from = λ w. elim (max_either (counter old w) (counter (clock put) w)) [
        | inl t ↦ elim (r.from w) [
          | inl none ↦ inl (raise w ∙ t ∙ none)
          | inr some ↦ inr (some.0, some.1, some.2 ∙ sym (raise w ∙ t))
        ]
        | inr t ↦ inr (put, r.left put (subst (λ xs. has put xs ≡ true) (sym is) (has_first put later)), sym (raise w ∙ t))
      ];
    }

pub raised_all : (clock : ℕ → List Entry) (seen rest : List ℕ) (c : List Entry) → length rest ≡ 0 → Raised clock seen rest c → IsJoinOf clock (λ v. has v seen ≡ true) c
raised_all clock seen [] c none r = record {
  above = λ v h. elim (r.above v h) [ inl left ↦ absurd cc | inr below ↦ below ];
  from = r.from;
}
raised_all clock seen (x ∷ xs) c none r = absurd (omega arith)

none_is_some : {n : ℕ} → None ≡ Some n → ⊥
none_is_some e = cc

some_is : {m n : ℕ} → Some m ≡ Some n → m ≡ n
some_is e = cc

pub with_none : (clock : ℕ → List Entry) (cause : Cause) (last : Option ℕ) (c : List Entry) → last ≡ None → IsJoinOf clock (λ v. has v cause.seen.items ≡ true) c → IsJoinOf clock (IsInput cause last) c
with_none clock cause last c is all = record {
  above = λ v h. elim h [ inl seen ↦ all.above v seen | inr at ↦ absurd (none_is_some (sym is ∙ at)) ];
  from = λ w. elim (all.from w) [ inl none ↦ inl none | inr some ↦ inr (some.0, inl some.1, some.2) ];
}

pub with_last : (clock : ℕ → List Entry) (cause : Cause) (last : Option ℕ) (put : ℕ) (c new : List Entry) → last ≡ Some put → ((w : ℕ) → counter new w ≡ max (counter c w) (counter (clock put) w)) → IsJoinOf clock (λ v. has v cause.seen.items ≡ true) c → IsJoinOf clock (IsInput cause last) new
with_last clock cause last put c new is raise all = record {
  above = λ v h. elim h [
    | inl seen ↦ (λ w. let a = all.above v seen w in let b = raise w in omega arith)
    | inr at ↦ (λ w. subst (λ u. counter (clock u) w ≤ counter new w) (some_is (sym is ∙ at)) (let b = raise w in omega arith))
  ];
  from = λ w. elim (max_either (counter c w) (counter (clock put) w)) [
    | inl t ↦ elim (all.from w) [
      | inl none ↦ inl (raise w ∙ t ∙ none)
      | inr some ↦ inr (some.0, inl some.1, some.2 ∙ sym (raise w ∙ t))
    ]
    | inr t ↦ inr (put, inr is, sym (raise w ∙ t))
  ];
}

-- one more for the writer is the next clock, and no counter is above the number of puts
pub few_next : (writer n : ℕ) (d c : List Entry) → Bumps writer d c → ((w : ℕ) → counter d w ≤ n) → (w : ℕ) → counter c w ≤ n + 1
few_next writer n d c bump few w = elim (eqb_tells w writer) [
  | inl t ↦ (let at : counter c w ≡ counter d w + 1 = bump w ∙ rw (eq-eqb w writer t.1) refl in let f = few w in omega arith)
  | inr t ↦ (let at : counter c w ≡ counter d w = bump w ∙ rw (ne_eqb w writer t.1) refl in let f = few w in omega arith)
]

-- what follows of a clock from those that it joins
pub record Follows (clock : ℕ → List Entry) (In : ℕ → Type 0) (writer : ℕ) (c : List Entry) : Type 0 where
  pub above : (v : ℕ) → In v → IsAtMost (clock v) c
  pub own : (v : ℕ) → In v → counter (clock v) writer < counter c writer
  pub some : 0 < counter c writer
  pub from : (w : ℕ) → w ≢ writer → (counter c w ≡ 0) ⊎ ((v : ℕ) × In v × (counter (clock v) w ≡ counter c w))

pub follows : (clock : ℕ → List Entry) (In : ℕ → Type 0) (writer : ℕ) (d c : List Entry) → IsJoinOf clock In d → Bumps writer d c → Follows clock In writer c
follows clock In writer d c all bump =
    let own : counter c writer ≡ counter d writer + 1 = bump writer ∙ rw (eq-eqb writer writer refl) refl in
    let other : (w : ℕ) → w ≢ writer → counter c w ≡ counter d w = λ w apart. bump w ∙ rw (ne_eqb w writer apart) refl in
    let more : (w : ℕ) → counter d w ≤ counter c w = λ w. elim (eqb_tells w writer) [
      | inl t ↦ subst (λ u. counter d u ≤ counter c u) (sym t.1) (omega arith)
      | inr t ↦ (let e = other w t.1 in omega arith)
    ] in
    record {
      above = λ v h w. (let a = all.above v h w in let b = more w in omega arith);
      own = λ v h. (let a = all.above v h writer in omega arith);
      some = omega arith;
      from = λ w apart. elim (all.from w) [
        | inl none ↦ inl (other w apart ∙ none)
        | inr some ↦ inr (some.0, some.1, some.2 ∙ sym (other w apart))
      ];
    }
