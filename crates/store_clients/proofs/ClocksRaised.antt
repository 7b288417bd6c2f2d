-- Clocks that are raised to others, one after the other.
use Rattle.std.proofs.Common.{◌≡◌, ◌⊎◌, inl, inr, ◌∙◌, ℕ, ◌≤◌, List, [], ◌∷◌, length, refl, sym, ap, subst, arith, eqb-true}
use Rattle.std.specs.Prelude.{max, Option, Some, None}
use Rattle.std.proofs.lemmas.Bool.{or_cases}
use Rattle.ring_names.specs.Lists.{has}
use Rattle.ring_names.proofs.Logic.{max_either}
use Rattle.ring_clock.specs.declared.entry.Entry.{Entry}
use Rattle.ring_clock.specs.Clock.{counter, IsAtMost}
use Rattle.ring_clock.proofs.Causing.{has_first, has_later}
use Rattle.ring_versions.specs.declared.version.Version.{Version}
use Rattle.ring_versions.specs.Versions.{IsIn}
use Rattle.store_parts.specs.Found.{IsJoinOfFound}
use Rattle.ring_versions.specs.Raised.{RaisesTo, IsClockIn}
use Rattle.store_clients.specs.Clocks.{IsFoundClock}

-- new is raised to these clocks, but for some that are left
pub record RaisedBut (old : List Entry) (These Left : List Entry → Type 0) (new : List Entry) : Type 0 where
  pub left : (c : List Entry) → Left c → These c
  pub before : IsAtMost old new
  pub above : (c : List Entry) → These c → Left c ⊎ IsAtMost c new
  pub from : (w : ℕ) → (counter new w ≡ counter old w) ⊎ ((c : List Entry) × These c × (counter c w ≡ counter new w))

pub raised_none : (old : List Entry) (These : List Entry → Type 0) → RaisedBut old These These old
raised_none old These = record { left = λ c h. h; before = λ w. omega arith; above = λ c h. inl h; from = λ w. inl refl }

pub raised_more : (old mid new : List Entry) (These Left Now Less : List Entry → Type 0) → ((c : List Entry) → Now c → Left c) → ((c : List Entry) → Less c → Left c) → ((c : List Entry) → Left c → Now c ⊎ Less c)
    → RaisesTo mid Now new → RaisedBut old These Left mid → RaisedBut old These Less new
raised_more old mid new These Left Now Less some less parts raise r = record {
  left = λ c h. r.left c (less c h);
  before = λ w. (let a = r.before w in let b = raise.before w in omega arith);
  above = λ c h. elim (r.above c h) [
    | inl left ↦ elim (parts c left) [ inl now ↦ inr (raise.above c now) | inr later ↦ inl later ]
    | inr under ↦ inr (λ w. (let a = under w in let b = raise.before w in omega arith))
  ];
  from = λ w. elim (raise.from w) [
    | inl same ↦ elim (r.from w) [
      | inl was ↦ inl (same ∙ was)
      | inr x ↦ inr (x.0, x.1, x.2 ∙ sym same)
    ]
    | inr x ↦ inr (x.0, r.left x.0 (some x.0 x.1), x.2)
  ];
}

pub raised_all : (old new : List Entry) (These Left : List Entry → Type 0) → ((c : List Entry) → Left c → ⊥) → RaisedBut old These Left new → RaisesTo old These new
raised_all old new These Left none r = record {
  before = r.before;
  above = λ c h. elim (r.above c h) [ inl left ↦ absurd (none c left) | inr under ↦ under ];
  from = r.from;
}

-- ---- one clock

pub raises_one : (old new c : List Entry) → ((w : ℕ) → counter new w ≡ max (counter old w) (counter c w)) → RaisesTo old (λ d. c ≡ d) new
raises_one old new c raise = record {
  before = λ w. (let a = raise w in omega arith);
  above = λ d is w. subst (λ (x : List Entry). counter x w ≤ counter new w) is (let a = raise w in omega arith);
  from = λ w. elim (max_either (counter old w) (counter c w)) [
    | inl t ↦ inl (raise w ∙ t)
    | inr t ↦ inr (c, refl, sym (raise w ∙ t))
  ];
}

-- ---- clocks of versions

-- ---- clocks of what gets found

pub none_found : (found : ℕ → List Version) (seen : List ℕ) → length seen ≡ 0 → (c : List Entry) → IsFoundClock found seen c → ⊥
none_found found [] e c h = absurd (let f = h.2 in cc)
none_found found (g ∷ gs) e c h = absurd (omega arith)

pub get_raised : (old mid new : List Entry) (found : ℕ → List Version) (seen rest later : List ℕ) (g : ℕ) → rest ≡ g ∷ later → RaisesTo mid (IsClockIn (found g)) new
    → RaisedBut old (IsFoundClock found seen) (IsFoundClock found rest) mid → RaisedBut old (IsFoundClock found seen) (IsFoundClock found later) new
get_raised old mid new found seen rest later g is raise r =
    raised_more old mid new (IsFoundClock found seen) (IsFoundClock found rest) (IsClockIn (found g)) (IsFoundClock found later)
    (λ c h. subst (λ (xs : List ℕ). IsFoundClock found xs c) (sym is) (g, h.0, has_first g later, h.1, h.2))
    (λ c h. subst (λ (xs : List ℕ). IsFoundClock found xs c) (sym is) (h.0, h.1, has_later h.0 g later h.2, h.3, h.4))
    (λ c h. (
    let front = subst (λ (xs : List ℕ). IsFoundClock found xs c) is h in
    elim (or_cases _ (has front.0 later) front.2) [
      | inl same ↦ inl (front.1, subst (λ (n : ℕ). IsIn front.1 (found n)) (eqb-true front.0 g same) front.3, front.4)
      | inr more ↦ inr (front.0, front.1, more, front.3, front.4)
    ]))
    raise r

-- ---- the join of all

-- no counter of the least clock is above none
pub least_none : (c : List Entry) → c ≡ [] → (w : ℕ) → counter c w ≡ 0
least_none c is w = ap (λ (d : List Entry). counter d w) is

pub joined_found : (clock : ℕ → List Entry) (found : ℕ → List Version) (seen : List ℕ) (last : Option ℕ) (first d : List Entry) → first ≡ [] → last ≡ None → RaisesTo first (IsFoundClock found seen) d
    → IsJoinOfFound clock found seen last d
joined_found clock found seen last first d start none r = record {
  above = λ c h. elim h [ inl x ↦ r.above c (x.0, x.1, x.2, x.3, x.4) | inr x ↦ absurd (let f = x.1 in cc) ];
  from = λ w. elim (r.from w) [
    | inl same ↦ inl (same ∙ least_none first start w)
    | inr x ↦ inr (x.0, inl x.1, x.2)
  ];
}

pub joined_last : (clock : ℕ → List Entry) (found : ℕ → List Version) (seen : List ℕ) (last : Option ℕ) (put : ℕ) (first mid d : List Entry) → first ≡ [] → last ≡ Some put → RaisesTo first (IsFoundClock found seen) mid
    → ((w : ℕ) → counter d w ≡ max (counter mid w) (counter (clock put) w)) → IsJoinOfFound clock found seen last d
joined_last clock found seen last put first mid d start is r raise =
    let one = raises_one mid d (clock put) raise in
    record {
      above = λ c h. elim h [
        | inl x ↦ (λ w. (let a = r.above c (x.0, x.1, x.2, x.3, x.4) w in let b = one.before w in omega arith))
        | inr x ↦ one.above c (let same : put ≡ x.0 = (let f = x.1 in cc) in ap clock same ∙ x.2)
      ];
      from = λ w. elim (one.from w) [
        | inl same ↦ elim (r.from w) [
          | inl was ↦ inl (same ∙ was ∙ least_none first start w)
          | inr x ↦ inr (x.0, inl x.1, x.2 ∙ sym same)
        ]
        | inr x ↦ inr (x.0, inr (put, is, x.1), x.2)
      ];
    }
