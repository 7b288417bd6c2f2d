-- Sets of versions that show puts, merged, and under other tests, clocks and values.
use Rattle.std.proofs.Common.{◌≡◌, inl, inr, ◌∙◌, ℕ, ◌<◌, ◌≤◌, Bool, true, false, List, [], ◌∷◌, length, refl, sym, ap, subst, arith, eqb-true, eq-eqb}
use Rattle.std.specs.Prelude.{◌||◌, ◌==◌}
use Rattle.std.proofs.lemmas.Bool.{or_right, or_cases, or_left}
use Rattle.ring_clock.specs.declared.entry.Entry.{Entry}
use Rattle.ring_clock.specs.Clock.{counter, IsAtMost}
use Rattle.ring_clock.specs.Built.{with_clock}
use Rattle.ring_versions.specs.declared.version.Version.{Version}
use Rattle.ring_versions.specs.Versions.{Covers, IsApart, IsMerge}
use Rattle.plan_runs.specs.World.{World}
use Rattle.store_parts.specs.Shows.{Shows, ArePutsOf}

pub same_is_most : (c d : List Entry) → c ≡ d → IsAtMost c d
same_is_most c d e w = subst (λ (z : List Entry). counter c w ≤ counter z w) e (omega arith)

pub merge : (clock : ℕ → List Entry) (value : ℕ → List ℕ) (a b c : List Version) (f g : ℕ → Bool) → Shows clock value a f → Shows clock value b g → IsMerge a b c → Shows clock value c (λ v. f v || g v)
merge clock value a b c f g s t m = record {
  drawn = λ x h. elim (m.drawn x h) [
    | inl first ↦ (let d = s.drawn x first in (or_left (f x.put) (g x.put) d.0, d.1, d.2))
    | inr second ↦ (let d = t.drawn x second in (or_right (f x.put) (g x.put) d.0, d.1, d.2))
  ];
  covers = λ v h. (m.covers (clock v)).1 (elim (or_cases (f v) (g v) h) [ inl e ↦ inl (s.covers v e) | inr e ↦ inr (t.covers v e) ]);
  apart = m.apart;
}

pub none : (clock : ℕ → List Entry) (value : ℕ → List ℕ) → Shows clock value [] (λ v. false)
none clock value = record {
  drawn = λ x h. absurd h;
  covers = λ v h. absurd cc;
  apart = tt;
}

pub one : (clock : ℕ → List Entry) (value : ℕ → List ℕ) (x : Version) → x.clock ≡ clock x.put → x.value ≡ value x.put → Shows clock value (x ∷ []) (λ v. v == x.put)
one clock value x e f = record {
  drawn = λ y h. elim h [
    | inl is ↦ subst (λ (z : Version). ((z.put == x.put) ≡ true) × (z.clock ≡ clock z.put) × (z.value ≡ value z.put)) is (eq-eqb x.put x.put refl, e, f)
    | inr more ↦ absurd more
  ];
  covers = λ v h. (x, inl refl, same_is_most (clock v) x.clock (ap clock (eqb-true v x.put h) ∙ sym e));
  apart = (tt, tt);
}

pub with_none : (held : List Version) → IsApart held → IsMerge held [] held
with_none held a = record {
  drawn = λ x h. inl h;
  covers = λ k. (λ h. inl h, λ h. elim h [ inl c ↦ c | inr c ↦ absurd c.1 ]);
  apart = a;
}

pub other_test : (clock : ℕ → List Entry) (value : ℕ → List ℕ) (held : List Version) (f g : ℕ → Bool) → ((v : ℕ) → f v ≡ g v) → Shows clock value held f → Shows clock value held g
other_test clock value held f g same s = record {
  drawn = λ x h. (let d = s.drawn x h in (sym (same x.put) ∙ d.0, d.1, d.2));
  covers = λ v h. s.covers v (same v ∙ h);
  apart = s.apart;
}

pub other_clock : (clock other : ℕ → List Entry) (value : ℕ → List ℕ) (held : List Version) (test : ℕ → Bool) → ((v : ℕ) → test v ≡ true → other v ≡ clock v) → Shows clock value held test → Shows other value held test
other_clock clock other value held test same s = record {
  drawn = λ x h. (let d = s.drawn x h in (d.0, d.1 ∙ sym (same x.put d.0), d.2));
  covers = λ v h. subst (λ (c : List Entry). Covers held c) (sym (same v h)) (s.covers v h);
  apart = s.apart;
}

pub other_value : (clock : ℕ → List Entry) (value other : ℕ → List ℕ) (held : List Version) (test : ℕ → Bool) → ((v : ℕ) → test v ≡ true → other v ≡ value v) → Shows clock value held test → Shows clock other held test
other_value clock value other held test same s = record {
  drawn = λ x h. (let d = s.drawn x h in (d.0, d.1, d.2 ∙ sym (same x.put d.0)));
  covers = s.covers;
  apart = s.apart;
}

-- each put before n keeps its clock
pub before : (clock : ℕ → List Entry) (n : ℕ) (c : List Entry) (v : ℕ) → v < n → with_clock clock n c v ≡ clock v
before clock n c v l = by (v == n) refl
  where
    by : (b : Bool) → (v == n) ≡ b → with_clock clock n c v ≡ clock v
    by true e = absurd (let s = eqb-true v n e in omega arith)
    by false e = rw e refl

pub new_clock : (w : World) (clock : ℕ → List Entry) (value : ℕ → List ℕ) (c : List Entry) (held : List Version) (test : ℕ → Bool) → ArePutsOf w test → Shows clock value held test → Shows (with_clock clock (length w.puts) c) value held test
new_clock w clock value c held test are s = other_clock clock (with_clock clock (length w.puts) c) value held test (λ v h. before clock (length w.puts) c v (are v h)) s
