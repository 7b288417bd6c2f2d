-- Counters of lists of entries, from the front.
use Rattle.std.proofs.Common.{◌≡◌, ◌≢◌, ℕ, ◌≤◌, List, [], ◌∷◌, ◌∙◌, refl, sym, arith}
use Rattle.std.proofs.lemmas.Bool.{ne_eqb, eq-eqb}
use Rattle.ring_clock.specs.declared.entry.Entry.{Entry}
use Rattle.ring_clock.specs.Clock.{counter, IsAbove, IsClock}
use Rattle.ring_clock.proofs.Counting.{Counts, by_equal}

pub here : (e : Entry) (es : List Entry) (w : ℕ) → e.writer.0 ≡ w → counter (e ∷ es) w ≡ e.counter
here e es w is = rw (eq-eqb e.writer.0 w is) refl

pub there : (e : Entry) (es : List Entry) (w : ℕ) → e.writer.0 ≢ w → counter (e ∷ es) w ≡ counter es w
there e es w apart = rw (ne_eqb e.writer.0 w apart) refl

-- by whether w is the writer in front
pub by_writer : (e : Entry) (w : ℕ) (P : Type 0) → (e.writer.0 ≡ w → P) → (e.writer.0 ≢ w → P) → P
by_writer e w P at apart = by_equal e.writer.0 w P at apart

pub absent : (v : ℕ) (es : List Entry) (w : ℕ) → IsAbove v es → w ≤ v → counter es w ≡ 0
absent v [] w h l = refl
absent v (e ∷ es) w h l = there e es w (λ is. omega (arith, h.0)) ∙ absent v es w h.1 l

-- entries are lists in order of a key
pub entries : Counts (λ e. e.writer.0) (λ w. w) (λ e w. e.counter) IsClock counter
entries = record {
  nil = tt;
  none = λ w. refl;
  split = λ e es h. (h.1, h.2);
  put = λ e es more h above are. (h.0, above, are);
  here = λ e es w h is. here e es w (sym is);
  there = λ e es w h apart. there e es w (λ is. apart (sym is));
  absent = λ v es w above h le. absent v es w above le;
  some = λ e es h. (e.writer.0, refl, h.0);
}
