-- A text that is kept and counted grows.
use Rattle.std.proofs.Common.{◌≡◌, ◌⊎◌, inl, inr, ℕ, ◌<◌, ◌+◌, ◌-◌, ◌≤◌, List, ◌++◌, length, ap, ◌∙◌, arith, length-append}
use Rattle.std.specs.Prelude.{min}
use Rattle.std.proofs.lemmas.Bool.{cases_lt}
use Rattle.history_text.specs.declared.room.PartText.{PartText}
use Rattle.history_text.specs.Input.{max_input}
use Rattle.history_text.specs.Room.{Holds, most}

pub grown : (old new : PartText) (mid t s : List ℕ) (n m : ℕ) → Holds old t n → mid ≡ old.text.items ++ s → new.entries ≡ min m most → n ≤ m
    → new.bytes ≡ min (old.bytes + (length mid - length old.text.items)) most → (new.bytes ≤ max_input → new.entries ≤ 1000000 → new.text.items ≡ mid) → Holds new (t ++ s) m
grown old new mid t s n m h is entries less bytes items =
    let size = ap (λ (l : List ℕ). length l) is ∙ length-append old.text.items s in
    let whole = length-append t s in
    let was = h.bytes in
    let had = h.entries in
    record {
      bytes = omega arith;
      entries = entries;
      items = λ a b. items a b ∙ is ∙ ap (λ (l : List ℕ). l ++ s) (h.items (omega arith) (omega arith));
    }

pub small : (p : PartText) (t : List ℕ) (n : ℕ) → Holds p t n → p.bytes ≤ max_input → p.entries ≤ 1000000 → (p.text.items ≡ t) × (p.entries ≡ n) × (length t ≤ max_input) × (n ≤ 1000000)
small p t n h a b =
    let c = h.bytes in
    let d = h.entries in
    (h.items a b, omega arith, omega arith, omega arith)

pub large : (p : PartText) (t : List ℕ) (n : ℕ) → Holds p t n → ((p.bytes ≤ max_input) × (p.entries ≤ 1000000) → ⊥) → (p.entries ≡ min n most) × (p.bytes ≡ min (length t) most) × ((max_input < length t) ⊎ (1000000 < n))
large p t n h never = (h.entries, h.bytes, by (cases_lt max_input (length t)) (cases_lt 1000000 n))
  where
    by : (max_input < length t) ⊎ (length t ≤ max_input) → (1000000 < n) ⊎ (n ≤ 1000000) → (max_input < length t) ⊎ (1000000 < n)
    by (inl a) b = inl a
    by (inr a) (inl b) = inr b
    by (inr a) (inr b) = (let c = h.bytes in let d = h.entries in absurd (never (omega arith, omega arith)))
