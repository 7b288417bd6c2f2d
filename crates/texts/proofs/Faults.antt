-- Faults of a line, joined without the values.
use Rattle.std.proofs.Common.{◌≡◌, Ok, Err, Result}
use Rattle.ring_names.specs.declared.refusal.Refusal.{Refusal}
use Rattle.texts.specs.Judging.{both_of, map_ok}

-- the first fault is that of the values
pub fault-of-both : {Z A B : Type 0} (before : Result Z Refusal) (first : Result A Refusal) (second : Result B Refusal) (end : Result (Unit {0}) Refusal) (e : Refusal)
    → map_ok (λ x. x.0) (both_of (both_of (both_of before (map_ok {B = Unit {0}} (λ _. tt) first)) (map_ok {B = Unit {0}} (λ _. tt) second)) end) ≡ Err e
    → map_ok {B = A × B} (λ x. (x.0.0.1, x.0.1)) (both_of (both_of (both_of before first) second) end) ≡ Err e
unfolding both_of
fault-of-both (Ok u) (Ok x) (Ok y) (Ok v) e h = absurd cc
fault-of-both (Ok u) (Ok x) (Ok y) (Err v) e h = cc
fault-of-both (Ok u) (Ok x) (Err y) (Ok v) e h = cc
fault-of-both (Ok u) (Ok x) (Err y) (Err v) e h = cc
fault-of-both (Ok u) (Err x) (Ok y) (Ok v) e h = cc
fault-of-both (Ok u) (Err x) (Ok y) (Err v) e h = cc
fault-of-both (Ok u) (Err x) (Err y) (Ok v) e h = cc
fault-of-both (Ok u) (Err x) (Err y) (Err v) e h = cc
fault-of-both (Err u) (Ok x) (Ok y) (Ok v) e h = cc
fault-of-both (Err u) (Ok x) (Ok y) (Err v) e h = cc
fault-of-both (Err u) (Ok x) (Err y) (Ok v) e h = cc
fault-of-both (Err u) (Ok x) (Err y) (Err v) e h = cc
fault-of-both (Err u) (Err x) (Ok y) (Ok v) e h = cc
fault-of-both (Err u) (Err x) (Ok y) (Err v) e h = cc
fault-of-both (Err u) (Err x) (Err y) (Ok v) e h = cc
fault-of-both (Err u) (Err x) (Err y) (Err v) e h = cc
