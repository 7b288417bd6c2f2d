-- Owners, row by row, and how many slots a node owns.
use Rattle.std.proofs.Common.{◌≡◌, ◌∙◌, ℕ, suc, zero, ◌+◌, ◌<◌, ◌≤◌, ◌==◌, List, [], ◌∷◌, ◌++◌, length, take, get_or, Option, Some, None, inl, inr, ◌⊎◌, refl, sym, ap, arith}
use Rattle.std.specs.Prelude.{count_by, min}
use Rattle.std.proofs.lemmas.List.{take_more}
use Rattle.ring_names.specs.declared.ids.NodeId.{NodeId}
use Rattle.ring_names.specs.declared.ids.Slot.{Slot}
use Rattle.plan_cover.specs.declared.present.Serving.{Serving}
use Rattle.std.proofs.Math.Nat.{min-eq_left, min-eq_right}
use Rattle.plan_moves.specs.Owners.{row_by, rows_by, owned_by, AreAlike, CountsMore}

pub row-then : (serve : Slot → Serving) (p i : ℕ) → row_by serve p (i + 1) ≡ row_by serve p i ++ (serve (record { partition = p; index = i })).owner ∷ []
unfolding row_by
row-then serve p i = (let e : i + 1 ≡ suc i = omega arith in rw e refl)

pub rows-then : (serve : Slot → Serving) (n p : ℕ) → rows_by serve n (p + 1) ≡ rows_by serve n p ++ row_by serve p n ∷ []
unfolding rows_by
rows-then serve n p = (let e : p + 1 ≡ suc p = omega arith in rw e refl)

row-alike : (f g : Slot → Serving) (p i : ℕ) → ((slot : Slot) → f slot ≡ g slot) → row_by f p i ≡ row_by g p i
unfolding row_by
row-alike f g p zero same = refl
row-alike f g p (suc i) same =
    ap (λ (xs : List NodeId). xs ++ (f (record { partition = p; index = i })).owner ∷ []) (row-alike f g p i same)
    ∙ ap (λ (v : Serving). row_by g p i ++ v.owner ∷ []) (same (record { partition = p; index = i }))

pub rows-alike : (f g : Slot → Serving) (n p : ℕ) → ((slot : Slot) → f slot ≡ g slot) → rows_by f n p ≡ rows_by g n p
unfolding rows_by
rows-alike f g n zero same = refl
rows-alike f g n (suc p) same =
    ap (λ (xs : List (List NodeId)). xs ++ row_by f p n ∷ []) (rows-alike f g n p same) ∙ ap (λ (row : List NodeId). rows_by g n p ++ row ∷ []) (row-alike f g p n same)

pub row-none : (serve : Slot → Serving) (p : ℕ) → row_by serve p 0 ≡ []
unfolding row_by
row-none serve p = refl

pub rows-none : (serve : Slot → Serving) (n : ℕ) → rows_by serve n 0 ≡ []
unfolding rows_by
rows-none serve n = refl

-- ---- counts that stop

split : (a b : ℕ) → (a ≤ b) ⊎ (b < a)
split a b = grind arith

pub alike-more : (c d k : ℕ) → AreAlike c d → AreAlike (c + k) (d + k)
alike-more c d k e = elim (split 4294967295 c) [
  | inl l ↦ (let m : 4294967295 ≤ d = (let f : 4294967295 ≡ min 4294967295 d = sym (min-eq_left l) ∙ e in grind arith) in
      min-eq_left (let w : 4294967295 ≤ c + k = omega arith in w) ∙ sym (min-eq_left (let w : 4294967295 ≤ d + k = omega arith in w)))
  | inr l ↦ (let f : c ≡ min 4294967295 d = sym (min-eq_right (let w : c ≤ 4294967295 = omega arith in w)) ∙ e in
      let same : c ≡ d = grind arith in ap (λ x. min 4294967295 (x + k)) same)
]

pub counts-then : (j k : ℕ) (a b c : Option ℕ) → CountsMore j a b → CountsMore k b c → CountsMore (j + k) a c
counts-then j k None None None p q = tt
counts-then j k (Some a) (Some b) (Some c) p q = q ∙ alike-more b (a + j) k p ∙ ap (λ x. min 4294967295 x) (let w : (a + j) + k ≡ a + (j + k) = omega arith in w)
counts-then j k None (Some b) c p q = absurd p
counts-then j k (Some a) None c p q = absurd p
counts-then j k None None (Some c) p q = absurd q
counts-then j k (Some a) (Some b) None p q = absurd q

owned-append : (x : ℕ) (rows : List (List NodeId)) (row : List NodeId) → owned_by x (rows ++ row ∷ []) ≡ owned_by x rows + count_by (λ y. y.0 == x) row
owned-append x [] row = (let z : count_by (λ y. y.0 == x) row + 0 ≡ 0 + count_by (λ y. y.0 == x) row = omega arith in z)
owned-append x (r ∷ rs) row = (let more = owned-append x rs row in omega arith)

-- the slots of one row more
pub owned-then : (x : ℕ) (rows : List (List NodeId)) (i : ℕ) (d row : List NodeId) → i < length rows → get_or rows i d ≡ row → owned_by x (take (i + 1) rows) ≡ owned_by x (take i rows) + count_by (λ y. y.0 == x) row
owned-then x rows i d row l at = ap (owned_by x) (take_more rows i d l) ∙ owned-append x (take i rows) (get_or rows i d) ∙ ap (λ (r : List NodeId). owned_by x (take i rows) + count_by (λ y. y.0 == x) r) at
