-- What a binary search by writer finds among the entries of a clock.
use Rattle.std.proofs.Common.{◌≡◌, ◌≢◌, ◌⊎◌, inl, inr, ℕ, zero, suc, ◌<◌, ◌≤◌, List, [], ◌∷◌, ◌∙◌, length, get_or, Ok, Err, refl, sym, ap, arith}
use Rattle.std.proofs.lemmas.Bool.{cases_lt}
use Rattle.std.specs.List.{AllByRecursion}
use Rattle.std.specs.List.Sorted.{IsBinarySearchResult}
use Rattle.std.specs.Ordering.{nat_cmp, ordering_index}
use Rattle.std.proofs.lemmas.Cmp.{ranked}
use Rattle.std.proofs.lemmas.Bool.Decides.{nat_tests}
use Rattle.ring_clock.specs.declared.entry.Entry.{Entry}
use Rattle.ring_clock.specs.Clock.{counter, IsClock}
use Rattle.ring_clock.proofs.Entries.{here, there}

pub each_at : {A : Type 0} (P : A → Type 0) (xs : List A) → AllByRecursion P xs → (k : ℕ) (d : A) → k < length xs → P (get_or xs k d)
each_at P [] h k d l = absurd (omega arith)
each_at P (x ∷ xs) h zero d l = h.0
each_at P (x ∷ xs) h (suc k) d l = each_at P xs h.1 k d (omega arith)

rise : (es : List Entry) → IsClock es → (i j : ℕ) (d : Entry) → i ≤ j → j < length es → (get_or es i d).writer.0 ≤ (get_or es j d).writer.0
rise [] h i j d le l = absurd (omega arith)
rise (e ∷ es) h zero zero d le l = omega arith
rise (e ∷ es) h zero (suc j) d le l = omega (arith, each_at (λ x. e.writer.0 < x.writer.0) es h.1 j d (omega arith))
rise (e ∷ es) h (suc i) zero d le l = absurd (omega arith)
rise (e ∷ es) h (suc i) (suc j) d le l = rise es h.2 i j d (omega arith) (omega arith)

ranks_rise : (a b w : ℕ) → a ≤ b → ordering_index (nat_cmp a w) ≤ ordering_index (nat_cmp b w)
ranks_rise a b w le = grind (arith, nat_tests)

at : (es : List Entry) (w : ℕ) → IsClock es → (k : ℕ) (d : Entry) → k < length es → (get_or es k d).writer.0 ≡ w → (get_or es k d).counter ≡ counter es w
at [] w h k d l is = absurd (omega arith)
at (e ∷ es) w h zero d l is = sym (here e es w is)
at (e ∷ es) w h (suc k) d l is = at es w h.2 k d (omega arith) is ∙ sym (there e es w (λ x. omega (arith, each_at (λ x. e.writer.0 < x.writer.0) es h.1 k d (omega arith))))

nowhere : (es : List Entry) (w : ℕ) → ((k : ℕ) (d : Entry) → k < length es → (get_or es k d).writer.0 ≢ w) → 0 ≡ counter es w
nowhere [] w h = refl
nowhere (e ∷ es) w h = nowhere es w (λ k d l. h (suc k) d (omega arith)) ∙ sym (there e es w (h zero e (omega arith)))

-- an entry that was looked at has its writer's counter
pub seen : (es : List Entry) (w k : ℕ) (e : Entry) → IsClock es → k < length es → e ≡ get_or es k e → e.writer.0 ≡ w → e.counter ≡ counter es w
seen es w k e h l is of = ap (λ (x : Entry). x.counter) is ∙ at es w h k e l (sym (ap (λ (x : Entry). x.writer.0) is) ∙ of)

-- the entry that was found has the writer's counter
pub found : (es : List Entry) (w k : ℕ) (d : Entry) → IsClock es → k < length es → IsBinarySearchResult (λ e. nat_cmp e.writer.0 w) es (Ok k) → (get_or es k d).counter ≡ counter es w
found es w k d h l r = at es w h k d l (ranked _ w _ (sym (r d)))

-- where none was found no key is the one that was looked for
pub not_at : {A : Type 0} (key : A → ℕ) (xs : List A) (w k : ℕ) → ((i j : ℕ) (d : A) → i ≤ j → j < length xs → key (get_or xs i d) ≤ key (get_or xs j d)) → IsBinarySearchResult (λ x. nat_cmp (key x) w) xs (Err k) → (n : ℕ) (d : A) → n < length xs → key (get_or xs n d) ≢ w
not_at key xs w k rises r n d l is =
    let parts = r (λ i j d le l. ranks_rise _ _ w (rises i j d le l)) in
    elim (cases_lt n k) [
      | inl before ↦ omega (arith, ranked _ w _ (sym (parts.0 n d (omega arith) before)))
      | inr behind ↦ omega (arith, ranked _ w _ (sym (parts.1 n d behind l)))
    ]

-- and the counter is 0
pub not_found : (es : List Entry) (w k : ℕ) → IsClock es → IsBinarySearchResult (λ e. nat_cmp e.writer.0 w) es (Err k) → 0 ≡ counter es w
not_found es w k h r = nowhere es w (not_at (λ e. e.writer.0) es w k (λ i j d le l. rise es h i j d le l) r)
