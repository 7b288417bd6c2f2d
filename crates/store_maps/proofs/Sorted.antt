-- Entries whose keys ascend: the place of a key, and what is written, put in or taken out there.
use Rattle.std.proofs.Common.{◌≡◌, ◌≢◌, ◌∙◌, ◌≤◌, ◌<◌, ℕ, zero, suc, true, false, cond, List, [], ◌∷◌, length, insert, get_or, slice_set, refl, sym, ap, subst, Option, Some, None, Result, Ok, Err, IfOk, IfErr, arith}
use Rattle.std.specs.BTreeMap.{BTreeMap, UpdatesBy}
use Rattle.std.specs.Cmp.{IsTotalOrder, alike_right, tied_back, tied_itself}
use Rattle.std.specs.List.{AllByRecursion, remove}
use Rattle.std.specs.List.Sorted.{IsStrictlySortedBy, IsBinarySearchResult, IsSearchInRange}
use Rattle.std.specs.Map.{keys_of}
use Rattle.std.specs.Ordering.{is_eq, nat_cmp, ordering_index, ordering_reverse}
use Rattle.std.specs.declared.cmp.Ordering.{Ordering}
use Rattle.std.specs.declared.cmp.Ordering.TheVariants.{Less, Equal, Greater}
use Rattle.std.proofs.lemmas.Cmp.{nat_cmp_total}
use Rattle.std.proofs.lemmas.Map.Lookups.{CmpEqualImpliesEq, exact_unsigned}
use Rattle.store_maps.specs.Sorted.{value_by, Ascends, IsThere, GoesAt, PutsAt}

-- a total order that tells all keys apart
pub record IsKeyOrder {K : Type 0} (cmp : K → K → Ordering) : Type 0 where
  pub total : IsTotalOrder cmp
  pub exact : CmpEqualImpliesEq cmp

pub number_order : IsKeyOrder nat_cmp
number_order = record { total = nat_cmp_total; exact = exact_unsigned }

-- ---- what a binary search found

module _ {K : Type 0} {cmp : K → K → Ordering} (total : IsTotalOrder cmp) where
  above : (a b : K) → cmp a b ≡ Greater → cmp b a ≡ Less
  above a b h = total.antisymm b a ∙ ap ordering_reverse h

  below : (a b : K) → cmp a b ≡ Less → cmp b a ≡ Greater
  below a b h = total.antisymm b a ∙ ap ordering_reverse h

  ranks : (a b key : K) → cmp a b ≡ Less → ordering_index (cmp a key) ≤ ordering_index (cmp b key)
  ranks a b key h = by (cmp b key) refl
    where
      by : (r : Ordering) → r ≡ cmp b key → ordering_index (cmp a key) ≤ ordering_index r
      by Less e = rw (total.trans a b key h (sym e)) (omega arith)
      by Equal e = rw (sym (alike_right total b key a (sym e)) ∙ h) (omega arith)
      by Greater e = most (cmp a key)
        where
          most : (r : Ordering) → ordering_index r ≤ 2
          most Less = omega arith
          most Equal = omega arith
          most Greater = omega arith

module _ {K X : Type 0} {cmp : K → K → Ordering} (total : IsTotalOrder cmp) where
  each_at : (P : K → Type 0) (es : List (K × X)) → AllByRecursion P (keys_of es) → (i : ℕ) (d : K × X) → i < length es → P (get_or es i d).0
  each_at P [] h i d l = absurd (omega arith)
  each_at P (e ∷ es) h zero d l = h.0
  each_at P (e ∷ es) h (suc i) d l = each_at P es h.1 i d (omega arith)

  rises : (key : K) (es : List (K × X)) → Ascends cmp es → (i j : ℕ) (d : K × X) → i ≤ j → j < length es → ordering_index (cmp (get_or es i d).0 key) ≤ ordering_index (cmp (get_or es j d).0 key)
  unfolding IsStrictlySortedBy
  rises key [] s i j d le l = absurd (omega arith)
  rises key (e ∷ es) s zero zero d le l = omega arith
  rises key (e ∷ es) s zero (suc j) d le l = ranks total e.0 (get_or es j d).0 key (each_at (λ y. cmp e.0 y ≡ Less) es s.0 j d (omega arith))
  rises key (e ∷ es) s (suc i) zero d le l = absurd (omega arith)
  rises key (e ∷ es) s (suc i) (suc j) d le l = rises key es s.1 i j d (omega arith) (omega arith)

  there : (key : K) (es : List (K × X)) (i : ℕ) → Ascends cmp es → i < length es → ((d : K × X) → cmp (get_or es i d).0 key ≡ Equal) → IsThere cmp key es i
  unfolding IsStrictlySortedBy
  there key [] i s l h = absurd (omega arith)
  there key (e ∷ es) zero s l h = tied_back total e.0 key (h e)
  there key (e ∷ es) (suc i) s l h = (
    below total e.0 key (sym (alike_right total (get_or es i e).0 key e.0 (h e)) ∙ each_at (λ y. cmp e.0 y ≡ Less) es s.0 i e (omega arith)),
    there key es i s.1 (omega arith) h,
  )

  goes : (key : K) (es : List (K × X)) (i : ℕ) → i ≤ length es → ((k : ℕ) (d : K × X) → 0 ≤ k → k < i → cmp (get_or es k d).0 key ≡ Less)
      → ((k : ℕ) (d : K × X) → i ≤ k → k < length es → cmp (get_or es k d).0 key ≡ Greater) → GoesAt cmp key es i
  goes key [] zero l b a = tt
  goes key [] (suc i) l b a = absurd (omega arith)
  goes key (e ∷ es) zero l b a = above total e.0 key (a 0 e (omega arith) (omega arith))
  goes key (e ∷ es) (suc i) l b a = (
    below total e.0 key (b 0 e (omega arith) (omega arith)),
    goes key es i (omega arith) (λ k d low high. b (suc k) d (omega arith) (omega arith)) (λ k d low high. a (suc k) d (omega arith) (omega arith)),
  )

  pub searched : (key : K) (es : List (K × X)) (r : Result ℕ ℕ) → Ascends cmp es → IsSearchInRange r (length es) → IsBinarySearchResult (λ e. cmp e.0 key) es r → IfOk r (IsThere cmp key es) × IfErr r (GoesAt cmp key es)
  searched key es (Ok i) s within at = (there key es i s within at, tt)
  searched key es (Err i) s within at = (tt, let parts = at (rises key es s) in goes key es i within parts.0 parts.1)

-- ---- places are within the entries

pub within : {K X : Type 0} (cmp : K → K → Ordering) (key : K) (es : List (K × X)) (i : ℕ) → IsThere cmp key es i → i < length es
within cmp key [] i h = absurd h
within cmp key (e ∷ es) zero h = omega arith
within cmp key (e ∷ es) (suc i) h = let less = within cmp key es i h.1 in omega arith

pub at_most : {K X : Type 0} (cmp : K → K → Ordering) (key : K) (es : List (K × X)) (i : ℕ) → GoesAt cmp key es i → i ≤ length es
at_most cmp key [] zero h = omega arith
at_most cmp key [] (suc i) h = absurd h
at_most cmp key (e ∷ es) zero h = omega arith
at_most cmp key (e ∷ es) (suc i) h = let less = at_most cmp key es i h.1 in omega arith

-- ---- one key and all others

module _ {K : Type 0} {cmp : K → K → Ordering} (o : IsKeyOrder cmp) where
  pub tied : (k : K) → is_eq (cmp k k) ≡ true
  tied k = ap is_eq (tied_itself o.total k)

  pub apart : (a b : K) → a ≢ b → is_eq (cmp a b) ≡ false
  apart a b ne = by (cmp a b) refl
    where
      by : (r : Ordering) → r ≡ cmp a b → is_eq r ≡ false
      by Less e = refl
      by Equal e = absurd (ne (o.exact a b (sym e)))
      by Greater e = refl

  all_above : (key e : K) (ks : List K) → cmp key e ≡ Less → AllByRecursion (λ y. cmp e y ≡ Less) ks → AllByRecursion (λ y. cmp key y ≡ Less) ks
  all_above key e [] h all = tt
  all_above key e (k ∷ ks) h all = (o.total.trans key e k h all.0, all_above key e ks h all.1)

  pub by_key : (key : K) (P : K → Type 0) → P key → ((k : K) → k ≢ key → P k) → (k : K) → P k
  by_key key P here other k = by (cmp k key) refl
    where
      by : (r : Ordering) → r ≡ cmp k key → P k
      by Less e = other k (λ same. absurd (let t = tied_itself o.total key in let u : cmp key key ≡ cmp k key = ap (λ x. cmp x key) (sym same) in cc))
      by Equal e = subst P (sym (o.exact k key (sym e))) here
      by Greater e = other k (λ same. absurd (let t = tied_itself o.total key in let u : cmp key key ≡ cmp k key = ap (λ x. cmp x key) (sym same) in cc))

-- ---- what is read, written, put in and taken out at a place

module _ {K X : Type 0} {cmp : K → K → Ordering} (o : IsKeyOrder cmp) where
  -- a key that is below all is none of them
  pub none_later : (key : K) (es : List (K × X)) → AllByRecursion (λ y. cmp key y ≡ Less) (keys_of es) → value_by cmp es key ≡ None
  none_later key [] all = refl
  none_later key (e ∷ es) all = rw (ap is_eq all.0) (none_later key es all.1)

  -- the first entry is looked at before the others
  pub first_is : (e : K × X) (es : List (K × X)) → value_by cmp (e ∷ es) e.0 ≡ Some e.1
  first_is e es = rw (tied o e.0) refl

  pub later_is : (e : K × X) (es : List (K × X)) (k : K) → k ≢ e.0 → value_by cmp (e ∷ es) k ≡ value_by cmp es k
  later_is e es k ne = rw (apart o k e.0 ne) refl

  pub read_there : (key : K) (es : List (K × X)) (i : ℕ) (e : K × X) → IsThere cmp key es i → get_or es i e ≡ e → value_by cmp es key ≡ Some e.1
  read_there key [] i e h at = absurd h
  read_there key (d ∷ es) zero e h at = rw (ap is_eq h) (ap (λ (x : K × X). Some x.1) at)
  read_there key (d ∷ es) (suc i) e h at = rw (ap is_eq h.0) (read_there key es i e h.1 at)

  pub read_missing : (key : K) (es : List (K × X)) (i : ℕ) → Ascends cmp es → GoesAt cmp key es i → value_by cmp es key ≡ None
  unfolding IsStrictlySortedBy
  read_missing key [] i s h = refl
  read_missing key (e ∷ es) zero s h = rw (ap is_eq h) (none_later key es (all_above o key e.0 (keys_of es) h s.0))
  read_missing key (e ∷ es) (suc i) s h = rw (ap is_eq h.0) (read_missing key es i s.1 h.1)

  -- a fact of the entry's value and later entries, of one more before them
  behind : (e : K × X) (es fs : List (K × X)) (key : K) (v : X) → cmp key e.0 ≡ Greater → PutsAt cmp es fs key v → PutsAt cmp (e ∷ es) (e ∷ fs) key v
  behind e es fs key v h p = record {
    here = rw (ap is_eq h) p.here;
    others = λ k ne. ap (λ (x : Option X). cond (is_eq (cmp k e.0)) (Some e.1) x) (p.others k ne);
  }

  pub written : (key : K) (es : List (K × X)) (i : ℕ) (e : K × X) (v : X) → IsThere cmp key es i → e ≡ get_or es i e → PutsAt cmp es (slice_set es i (e.0, v)) key v
  written key [] i e v h at = absurd h
  written key (d ∷ es) zero e v h at =
      let is : e.0 ≡ key = ap (λ (x : K × X). x.0) at ∙ sym (o.exact key d.0 h) in
      record {
        here = rw (is, tied o key) refl;
        others = λ k ne. later_is (e.0, v) es k (λ same. ne (same ∙ is)) ∙ sym (later_is d es k (λ same. ne (same ∙ sym (o.exact key d.0 h))));
      }
  written key (d ∷ es) (suc i) e v h at = behind d es (slice_set es i (e.0, v)) key v h.0 (written key es i e v h.1 at)

  keys_stay : (es : List (K × X)) (i : ℕ) (e : K × X) (v : X) → e ≡ get_or es i e → keys_of (slice_set es i (e.0, v)) ≡ keys_of es
  keys_stay [] i e v at = refl
  keys_stay (d ∷ es) zero e v at = ap (λ (x : K × X). x.0 ∷ keys_of es) at
  keys_stay (d ∷ es) (suc i) e v at = ap (λ (ks : List K). d.0 ∷ ks) (keys_stay es i e v at)

  pub order_written : (es : List (K × X)) (i : ℕ) (e : K × X) (v : X) → e ≡ get_or es i e → Ascends cmp es → Ascends cmp (slice_set es i (e.0, v))
  order_written es i e v at = subst (IsStrictlySortedBy cmp) (sym (keys_stay es i e v at))

  pub put_in : (key : K) (v : X) (es : List (K × X)) (i : ℕ) → GoesAt cmp key es i → PutsAt cmp es (insert es i (key, v)) key v
  put_in key v [] zero h = record { here = first_is (key, v) []; others = later_is (key, v) [] }
  put_in key v [] (suc i) h = absurd h
  put_in key v (e ∷ es) zero h = record { here = first_is (key, v) (e ∷ es); others = later_is (key, v) (e ∷ es) }
  put_in key v (e ∷ es) (suc i) h = behind e es (insert es i (key, v)) key v h.0 (put_in key v es i h.1)

  pub there_in : (key : K) (v : X) (es : List (K × X)) (i : ℕ) → GoesAt cmp key es i → IsThere cmp key (insert es i (key, v)) i
  there_in key v [] zero h = tied_itself o.total key
  there_in key v [] (suc i) h = absurd h
  there_in key v (e ∷ es) zero h = tied_itself o.total key
  there_in key v (e ∷ es) (suc i) h = (h.0, there_in key v es i h.1)

  all_with : (P : K → Type 0) (key : K) (v : X) (es : List (K × X)) (i : ℕ) → P key → AllByRecursion P (keys_of es) → AllByRecursion P (keys_of (insert es i (key, v)))
  all_with P key v es zero p a = (p, a)
  all_with P key v [] (suc i) p a = (p, tt)
  all_with P key v (e ∷ es) (suc i) p a = (a.0, all_with P key v es i p a.1)

  pub order_in : (key : K) (v : X) (es : List (K × X)) (i : ℕ) → Ascends cmp es → GoesAt cmp key es i → Ascends cmp (insert es i (key, v))
  unfolding IsStrictlySortedBy
  order_in key v [] zero s h = (tt, tt)
  order_in key v [] (suc i) s h = absurd h
  order_in key v (e ∷ es) zero s h = ((h, all_above o key e.0 (keys_of es) h s.0), s)
  order_in key v (e ∷ es) (suc i) s h = (all_with (λ y. cmp e.0 y ≡ Less) key v es i (above o.total key e.0 h.0) s.0, order_in key v es i s.1 h.1)

  -- what is left after the entry at the place is taken out
  pub record TakesOut (es fs : List (K × X)) (key : K) : Type 0 where
    pub gone : value_by cmp fs key ≡ None
    pub others : (k : K) → k ≢ key → value_by cmp fs k ≡ value_by cmp es k

  pub taken_out : (key : K) (es : List (K × X)) (i : ℕ) → Ascends cmp es → IsThere cmp key es i → TakesOut es (remove es i) key
  unfolding IsStrictlySortedBy
  taken_out key [] i s h = absurd h
  taken_out key (e ∷ es) zero s h = record {
    gone = subst (λ k. value_by cmp es k ≡ None) (sym (o.exact key e.0 h)) (none_later e.0 es s.0);
    others = λ k ne. sym (later_is e es k (λ same. ne (same ∙ sym (o.exact key e.0 h))));
  }
  taken_out key (e ∷ es) (suc i) s h = let later = taken_out key es i s.1 h.1 in record {
    gone = rw (ap is_eq h.0) later.gone;
    others = λ k ne. ap (λ (x : Option X). cond (is_eq (cmp k e.0)) (Some e.1) x) (later.others k ne);
  }

  all_without : (P : K → Type 0) (es : List (K × X)) (i : ℕ) → AllByRecursion P (keys_of es) → AllByRecursion P (keys_of (remove es i))
  all_without P [] zero a = tt
  all_without P [] (suc i) a = tt
  all_without P (e ∷ es) zero a = a.1
  all_without P (e ∷ es) (suc i) a = (a.0, all_without P es i a.1)

  pub order_out : (es : List (K × X)) (i : ℕ) → Ascends cmp es → Ascends cmp (remove es i)
  unfolding IsStrictlySortedBy
  order_out [] zero s = tt
  order_out [] (suc i) s = tt
  order_out (e ∷ es) zero s = s.1
  order_out (e ∷ es) (suc i) s = (all_without (λ y. cmp e.0 y ≡ Less) es i s.0, order_out es i s.1)

  -- what an ordered map has after a change at one key
  pub puts_at : (key : K) (m n : BTreeMap K X) (v : X) → UpdatesBy cmp (cmp key) m n (Some v) → PutsAt cmp m.entries n.entries key v
  puts_at key m n v u = record { here = u.1; others = λ k ne. u.2 k (apart o key k (λ same. ne (sym same))) }

-- a put to entries that read the same
pub put_after : {K X : Type 0} {cmp : K → K → Ordering} (es fs gs : List (K × X)) (key : K) (v : X) → ((k : K) → value_by cmp fs k ≡ value_by cmp es k) → PutsAt cmp fs gs key v → PutsAt cmp es gs key v
put_after es fs gs key v same p = record { here = p.here; others = λ k ne. p.others k ne ∙ same k }
