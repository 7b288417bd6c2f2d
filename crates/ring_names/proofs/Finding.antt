-- What finds the numbers of bytes, once it has taken in one more.
use Rattle.std.proofs.Common.{◌≡◌, ◌∙◌, ◌⊎◌, inl, inr, ◌<◌, ◌+◌, ℕ, suc, zero, List, [], ◌∷◌, ◌++◌, length, Option, Some, None, refl, sym, ap, subst, arith}
use Rattle.std.specs.Prelude.{slice_get}
use Rattle.std.specs.Str.{bytes_eq}
use Rattle.std.proofs.lemmas.Bool.{cases_Bool}
use Rattle.ring_names.specs.AtBytes.{value_at, value_in}
use Rattle.ring_names.specs.Finding.{IsKept, FindsBelow, IsSame, Knows, TakesNoted, TakesOther}
use Rattle.ring_names.specs.Lists.{AllNew}
use Rattle.ring_names.specs.Names.{place}
use Rattle.ring_names.specs.Noted.{IsNoted}
use Rattle.ring_names.specs.declared.finder.Finder.{Finder}
use Rattle.ring_names.specs.declared.noted.Noted.{Noted}
use Rattle.ring_names.proofs.AtBytes.{bytes_same}
use Rattle.ring_names.proofs.Places.{all-new-push, get-place, place-get}

-- below the next number
pub below_next : (m n : ℕ) → m < n + 1 → (m < n) ⊎ (m ≡ n)
below_next m zero h = inr (omega (arith, h))
below_next zero (suc n) h = inl (omega arith)
below_next (suc m) (suc n) h = elim (below_next m n (omega (arith, h))) [ inl less ↦ inl (omega (arith, less)) | inr same ↦ inr (omega (arith, same)) ]

pub same_some : {A : Type 0} (x y : A) → Some x ≡ Some y → x ≡ y
same_some x y e = cc

-- of a list of different bytes, each have one number
pub one_number : (list : List (List ℕ)) (m n : ℕ) (bytes : List ℕ) → AllNew [] list → slice_get list m ≡ Some bytes → slice_get list n ≡ Some bytes → m ≡ n
one_number list m n bytes new h k = same_some m n (sym (place-get list m bytes new h) ∙ place-get list n bytes new k)

-- ---- one more bytes at the end of a list

pub at-front : (xs : List (List ℕ)) (x : List ℕ) (n : ℕ) (y : List ℕ) → slice_get xs n ≡ Some y → slice_get (xs ++ x ∷ []) n ≡ Some y
at-front [] x n y h = absurd cc
at-front (z ∷ zs) x zero y h = h
at-front (z ∷ zs) x (suc n) y h = at-front zs x n y h

pub at-end : (xs : List (List ℕ)) (x : List ℕ) → slice_get (xs ++ x ∷ []) (length xs) ≡ Some x
at-end [] x = refl
at-end (z ∷ zs) x = at-end zs x

pub front-or-end : (xs : List (List ℕ)) (x : List ℕ) (n : ℕ) (y : List ℕ) → slice_get (xs ++ x ∷ []) n ≡ Some y → (slice_get xs n ≡ Some y) ⊎ ((n ≡ length xs) × (y ≡ x))
front-or-end [] x zero y h = inr (refl, cc)
front-or-end [] x (suc n) y h = absurd cc
front-or-end (z ∷ zs) x zero y h = inl h
front-or-end (z ∷ zs) x (suc n) y h = elim (front-or-end zs x n y h) [ inl front ↦ inl front | inr last ↦ inr (omega (arith, last.0), last.1) ]

-- ---- one more beside the table

pub kept-other : (table : List Noted) (a b : Finder) (list : List (List ℕ)) (bytes : List ℕ) (n : ℕ) → AllNew [] list → slice_get list n ≡ Some bytes → TakesOther a b bytes n → (m : ℕ) (bs : List ℕ) → slice_get list m ≡ Some bs → IsKept table a bs m → IsKept table b bs m
kept-other table a b list bytes n new at takes m bs is kept = elim kept [
  | inl noted ↦ inl noted
  | inr value ↦ inr (elim (cases_Bool (bytes_eq bytes bs)) [
    | inl same ↦
        let e = bytes_same bytes bs same in
        let number = one_number list m n bytes new (is ∙ ap (λ (x : List ℕ). Some x) (sym e)) at in
        subst (λ (x : List ℕ). value_at b.others x ≡ Some m) e (takes.puts.here ∙ ap (λ (k : ℕ). Some k) (sym number))
    | inr other ↦ takes.puts.others bs other ∙ value
  ])
]

pub knows-other : (a b : Finder) (list : List (List ℕ)) (bytes : List ℕ) (n : ℕ) → Knows a list → slice_get list n ≡ Some bytes → TakesOther a b bytes n → Knows b list
knows-other a b list bytes n knows at takes = record {
  new = knows.new;
  all = λ m bs is. subst (λ (t : List Noted). IsKept t b bs m) (sym takes.table) (kept-other a.table.items a b list bytes n knows.new at takes m bs is (knows.all m bs is));
  others = λ m bs value. elim (cases_Bool (bytes_eq bytes bs)) [
    | inl same ↦
        let e = bytes_same bytes bs same in
        let number = same_some m n (sym value ∙ ap (λ (x : List ℕ). value_at b.others x) (sym e) ∙ takes.puts.here) in
        ap (λ (k : ℕ). slice_get list k) number ∙ at ∙ ap (λ (x : List ℕ). Some x) e
    | inr other ↦ knows.others m bs (sym (takes.puts.others bs other) ∙ value)
  ];
}

-- ---- the next of the list

absent_at : (list : List (List ℕ)) (bytes : List ℕ) (n : ℕ) → AllNew [] list → place list bytes ≡ None → slice_get list n ≡ Some bytes → ⊥
absent_at list bytes n new absent at = absurd (let found = place-get list n bytes new at in cc)

pub knows-noted : (a b : Finder) (list : List (List ℕ)) (bytes : List ℕ) → Knows a list → place list bytes ≡ None → TakesNoted a b bytes (length list) → Knows b (list ++ bytes ∷ [])
knows-noted a b list bytes knows absent takes = record {
  new = all-new-push [] list bytes knows.new absent;
  all = λ m bs is. elim (front-or-end list bytes m bs is) [
    | inl front ↦ elim (knows.all m bs front) [
      | inl noted ↦ inl (takes.kept bs m noted)
      | inr value ↦ inr (ap (λ es. value_in es bs) takes.others ∙ value)
    ]
    | inr last ↦ inl (rw (last.0, last.1) takes.here)
  ];
  others = λ m bs value. at-front list bytes m bs (knows.others m bs (ap (λ es. value_in es bs) (sym takes.others) ∙ value));
}

pub knows-next : (a b : Finder) (list : List (List ℕ)) (bytes : List ℕ) → Knows a list → place list bytes ≡ None → TakesOther a b bytes (length list) → Knows b (list ++ bytes ∷ [])
knows-next a b list bytes knows absent takes = record {
  new = all-new-push [] list bytes knows.new absent;
  all = λ m bs is. elim (front-or-end list bytes m bs is) [
    | inl front ↦ elim (knows.all m bs front) [
      | inl noted ↦ inl (subst (λ (t : List Noted). IsNoted t bs m) (sym takes.table) noted)
      | inr value ↦ inr (elim (cases_Bool (bytes_eq bytes bs)) [
        | inl same ↦ absurd (absent_at list bytes m knows.new absent (front ∙ ap (λ (x : List ℕ). Some x) (sym (bytes_same bytes bs same))))
        | inr other ↦ takes.puts.others bs other ∙ value
      ])
    ]
    | inr last ↦ inr (rw (last.0, last.1) takes.puts.here)
  ];
  others = λ m bs value. elim (cases_Bool (bytes_eq bytes bs)) [
    | inl same ↦
        let e = bytes_same bytes bs same in
        let number = same_some m (length list) (sym value ∙ ap (λ (x : List ℕ). value_at b.others x) (sym e) ∙ takes.puts.here) in
        ap (λ (k : ℕ). slice_get (list ++ bytes ∷ []) k) number ∙ at-end list bytes ∙ ap (λ (x : List ℕ). Some x) e
    | inr other ↦ at-front list bytes m bs (knows.others m bs (sym (takes.puts.others bs other) ∙ value))
  ];
}

-- ---- what is not found

place_or : (o : Option ℕ) → (o ≡ None) ⊎ ((n : ℕ) × (o ≡ Some n))
place_or None = inl refl
place_or (Some n) = inr (n, refl)

pub not-found : (a : Finder) (list : List (List ℕ)) (bytes : List ℕ) → Knows a list → ((n : ℕ) → IsNoted a.table.items bytes n → slice_get list n ≡ Some bytes → ⊥) → value_at a.others bytes ≡ None → place list bytes ≡ None
not-found a list bytes knows unnoted other = elim (place_or (place list bytes)) [
  | inl none ↦ none
  | inr found ↦
      let at = get-place list found.0 bytes found.1 in
      elim (knows.all found.0 bytes at) [
        | inl noted ↦ absurd (unnoted found.0 noted at)
        | inr value ↦ absurd (let e : None ≡ Some found.0 = sym other ∙ value in cc)
      ]
]

-- ---- what stays, and a table that takes the place of another

pub knows-same : (a b : Finder) (list : List (List ℕ)) → IsSame a b → Knows a list → Knows b list
knows-same a b list same knows = record {
  new = knows.new;
  all = λ m bs is. elim (knows.all m bs is) [
    | inl noted ↦ inl (subst (λ (t : List Noted). IsNoted t bs m) (sym same.table) noted)
    | inr value ↦ inr (ap (λ es. value_in es bs) same.others ∙ value)
  ];
  others = λ m bs value. knows.others m bs (ap (λ es. value_in es bs) (sym same.others) ∙ value);
}

pub below-noted : (old new : List Noted) (a : Finder) (list : List (List ℕ)) (bytes : List ℕ) (n : ℕ) → slice_get list n ≡ Some bytes → IsNoted new bytes n → ((bs : List ℕ) (m : ℕ) → IsNoted old bs m → IsNoted new bs m) → FindsBelow old a list n → FindsBelow new a list (n + 1)
below-noted old new a list bytes n at noted kept below m bs less is = elim (below_next m n less) [
  | inl earlier ↦ elim (below m bs earlier is) [ inl was ↦ inl (kept bs m was) | inr value ↦ inr value ]
  | inr last ↦
      let same : bs ≡ bytes = same_some bs bytes (sym is ∙ ap (λ (k : ℕ). slice_get list k) last ∙ at) in
      inl (rw (last, same) noted)
]

pub below-other : (table : List Noted) (a b : Finder) (list : List (List ℕ)) (bytes : List ℕ) (n : ℕ) → AllNew [] list → slice_get list n ≡ Some bytes → TakesOther a b bytes n → FindsBelow table a list n → FindsBelow table b list (n + 1)
below-other table a b list bytes n new at takes below m bs less is = elim (below_next m n less) [
  | inl earlier ↦ kept-other table a b list bytes n new at takes m bs is (below m bs earlier is)
  | inr last ↦
      let same : bs ≡ bytes = same_some bs bytes (sym is ∙ ap (λ (k : ℕ). slice_get list k) last ∙ at) in
      inr (rw (last, same) takes.puts.here)
]
