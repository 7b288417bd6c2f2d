-- The places of pairs, once a pair is put last or taken out.
use Rattle.std.proofs.Common.{◌≡◌, ◌≢◌, ◌⊎◌, inl, inr, ◌∙◌, ℕ, zero, suc, ◌+◌, ◌<◌, Bool, true, false, cond, List, [], ◌∷◌, ◌++◌, length}
use Rattle.std.proofs.Common.{refl, sym, ap, subst, Option, Some, None, arith}
use Rattle.std.specs.Prelude.{◌||◌, ◌&&◌, not, is_some, slice_get, IfSome}
use Rattle.std.proofs.lemmas.Bool.{cases_Bool, cases_eq, false_from_ne_true}
use Rattle.std.proofs.lemmas.Option.{slice_get_within}
use Rattle.ring_names.specs.declared.ids.Slot.{Slot}
use Rattle.ring_hints.specs.declared.kept_for.KeptFor.{KeptFor}
use Rattle.ring_hints.specs.Numbered.{ArePlaces}
use Rattle.ring_hints.specs.Views.{is_of, in_order, pair_of}
use Rattle.ring_hints.proofs.KeeperSets.{pair_is, pair_same, at_place, only_where}

same_or_apart : (a b : KeptFor) → (a ≡ b) ⊎ (is_of a b.keeper.0 b.slot ≡ false)
same_or_apart a b = elim (cases_Bool (is_of a b.keeper.0 b.slot)) [ inl y ↦ inl (pair_is a b y) | inr n ↦ inr n ]

itself : (a b : KeptFor) → a ≡ b → is_of a b.keeper.0 b.slot ≡ true
itself a b e = subst (λ (c : KeptFor). is_of a c.keeper.0 c.slot ≡ true) e (pair_same a)

-- pairs that have other numbers are not the same
other_pairs : (f : KeptFor → Option ℕ) (p q : KeptFor) (m n : ℕ) → f p ≡ Some m → f q ≡ Some n → m ≢ n → is_of p q.keeper.0 q.slot ≡ false
other_pairs f p q m n e h ne = elim (same_or_apart p q) [ inl same ↦ absurd (ne (let k = ap f same in cc)) | inr other ↦ other ]

-- and pairs that are not the same have other places
other_places : (ps : List KeptFor) (p q : KeptFor) (m n : ℕ) → slice_get ps m ≡ Some p → slice_get ps n ≡ Some q → is_of p q.keeper.0 q.slot ≡ false → m ≢ n
other_places ps p q m n e h other k = let l = subst (λ (j : ℕ). slice_get ps j ≡ Some p) k e in let same : p ≡ q = cc in let y = itself p q same in cc

-- ---- a pair is in the list exactly if it has a number

place_of : (p : KeptFor) (ps : List KeptFor) → in_order p.keeper.0 p.slot ps ≡ true → (n : ℕ) × (slice_get ps n ≡ Some p)
place_of p [] h = absurd cc
place_of p (q ∷ qs) h = elim (same_or_apart p q) [
  | inl e ↦ (0, ap (λ (r : KeptFor). Some r) (sym e))
  | inr n ↦ (let later = place_of p qs (sym (ap (λ (b : Bool). b || in_order p.keeper.0 p.slot qs) n) ∙ h) in (suc later.0, later.1))
]

pub listed : (f : KeptFor → Option ℕ) (ps : List KeptFor) → ArePlaces f ps → (p : KeptFor) → in_order p.keeper.0 p.slot ps ≡ is_some (f p)
listed f ps are p = by_number (f p) refl
  where
    there : (n : ℕ) → slice_get ps n ≡ Some p → in_order p.keeper.0 p.slot ps ≡ true
    there n e = let h = subst (λ (o : Option KeptFor). IfSome o (λ q. in_order q.keeper.0 q.slot ps ≡ true)) e (at_place ps n) in h

    by_number : (o : Option ℕ) → f p ≡ o → in_order p.keeper.0 p.slot ps ≡ is_some o
    by_number None e = false_from_ne_true (in_order p.keeper.0 p.slot ps) (λ h. let at = place_of p ps h in let n = (are p at.0).1 at.1 in cc)
    by_number (Some n) e = there n ((are p n).0 e)

-- ---- a pair is put last

last_at : (ps : List KeptFor) (q : KeptFor) → slice_get (ps ++ q ∷ []) (length ps) ≡ Some q
last_at [] q = refl
last_at (p ∷ ps) q = last_at ps q

before_last : (ps : List KeptFor) (q : KeptFor) (n : ℕ) → n ≢ length ps → slice_get (ps ++ q ∷ []) n ≡ slice_get ps n
before_last [] q zero ne = absurd (ne refl)
before_last [] q (suc n) ne = refl
before_last (p ∷ ps) q zero ne = refl
before_last (p ∷ ps) q (suc n) ne = before_last ps q n (λ e. ne (ap (λ (k : ℕ). suc k) e))

pub put_last : (f g : KeptFor → Option ℕ) (ps qs : List KeptFor) (pair : KeptFor) → ArePlaces f ps → in_order pair.keeper.0 pair.slot ps ≡ false
    → qs ≡ ps ++ pair ∷ [] → ((p : KeptFor) → g p ≡ cond (is_of pair p.keeper.0 p.slot) (Some (length ps)) (f p)) → ArePlaces g qs
put_last f g ps qs pair are new is now p n = (number, place)
  where
    here : pair ≡ p → g p ≡ Some (length ps)
    here e = now p ∙ ap (λ (b : Bool). cond b (Some (length ps)) (f p)) (itself pair p e)

    other : is_of pair p.keeper.0 p.slot ≡ false → g p ≡ f p
    other e = now p ∙ ap (λ (b : Bool). cond b (Some (length ps)) (f p)) e

    at_end : slice_get qs (length ps) ≡ Some pair
    at_end = ap (λ (l : List KeptFor). slice_get l (length ps)) is ∙ last_at ps pair

    before : n ≢ length ps → slice_get qs n ≡ slice_get ps n
    before ne = ap (λ (l : List KeptFor). slice_get l n) is ∙ before_last ps pair n ne

    number : g p ≡ Some n → slice_get qs n ≡ Some p
    number h = elim (same_or_apart pair p) [
      | inl e ↦ (
          let last : length ps ≡ n = (let k = here e in cc) in
          subst (λ (k : ℕ). slice_get qs k ≡ Some p) last (at_end ∙ ap (λ (q : KeptFor). Some q) e))
      | inr e ↦ (
          let was = (are p n).0 (sym (other e) ∙ h) in
          let within = slice_get_within ps n p was in
          before (λ k. omega arith) ∙ was)
    ]

    place : slice_get qs n ≡ Some p → g p ≡ Some n
    place h = elim (cases_eq n (length ps)) [
      | inl e ↦ (
          let l = subst (λ (k : ℕ). slice_get qs k ≡ Some p) e h in
          let same : pair ≡ p = (cc at_end) in
          here same ∙ ap (λ (k : ℕ). Some k) (sym e))
      | inr ne ↦ (
          let was = (are p n).1 (sym (before ne) ∙ h) in
          elim (same_or_apart pair p) [
            | inl e ↦ absurd (let there = listed f ps are pair in let same = ap f e in cc)
            | inr e ↦ other e ∙ was
          ])
    ]

-- ---- a pair is taken out, and the last one gets its number

-- the pair had the number i, which the last one has now, and all others have what they had
pub record TakesOut (f g : KeptFor → Option ℕ) (ps qs : List KeptFor) (pair last : KeptFor) (i : ℕ) : Type 0 where
  pub are : ArePlaces f ps
  pub was : f pair ≡ Some i
  pub long : length qs + 1 ≡ length ps
  pub end : slice_get ps (length qs) ≡ Some last
  pub now : (p : KeptFor) → g p ≡ cond (is_of pair p.keeper.0 p.slot) None (cond (is_of last p.keeper.0 p.slot) (Some i) (f p))

module _ (f g : KeptFor → Option ℕ) (ps qs : List KeptFor) (pair last : KeptFor) (i : ℕ) (t : TakesOut f g ps qs pair last i) where
  at : slice_get ps i ≡ Some pair
  at = (t.are pair i).0 t.was

  end_at : f last ≡ Some (length qs)
  end_at = (t.are last (length qs)).1 t.end

  gone : (p : KeptFor) → pair ≡ p → g p ≡ None
  gone p e = t.now p ∙ ap (λ (b : Bool). cond b None (cond (is_of last p.keeper.0 p.slot) (Some i) (f p))) (itself pair p e)

  stays : (p : KeptFor) → is_of pair p.keeper.0 p.slot ≡ false → g p ≡ cond (is_of last p.keeper.0 p.slot) (Some i) (f p)
  stays p e = t.now p ∙ ap (λ (b : Bool). cond b None (cond (is_of last p.keeper.0 p.slot) (Some i) (f p))) e

  moves : (p : KeptFor) → is_of pair p.keeper.0 p.slot ≡ false → last ≡ p → g p ≡ Some i
  moves p e m = stays p e ∙ ap (λ (b : Bool). cond b (Some i) (f p)) (itself last p m)

  keeps : (p : KeptFor) → is_of pair p.keeper.0 p.slot ≡ false → is_of last p.keeper.0 p.slot ≡ false → g p ≡ f p
  keeps p e m = stays p e ∙ ap (λ (b : Bool). cond b (Some i) (f p)) m

  pub taken_out : (i < length qs → slice_get qs i ≡ Some last) → ((k : ℕ) → k ≢ i → k < length qs → slice_get qs k ≡ slice_get ps k) → ArePlaces g qs
  taken_out moved others p n = (number, place)
    where
      number : g p ≡ Some n → slice_get qs n ≡ Some p
      number h = elim (same_or_apart pair p) [
        | inl e ↦ absurd (let k = gone p e in cc)
        | inr e ↦ elim (same_or_apart last p) [
          | inl m ↦ (
              let same : i ≡ n = (let k = moves p e m in cc) in
              let within = slice_get_within ps i pair at in
              let before = other_places ps pair p i (length qs) at (t.end ∙ ap (λ (q : KeptFor). Some q) m) e in
              let long = t.long in
              subst (λ (j : ℕ). slice_get qs j ≡ Some p) same (moved (omega arith) ∙ ap (λ (q : KeptFor). Some q) m))
          | inr m ↦ (
              let old : slice_get ps n ≡ Some p = (t.are p n).0 (sym (keeps p e m) ∙ h) in
              let within = slice_get_within ps n p old in
              let before = other_places ps last p (length qs) n t.end old m in
              let other = other_places ps pair p i n at old e in
              let long = t.long in
              others n (λ k. other (sym k)) (omega arith) ∙ old)
        ]
      ]

      place : slice_get qs n ≡ Some p → g p ≡ Some n
      place h =
          let within = slice_get_within qs n p h in
          elim (cases_eq n i) [
            | inl e ↦ (
                let m : last ≡ p = (let k = moved (omega arith) in let l = subst (λ (j : ℕ). slice_get qs j ≡ Some p) e h in cc) in
                let left = other_pairs f pair p i (length qs) t.was (ap f (sym m) ∙ end_at) (λ k. omega arith) in
                moves p left m ∙ ap (λ (k : ℕ). Some k) (sym e))
            | inr ne ↦ (
                let old = (t.are p n).1 (sym (others n ne within) ∙ h) in
                let left = other_pairs f pair p i n t.was old (λ k. ne (sym k)) in
                let back = other_pairs f last p (length qs) n end_at old (λ k. omega arith) in
                keeps p left back ∙ old)
          ]

  -- those that are left are the others
  pub others_left : ArePlaces g qs → (x : ℕ) (s : Slot) → in_order x s qs ≡ (not (is_of pair x s) && in_order x s ps)
  others_left left x s =
      let p = pair_of x s in
      let is_left = listed g qs left p ∙ ap is_some (t.now p) in
      let was_there = ap (λ (b : Bool). not (is_of pair x s) && b) (listed f ps t.are p) in
      is_left ∙ test (is_of pair x s) (is_of last x s) (f p) (λ h. ap f (sym (pair_is last p h)) ∙ end_at) ∙ sym was_there
    where
      test : (b d : Bool) (o : Option ℕ) → (d ≡ true → o ≡ Some (length qs)) → is_some (cond b None (cond d (Some i) o)) ≡ (not b && is_some o)
      test true d o h = refl
      test false true o h = sym (ap is_some (h refl))
      test false false o h = refl

  pub one_less : length qs + cond (in_order pair.keeper.0 pair.slot ps) 1 0 ≡ length ps
  one_less = ap (λ (b : Bool). length qs + cond b 1 0) (listed f ps t.are pair ∙ ap is_some t.was) ∙ t.long

-- ---- a pair is not there

module _ (f : KeptFor → Option ℕ) (ps : List KeptFor) (pair : KeptFor) (are : ArePlaces f ps) (was : f pair ≡ None) where
  absent : in_order pair.keeper.0 pair.slot ps ≡ false
  absent = listed f ps are pair ∙ ap is_some was

  pub none_left_out : (x : ℕ) (s : Slot) → in_order x s ps ≡ (not (is_of pair x s) && in_order x s ps)
  none_left_out x s = test (is_of pair x s) (in_order x s ps) (only_where pair (λ y t. in_order y t ps) absent x s)
    where
      test : (b c : Bool) → (b ≡ true → c ≡ false) → c ≡ (not b && c)
      test true c h = h refl
      test false c h = refl

  pub none_less : length ps + cond (in_order pair.keeper.0 pair.slot ps) 1 0 ≡ length ps
  none_less = ap (λ (b : Bool). length ps + cond b 1 0) absent ∙ omega arith
