-- The parts of a merge, one version after the other.
use Rattle.std.proofs.Common.{◌≡◌, ◌≢◌, ◌∙◌, ◌⊎◌, inl, inr, List, [], ◌∷◌, ◌++◌, refl, sym, ap, subst, arith}
use Rattle.ring_clock.specs.declared.entry.Entry.{Entry}
use Rattle.ring_clock.specs.Clock.{IsAtMost}
use Rattle.ring_versions.specs.declared.version.Version.{Version}
use Rattle.ring_versions.specs.Versions.{IsIn, Covers, IsApart, IsBeside, IsMerge}
use Rattle.ring_versions.specs.declared.fresh.Fresh.{Fresh}
use Rattle.ring_versions.specs.Fresh.{Brings, IsFreshFor, BringsNothing}
use Rattle.ring_versions.specs.Parts.{IsFresh, IsReordered}
use Rattle.ring_versions.proofs.Members.{in_first, in_second, in_either, covers_down, covers_either, covers_first, covers_second, covers_front, apart_join, apart_cross, apart_first, apart_second}
use Rattle.ring_versions.proofs.Reordered.{turned, reordered_again}
use Rattle.std.proofs.lemmas.List.{append_assoc}

-- ---- what is fresh of a list

-- of one version that is covered nothing
pub fresh_old : (held : List Version) (x : Version) → Covers held x.clock → IsFresh held (x ∷ []) []
fresh_old held x old = record {
  drawn = λ v h. absurd h;
  new = λ v h. absurd h;
  covers = λ k h. elim (covers_front x [] k h) [ inl le ↦ inl (covers_down held k x.clock le old) | inr none ↦ absurd none.1 ];
  apart = tt;
}

-- of those that are not all
pub fresh_all : (held versions : List Version) → IsApart versions → ((v : Version) → IsIn v versions → Covers held v.clock → ⊥) → IsFresh held versions versions
fresh_all held versions apart new = record { drawn = λ v h. h; new = new; covers = λ k h. inr h; apart = apart }

pub fresh_new : (held : List Version) (x : Version) → (Covers held x.clock → ⊥) → IsFresh held (x ∷ []) (x ∷ [])
fresh_new held x new = fresh_all held (x ∷ []) (tt, tt) (λ v h. elim h [ inl is ↦ subst (λ (z : Version). Covers held z.clock → ⊥) is new | inr none ↦ absurd none ])

pub fresh_as : (a b held versions out : List Version) → a ≡ held → b ≡ versions → IsFresh a b out → IsFresh held versions out
fresh_as a b held versions out e f h = subst (λ (vs : List Version). IsFresh held vs out) f (subst (λ (vs : List Version). IsFresh vs b out) e h)

pub fresh_reordered : (held versions out other : List Version) → IsReordered out other → IsFresh held versions out → IsFresh held versions other
fresh_reordered held versions out other r f = record {
  drawn = λ v h. f.drawn v (r.back v h);
  new = λ v h. f.new v (r.back v h);
  covers = λ k h. elim (f.covers k h) [ inl old ↦ inl old | inr mine ↦ inr (mine.0, r.there mine.0 mine.1, mine.2) ];
  apart = r.apart f.apart;
}

fresh_both : (held xs ys a b : List Version) → IsApart (xs ++ ys) → IsFresh held xs a → IsFresh held ys b → IsFresh held (xs ++ ys) (a ++ b)
fresh_both held xs ys a b apart f g = record {
  drawn = λ v h. elim (in_either v a b h) [ inl x ↦ in_first v xs ys (f.drawn v x) | inr y ↦ in_second v xs ys (g.drawn v y) ];
  new = λ v h. elim (in_either v a b h) [ inl x ↦ f.new v x | inr y ↦ g.new v y ];
  covers = λ k h. elim (covers_either xs ys k h) [
    | inl x ↦ elim (f.covers k x) [ inl old ↦ inl old | inr mine ↦ inr (covers_first a b k mine) ]
    | inr y ↦ elim (g.covers k y) [ inl old ↦ inl old | inr mine ↦ inr (covers_second a b k mine) ]
  ];
  apart = apart_join a b f.apart g.apart (λ u v h k. apart_cross xs ys apart u v (f.drawn u h) (g.drawn v k));
}

-- what is fresh so far, with a rest to go through
pub record Sifted (held versions rest out : List Version) : Type 0 where
  pub done : List Version
  pub all : done ++ rest ≡ versions
  pub fresh : IsFresh held done out

pub sift_more : (held versions rest out xs later a more : List Version) → IsApart versions → rest ≡ xs ++ later → IsFresh held xs a → IsReordered (out ++ a) more → Sifted held versions rest out → Sifted held versions later more
sift_more held versions rest out xs later a more apart is f r s =
    let all : (s.done ++ xs) ++ later ≡ versions = append_assoc s.done xs later ∙ ap (λ (ys : List Version). s.done ++ ys) (sym is) ∙ s.all in
    let both = apart_first (s.done ++ xs) later (subst IsApart (sym all) apart) in
    record { done = s.done ++ xs; all = all; fresh = fresh_reordered held (s.done ++ xs) (out ++ a) more r (fresh_both held s.done xs out a both s.fresh f) }

pub next_apart : (held versions rest out xs later : List Version) → IsApart versions → rest ≡ xs ++ later → Sifted held versions rest out → IsApart xs
next_apart held versions rest out xs later apart is s = apart_first xs later (subst IsApart is (apart_second s.done rest (subst IsApart (sym s.all) apart)))

-- ---- the merge

-- the fresh ones, and behind them those that they leave of the ones held
pub merge : (olds others fresh stay : List Version) → IsFresh olds others fresh → IsFresh fresh olds stay → IsMerge olds others (fresh ++ stay)
merge olds others fresh stay f k =
    let drawn : (v : Version) → IsIn v (fresh ++ stay) → IsIn v olds ⊎ IsIn v others = λ v h. elim (in_either v fresh stay h) [
      | inl new ↦ inr (f.drawn v new)
      | inr old ↦ inl (k.drawn v old)
    ] in
    let old_too : (c : List Entry) → Covers olds c → Covers (fresh ++ stay) c = λ c h. elim (k.covers c h) [
      | inl new ↦ covers_first fresh stay c new
      | inr old ↦ covers_second fresh stay c old
    ] in
    record {
      drawn = drawn;
      covers = λ c. (
        λ h. elim (drawn h.0 h.1) [ inl old ↦ inl (h.0, old, h.2) | inr new ↦ inr (h.0, new, h.2) ],
        λ h. elim h [
          | inl old ↦ old_too c old
          | inr new ↦ elim (f.covers c new) [ inl old ↦ old_too c old | inr mine ↦ covers_first fresh stay c mine ]
        ],
      );
      apart = apart_join fresh stay f.apart k.apart (λ u v a b. (
        λ le. f.new u a (v, k.drawn v b, le),
        λ le. k.new v b (u, a, le),
      ));
    }

pub merge_reordered : (olds others made other : List Version) → IsReordered made other → IsMerge olds others made → IsMerge olds others other
merge_reordered olds others made other r m = record {
  drawn = λ v h. m.drawn v (r.back v h);
  covers = λ k. (λ h. (m.covers k).0 (h.0, r.back h.0 h.1, h.2), λ h. (let c = (m.covers k).1 h in (c.0, r.there c.0 c.1, c.2)));
  apart = r.apart m.apart;
}

-- those left and the fresh ones, in any order
pub merge_left : (olds others fresh left made : List Version) → IsFresh olds others fresh → IsFresh fresh olds left → IsReordered (left ++ fresh) made → IsMerge olds others made
merge_left olds others fresh left made f k r =
    merge_reordered olds others (fresh ++ left) made (reordered_again (fresh ++ left) (left ++ fresh) made (turned [] fresh left) r) (merge olds others fresh left f k)

-- one version that is in conflict with each
pub merge_one : (olds made : List Version) (x : Version) → IsApart olds → IsBeside olds x.clock → IsReordered (olds ++ x ∷ []) made → IsMerge olds (x ∷ []) made
merge_one olds made x apart beside r = merge_left olds (x ∷ []) (x ∷ []) olds made (fresh_new olds x beside.not_covered) (fresh_all (x ∷ []) olds apart (λ v h covered. elim (covers_front x [] v.clock covered) [
  | inl le ↦ beside.covers_none v h le
  | inr none ↦ absurd none.1
])) r

-- where they leave none, it is the others
pub merge_others : (olds others fresh : List Version) → IsApart others → IsFresh olds others fresh → IsFresh fresh olds [] → IsMerge olds others others
merge_others olds others fresh a f k = record {
  drawn = λ v h. inr h;
  covers = λ c. (
    λ h. inr h,
    λ h. elim h [
      | inl old ↦ elim (k.covers c old) [ inl new ↦ (new.0, f.drawn new.0 new.1, new.2) | inr none ↦ absurd none.1 ]
      | inr new ↦ new
    ],
  );
  apart = a;
}

-- where nothing is fresh, the merge is what was held
pub merge_nothing : (olds others : List Version) → IsApart olds → IsFresh olds others [] → IsMerge olds others olds
merge_nothing olds others a f = record {
  drawn = λ v h. inl h;
  covers = λ k. (λ h. inl h, λ h. elim h [ inl old ↦ old | inr new ↦ elim (f.covers k new) [ inl old ↦ old | inr none ↦ absurd none.1 ] ]);
  apart = a;
}

-- where nothing is held, it is the others
merge_into_none : (others : List Version) → IsApart others → IsMerge [] others others
merge_into_none others a = record {
  drawn = λ v h. inr h;
  covers = λ c. (λ h. inr h, λ h. elim h [ inl none ↦ absurd none.1 | inr new ↦ new ]);
  apart = a;
}

no_versions : (vs : List Version) → ((k : List Entry) → Covers vs k → ⊥) → vs ≡ []
no_versions [] none = refl
no_versions (v ∷ vs) none = absurd (none v.clock (v, inl refl, λ w. omega arith))

pub brings_all : (others : List Version) → IsApart others → Brings [] others others
brings_all others a = record {
  merge = λ some. merge_into_none others a;
  same = λ none. subst (IsMerge [] others) none (merge_into_none others a);
  new = λ some covered. some (no_versions others (λ k h. (covered k h).1));
}

-- where some are fresh
pub brings_merge : (olds others fresh made : List Version) → IsFresh olds others fresh → fresh ≢ [] → IsMerge olds others made → Brings olds others made
brings_merge olds others fresh made f some m = record {
  merge = λ filled. m;
  same = λ none. subst (IsMerge olds others) (none ∙ sym (no_versions olds (λ k h. (subst (λ (vs : List Version). Covers vs k) none ((m.covers k).1 (inl h))).1))) m;
  new = λ filled covered. some (none_new fresh (λ v h. f.new v h (covered v.clock (v, f.drawn v h, λ w. omega arith))));
}
  where
    none_new : (vs : List Version) → ((v : Version) → IsIn v vs → ⊥) → vs ≡ []
    none_new [] none = refl
    none_new (v ∷ vs) none = absurd (none v (inl refl))

pub brings_nothing : (olds others made : List Version) → made ≡ [] → IsApart olds → IsFresh olds others [] → Brings olds others made
brings_nothing olds others made none a f = record {
  merge = λ some. absurd (some none);
  same = λ is. merge_nothing olds others a f;
  new = λ some. absurd (some none);
}

pub merge_with_none : (olds others : List Version) (f : Fresh) → IsApart olds → BringsNothing f → IsFreshFor olds others f → IsMerge olds others olds
merge_with_none olds others f a e for = for.same e

-- ---- one version held, and another one

-- which the one held does not cover
one_new : (h x : Version) → (IsAtMost x.clock h.clock → ⊥) → IsFresh (h ∷ []) (x ∷ []) (x ∷ [])
one_new h x new = fresh_new (h ∷ []) x (λ c. elim (covers_front h [] x.clock c) [ inl le ↦ new le | inr none ↦ absurd none.1 ])

pub one_covered : (h x : Version) (made : List Version) → made ≡ [] → IsAtMost x.clock h.clock → Brings (h ∷ []) (x ∷ []) made
one_covered h x made none le = brings_nothing (h ∷ []) (x ∷ []) made none (tt, tt) (fresh_old (h ∷ []) x (h, inl refl, le))

pub one_covers : (h x : Version) → (IsAtMost x.clock h.clock → ⊥) → IsAtMost h.clock x.clock → Brings (h ∷ []) (x ∷ []) (x ∷ [])
one_covers h x new le =
    let f = one_new h x new in
    brings_merge (h ∷ []) (x ∷ []) (x ∷ []) (x ∷ []) f (λ none. cc) (merge_others (h ∷ []) (x ∷ []) (x ∷ []) (tt, tt) f (fresh_old (x ∷ []) h (x, inl refl, le)))

pub both_stay : (h x : Version) (made : List Version) → (IsAtMost x.clock h.clock → ⊥) → (IsAtMost h.clock x.clock → ⊥) → IsReordered (x ∷ h ∷ []) made → Brings (h ∷ []) (x ∷ []) made
both_stay h x made new old r =
    let f = one_new h x new in
    brings_merge (h ∷ []) (x ∷ []) (x ∷ []) made f (λ none. cc) (merge_reordered (h ∷ []) (x ∷ []) (x ∷ h ∷ []) made r (merge (h ∷ []) (x ∷ []) (x ∷ []) (h ∷ []) f (one_new x h old)))
