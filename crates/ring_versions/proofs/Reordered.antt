-- Lists of versions in another order.
use Rattle.std.proofs.Common.{◌≡◌, ◌∙◌, inl, inr, ℕ, zero, suc, ◌<◌, List, [], ◌∷◌, ◌++◌, length, get_or, refl, sym, ap, subst, arith}
use Rattle.std.proofs.Math.ListN.{set}
use Rattle.std.proofs.lemmas.List.{append_assoc, append-nil}
use Rattle.ring_versions.specs.declared.version.Version.{Version}
use Rattle.ring_versions.specs.Chunks.{all_of}
use Rattle.ring_versions.specs.Parts.{IsReordered}
use Rattle.ring_versions.specs.Versions.{IsIn, IsApart}
use Rattle.ring_versions.proofs.Members.{in_first, in_second, in_either, apart_join, apart_cross, apart_first, apart_second}

pub as_they_were : (xs ys : List Version) → xs ≡ ys → IsReordered xs ys
as_they_were xs ys e = subst (IsReordered xs) e (record { there = λ v h. h; back = λ v h. h; apart = λ a. a })

pub reordered_again : (xs ys zs : List Version) → IsReordered xs ys → IsReordered ys zs → IsReordered xs zs
reordered_again xs ys zs r s = record {
  there = λ v h. s.there v (r.there v h);
  back = λ v h. r.back v (s.back v h);
  apart = λ a. s.apart (r.apart a);
}

-- two lists behind a first change their places
pub turned : (xs ys zs : List Version) → IsReordered ((xs ++ ys) ++ zs) ((xs ++ zs) ++ ys)
turned xs ys zs = record { there = there ys zs; back = there zs ys; apart = apart }
  where
    there : (cs bs : List Version) (v : Version) → IsIn v ((xs ++ cs) ++ bs) → IsIn v ((xs ++ bs) ++ cs)
    there cs bs v h = elim (in_either v (xs ++ cs) bs h) [
      | inl front ↦ elim (in_either v xs cs front) [ inl x ↦ in_first v (xs ++ bs) cs (in_first v xs bs x) | inr c ↦ in_second v (xs ++ bs) cs c ]
      | inr b ↦ in_first v (xs ++ bs) cs (in_second v xs bs b)
    ]

    apart : IsApart ((xs ++ ys) ++ zs) → IsApart ((xs ++ zs) ++ ys)
    apart a =
        let front = apart_first (xs ++ ys) zs a in
        let cross = apart_cross (xs ++ ys) zs a in
        apart_join (xs ++ zs) ys (apart_join xs zs (apart_first xs ys front) (apart_second (xs ++ ys) zs a) (λ u v h k. cross u v (in_first u xs ys h) k)) (apart_second xs ys front)
        (λ u v h k. elim (in_either u xs zs h) [
          | inl x ↦ apart_cross xs ys front u v x k
          | inr z ↦ (let facing = cross v u (in_second v xs ys k) z in (facing.1, facing.0))
        ])

-- so may one that stands in front of others
pub reordered_front : (xs ys zs : List Version) → IsReordered xs ys → IsReordered (xs ++ zs) (ys ++ zs)
reordered_front xs ys zs r = record {
  there = λ v h. elim (in_either v xs zs h) [ inl x ↦ in_first v ys zs (r.there v x) | inr z ↦ in_second v ys zs z ];
  back = λ v h. elim (in_either v ys zs h) [ inl y ↦ in_first v xs zs (r.back v y) | inr z ↦ in_second v xs zs z ];
  apart = λ a. apart_join ys zs (r.apart (apart_first xs zs a)) (apart_second xs zs a) (λ u v h k. apart_cross xs zs a u v (r.back u h) k);
}

-- or behind them
pub reordered_behind : (xs ys zs : List Version) → IsReordered xs ys → IsReordered (zs ++ xs) (zs ++ ys)
reordered_behind xs ys zs r =
    reordered_again (zs ++ xs) (ys ++ zs) (zs ++ ys) (reordered_again (zs ++ xs) (xs ++ zs) (ys ++ zs) (turned [] zs xs) (reordered_front xs ys zs r)) (turned [] ys zs)

pub all_of_both : (cs ds : List (List Version)) → all_of (cs ++ ds) ≡ all_of cs ++ all_of ds
all_of_both [] ds = refl
all_of_both (c ∷ cs) ds = ap (λ (vs : List Version). c ++ vs) (all_of_both cs ds) ∙ sym (append_assoc c (all_of cs) (all_of ds))

-- the versions of one chunk more
pub all_of_more : (cs : List (List Version)) (c : List Version) → all_of (cs ++ c ∷ []) ≡ all_of cs ++ c
all_of_more cs c = all_of_both cs (c ∷ []) ∙ ap (λ (vs : List Version). all_of cs ++ vs) (append-nil c)

-- a version that is put behind those of one chunk
pub put_at : (chunks : List (List Version)) (k : ℕ) (d : List Version) (x : Version) → k < length chunks → IsReordered (all_of chunks ++ x ∷ []) (all_of (set chunks k (get_or chunks k d ++ x ∷ [])))
put_at [] k d x few = absurd (omega arith)
put_at (c ∷ cs) zero d x few = turned c (all_of cs) (x ∷ [])
put_at (c ∷ cs) (suc k) d x few =
    let more = all_of (set cs k (get_or cs k d ++ x ∷ [])) in
    subst (λ (xs : List Version). IsReordered xs (c ++ more)) (sym (append_assoc c (all_of cs) (x ∷ []))) (reordered_behind (all_of cs ++ x ∷ []) more c (put_at cs k d x (omega arith)))

-- of those to be put one more
pub put_more : (first made rest later more : List Version) (x : Version) → rest ≡ x ∷ later → IsReordered (made ++ x ∷ []) more → IsReordered first (made ++ rest) → IsReordered first (more ++ later)
put_more first made rest later more x is r s =
    reordered_again first (made ++ rest) (more ++ later) s
    (subst (λ (xs : List Version). IsReordered xs (more ++ later)) (append_assoc made (x ∷ []) later ∙ ap (λ (xs : List Version). made ++ xs) (sym is)) (reordered_front (made ++ x ∷ []) more later r))

-- others that are put in behind the second of two lists
pub put_behind : (xs ys others more : List Version) → IsReordered (ys ++ others) more → IsReordered ((xs ++ ys) ++ others) (xs ++ more)
put_behind xs ys others more r = subst (λ (vs : List Version). IsReordered vs (xs ++ more)) (sym (append_assoc xs ys others)) (reordered_behind (ys ++ others) more xs r)

-- a chunk behind the first chunks or behind the others
pub first_more : (cs ds : List (List Version)) (c : List Version) → IsReordered ((all_of cs ++ all_of ds) ++ c) (all_of (cs ++ c ∷ []) ++ all_of ds)
first_more cs ds c = subst (λ (vs : List Version). IsReordered ((all_of cs ++ all_of ds) ++ c) (vs ++ all_of ds)) (sym (all_of_more cs c)) (turned (all_of cs) (all_of ds) c)

pub others_more : (cs ds : List (List Version)) (c : List Version) → IsReordered ((all_of cs ++ all_of ds) ++ c) (all_of cs ++ all_of (ds ++ c ∷ []))
others_more cs ds c = as_they_were ((all_of cs ++ all_of ds) ++ c) (all_of cs ++ all_of (ds ++ c ∷ [])) (append_assoc (all_of cs) (all_of ds) c ∙ ap (λ (vs : List Version). all_of cs ++ vs) (sym (all_of_more ds c)))
