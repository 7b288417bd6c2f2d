-- The join of the clocks of versions.
use Rattle.std.proofs.Common.{◌≡◌, ◌⊎◌, inl, inr, ◌∙◌, ℕ, ◌≤◌, List, [], ◌∷◌, ◌++◌, Result, Ok, Err, IfOk, refl, sym, subst, arith}
use Rattle.std.specs.Prelude.{max}
use Rattle.ring_names.proofs.Logic.{max_either}
use Rattle.ring_clock.specs.declared.entry.Entry.{Entry}
use Rattle.ring_clock.specs.Clock.{counter, IsAtMost}
use Rattle.ring_versions.specs.declared.version.Version.{Version}
use Rattle.ring_versions.specs.Versions.{IsIn, Covers, IsMerge}
use Rattle.ring_versions.specs.Parts.{IsFresh, IsReordered}
use Rattle.ring_versions.specs.Raised.{RaisesTo, IsClockIn}
use Rattle.ring_versions.proofs.Reordered.{turned, reordered_again}
use Rattle.ring_versions.proofs.Members.{in_first, in_second, in_either}

join_both : (xs ys vs : List Version) (c d e : List Entry) → vs ≡ xs ++ ys → RaisesTo [] (IsClockIn xs) c → RaisesTo [] (IsClockIn ys) d → ((w : ℕ) → counter e w ≡ max (counter c w) (counter d w)) → RaisesTo [] (IsClockIn vs) e
join_both xs ys vs c d e is a b raise =
    let to : (x : Version) → IsIn x (xs ++ ys) → IsIn x vs = λ x h. subst (λ (zs : List Version). IsIn x zs) (sym is) h in
    record {
      before = λ w. omega arith;
      above = λ k h w. (let r = raise w in elim (in_either h.0 xs ys (subst (λ (zs : List Version). IsIn h.0 zs) is h.1)) [
        | inl front ↦ (let u = a.above k (h.0, front, h.2) w in omega arith)
        | inr back ↦ (let u = b.above k (h.0, back, h.2) w in omega arith)
      ]);
      from = λ w. elim (max_either (counter c w) (counter d w)) [
        | inl t ↦ elim (a.from w) [ inl none ↦ inl (raise w ∙ t ∙ none) | inr x ↦ inr (x.0, (x.1.0, to x.1.0 (in_first x.1.0 xs ys x.1.1), x.1.2), x.2 ∙ sym t ∙ sym (raise w)) ]
        | inr t ↦ elim (b.from w) [ inl none ↦ inl (raise w ∙ t ∙ none) | inr x ↦ inr (x.0, (x.1.0, to x.1.0 (in_second x.1.0 xs ys x.1.1), x.1.2), x.2 ∙ sym t ∙ sym (raise w)) ]
      ];
    }

-- the joins of two lists join to the join of both
pub joined : {E : Type 0} (r : Result (List Entry) E) (c d : List Entry) (xs ys vs : List Version) → vs ≡ xs ++ ys → RaisesTo [] (IsClockIn xs) c → RaisesTo [] (IsClockIn ys) d
    → IfOk r (λ e. (w : ℕ) → counter e w ≡ max (counter c w) (counter d w)) → IfOk r (RaisesTo [] (IsClockIn vs))
joined (Err e) c d xs ys vs is a b raise = tt
joined (Ok e) c d xs ys vs is a b raise = join_both xs ys vs c d e is a b raise

pub below_join : (c : List Entry) (vs : List Version) → RaisesTo [] (IsClockIn vs) c → (v : Version) → IsIn v vs → IsAtMost v.clock c
below_join c vs j v h = j.above v.clock (v, h, refl)

-- the join of versions is that of those which stay where the others go that they cover
join_kept : (c : List Entry) (olds fresh stay : List Version) → IsFresh fresh olds stay → RaisesTo [] (IsClockIn (olds ++ fresh)) c → RaisesTo [] (IsClockIn (fresh ++ stay)) c
join_kept c olds fresh stay k j =
    let back : (v : Version) → IsIn v (fresh ++ stay) → IsIn v (olds ++ fresh) = λ v h. elim (in_either v fresh stay h) [
      | inl new ↦ in_second v olds fresh new
      | inr old ↦ in_first v olds fresh (k.drawn v old)
    ] in
    let stands : (d : List Entry) (w : ℕ) (v : Version) → IsIn v (fresh ++ stay) → IsAtMost d v.clock → counter d w ≡ counter c w → (e : List Entry) × IsClockIn (fresh ++ stay) e × (counter e w ≡ counter c w) = λ d w v at le e.
    (v.clock, (v, at, refl), (let up = le w in let down = below_join c (olds ++ fresh) j v (back v at) w in omega arith)) in
    record {
      before = λ w. omega arith;
      above = λ d h. j.above d (h.0, back h.0 h.1, h.2);
      from = λ w. elim (j.from w) [
        | inl none ↦ inl none
        | inr x ↦ elim (in_either x.1.0 olds fresh x.1.1) [
          | inl old ↦ inr (elim (k.covers x.0 (x.1.0, old, λ u. subst (λ (d : List Entry). counter x.0 u ≤ counter d u) (sym x.1.2) (omega arith))) [
            | inl v ↦ stands x.0 w v.0 (in_first v.0 fresh stay v.1) v.2 x.2
            | inr v ↦ stands x.0 w v.0 (in_second v.0 fresh stay v.1) v.2 x.2
          ])
          | inr new ↦ inr (x.0, (x.1.0, in_first x.1.0 fresh stay new, x.1.2), x.2)
        ]
      ];
    }

-- and that of the same versions in another order
pub join_reordered : (c : List Entry) (xs ys : List Version) → IsReordered xs ys → RaisesTo [] (IsClockIn xs) c → RaisesTo [] (IsClockIn ys) c
join_reordered c xs ys r j = record {
  before = j.before;
  above = λ d h. j.above d (h.0, r.back h.0 h.1, h.2);
  from = λ w. elim (j.from w) [ inl none ↦ inl none | inr x ↦ inr (x.0, (x.1.0, r.there x.1.0 x.1.1, x.1.2), x.2) ];
}

-- so the join of the held ones and that of the fresh ones join to the merge's
pub join_left : (c d e : List Entry) (olds fresh left made : List Version) → IsFresh fresh olds left → IsReordered (left ++ fresh) made → RaisesTo [] (IsClockIn olds) c → RaisesTo [] (IsClockIn fresh) d
    → ((w : ℕ) → counter e w ≡ max (counter c w) (counter d w)) → RaisesTo [] (IsClockIn made) e
join_left c d e olds fresh left made k r a b raise =
    let other = reordered_again (fresh ++ left) (left ++ fresh) made (turned [] fresh left) r in
    join_reordered e (fresh ++ left) made other (join_kept e olds fresh left k (join_both olds fresh (olds ++ fresh) c d e refl a b raise))

-- one version more
pub join_more : (c e : List Entry) (olds made : List Version) (x : Version) → IsReordered (olds ++ x ∷ []) made → RaisesTo [] (IsClockIn olds) c → ((w : ℕ) → counter e w ≡ max (counter c w) (counter x.clock w)) → RaisesTo [] (IsClockIn made) e
join_more c e olds made x r a raise = join_reordered e (olds ++ x ∷ []) made r (join_both olds (x ∷ []) (olds ++ x ∷ []) c x.clock e refl a one raise)
  where
    one : RaisesTo [] (IsClockIn (x ∷ [])) x.clock
    one = record {
      before = λ w. omega arith;
      above = λ d h. subst (λ (k : List Entry). IsAtMost k x.clock) h.2 (elim h.1 [
        | inl is ↦ subst (λ (v : Version). IsAtMost v.clock x.clock) is (λ w. omega arith)
        | inr none ↦ absurd none
      ]);
      from = λ w. inr (x.clock, (x, inl refl, refl), refl);
    }

-- a clock that is raised to the join is raised to all
pub raised_by_join : (old new join : List Entry) (vs : List Version) → ((w : ℕ) → counter new w ≡ max (counter old w) (counter join w)) → RaisesTo [] (IsClockIn vs) join → RaisesTo old (IsClockIn vs) new
raised_by_join old new join vs raise j = record {
  before = λ w. (let r = raise w in omega arith);
  above = λ k h w. (let u = j.above k h w in let r = raise w in omega arith);
  from = λ w. elim (max_either (counter old w) (counter join w)) [
    | inl t ↦ inl (raise w ∙ t)
    | inr t ↦ elim (j.from w) [
      | inl none ↦ inl (let r = raise w in let n : counter join w ≡ 0 = none in omega arith)
      | inr x ↦ inr (x.0, x.1, x.2 ∙ sym t ∙ sym (raise w))
    ]
  ];
}

-- where the join is raised to what comes, it is the join of the merge
pub join_merged : (a b c : List Version) (join more : List Entry) → IsMerge a b c → RaisesTo [] (IsClockIn a) join → RaisesTo join (IsClockIn b) more → RaisesTo [] (IsClockIn c) more
join_merged a b c join more m j r =
    let under : (x : Version) → IsIn x c → IsAtMost x.clock more = λ x h. elim (m.drawn x h) [
      | inl old ↦ (λ w. (let p = j.above x.clock (x, old, refl) w in let q = r.before w in omega arith))
      | inr new ↦ r.above x.clock (x, new, refl)
    ] in
    let kept : (k : List Entry) (w : ℕ) → Covers a k ⊎ Covers b k → counter k w ≡ counter more w → (d : List Entry) × IsClockIn c d × (counter d w ≡ counter more w) = λ k w h e.
    (let v = (m.covers k).1 h in (v.0.clock, (v.0, v.1, refl), (let up = v.2 w in let down = under v.0 v.1 w in omega arith))) in
    record {
      before = λ w. omega arith;
      above = λ k h. subst (λ (d : List Entry). IsAtMost d more) h.2 (under h.0 h.1);
      from = λ w. elim (r.from w) [
        | inl same ↦ elim (j.from w) [
          | inl none ↦ inl (same ∙ none)
          | inr x ↦ inr (kept x.0 w (inl (x.1.0, x.1.1, λ u. (let e = x.1.2 in subst (λ (d : List Entry). counter x.0 u ≤ counter d u) (sym e) (omega arith)))) (x.2 ∙ sym same))
        ]
        | inr x ↦ inr (kept x.0 w (inr (x.1.0, x.1.1, λ u. subst (λ (d : List Entry). counter x.0 u ≤ counter d u) (sym x.1.2) (omega arith))) x.2)
      ];
    }
