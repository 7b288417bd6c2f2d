-- If versions show puts, their numbers are those of the latest among these puts.
use Rattle.std.proofs.Common.{◌≡◌, ◌⊎◌, inl, inr, ◌∙◌, ℕ, Bool, true, List, [], ◌∷◌, length, sym, subst, arith, eq-eqb}
use Rattle.std.specs.Prelude.{◌↔◌, ◌==◌}
use Rattle.std.proofs.lemmas.Bool.Decides.{eqb_tells}
use Rattle.ring_names.specs.Lists.{has}
use Rattle.ring_clock.specs.declared.entry.Entry.{Entry}
use Rattle.ring_clock.specs.Clock.{IsAtMost}
use Rattle.ring_versions.specs.declared.version.Version.{Version}
use Rattle.ring_versions.specs.Versions.{IsIn, InConflict, IsApart}
use Rattle.ring_versions.specs.Puts.{ArePuts}
use Rattle.ring_versions.proofs.Members.{apart_cross}
use Rattle.plan_runs.specs.World.{World, passing_below}
use Rattle.plan_runs.specs.Succession.{Succeeds, latest}
use Rattle.plan_runs.proofs.Latest.{latest_is, is_latest, latest_ascend}
use Rattle.plan_stage.proofs.Looking.{same-numbers}
use Rattle.plan_runs.proofs.Passing.{below_is, is_below, passing_ascend}
use Rattle.plan_runs.proofs.Succeeding.{not_less}
use Rattle.store_parts.specs.Shows.{Shows, OfOneKey, ArePutsOf}
use Rattle.store_parts.specs.Clocks.{AreClocksOf}
use Rattle.store_parts.proofs.ClocksOrder.{tells}

-- two of them are one, or in conflict
apart_two : (held : List Version) → IsApart held → (x y : Version) → IsIn x held → IsIn y held → (x ≡ y) ⊎ InConflict x y
apart_two [] a x y h k = absurd h
apart_two (z ∷ zs) a x y h k = elim h [
  | inl e ↦ elim k [
    | inl f ↦ inl (sym e ∙ f)
    | inr f ↦ inr (apart_cross (z ∷ []) zs a x y (inl e) f)
  ]
  | inr e ↦ elim k [
    | inl f ↦ (let c = apart_cross (z ∷ []) zs a y x (inl f) e in inr (c.1, c.0))
    | inr f ↦ apart_two zs a.1 x y e f
  ]
]

-- no put that is shown has a greater clock than a version's
no_greater : (clock : ℕ → List Entry) (value : ℕ → List ℕ) (held : List Version) (test : ℕ → Bool) → Shows clock value held test → (x : Version) → IsIn x held → (v : ℕ) → test v ≡ true → IsAtMost x.clock (clock v) → IsAtMost (clock v) x.clock
no_greater clock value held test s x h v t le =
    let c = s.covers v t in
    elim (apart_two held s.apart x c.0 h c.1) [
      | inl e ↦ subst (λ (z : Version). IsAtMost (clock v) z.clock) (sym e) c.2
      | inr two ↦ absurd (two.0 (λ w. (let a = le w in let b = c.2 w in omega arith)))
    ]

module _ (w : World) (clock : ℕ → List Entry) (value : ℕ → List ℕ) (held : List Version) (test : ℕ → Bool) (made : AreClocksOf w clock) (are : ArePutsOf w test) (one_key : OfOneKey w test) (s : Shows clock value held test) where
  abbrev ps : List ℕ
  ps = passing_below (length w.puts) test

  ordered : (u v : ℕ) → test u ≡ true → test v ≡ true → IsAtMost (clock v) (clock u) ↔ Succeeds w u v
  ordered u v h k = tells w clock made u v (are u h) (are v k) (one_key u v h k)

  pub shown_latest : (x : Version) → IsIn x held → has x.put (latest w ps) ≡ true
  shown_latest x h =
      let d = s.drawn x h in
      is_latest w ps x.put (is_below (length w.puts) test x.put (are x.put d.0) d.0) (λ u e ne succeeds.
      let t = (below_is (length w.puts) test u e).1 in
      let le : IsAtMost x.clock (clock u) = subst (λ (c : List Entry). IsAtMost c (clock u)) (sym d.1) ((ordered u x.put t d.0).1 succeeds) in
      let back : IsAtMost (clock u) (clock x.put) = subst (λ (c : List Entry). IsAtMost (clock u) c) d.1 (no_greater clock value held test s x h u t le) in
      let l = not_less w u x.put succeeds in
      let m = not_less w x.put u ((ordered x.put u d.0 t).0 back) in
      let f : (u == x.put) ≡ true = eq-eqb u x.put (omega arith) in
      cc)

  pub latest_shown : (v : ℕ) → has v (latest w ps) ≡ true → (x : Version) × IsIn x held × (x.put ≡ v)
  latest_shown v h =
      let r = latest_is w ps v h in
      let b = below_is (length w.puts) test v r.0 in
      let c = s.covers v b.1 in
      let d = s.drawn c.0 c.1 in
      elim (eqb_tells c.0.put v) [
        | inl t ↦ (c.0, c.1, t.1)
        | inr t ↦ absurd (
            let le : IsAtMost (clock v) (clock c.0.put) = subst (λ (z : List Entry). IsAtMost (clock v) z) d.1 c.2 in
            r.1 c.0.put (is_below (length w.puts) test c.0.put (are c.0.put d.0) d.0) t.0 ((ordered c.0.put v d.0 b.1).0 le))
      ]

  pub numbers : (ns : List ℕ) → ArePuts held ns → ns ≡ latest w ps
  numbers ns p = same-numbers ns (latest w ps) p.rises (latest_ascend w ps ps (passing_ascend 0 (length w.puts) test))
      (λ m e. (let o = p.only m e in subst (λ (z : ℕ). has z (latest w ps) ≡ true) o.2 (shown_latest o.0 o.1)))
      (λ m e. (let x = latest_shown m e in subst (λ (z : ℕ). has z ns ≡ true) x.2 (p.each x.0 x.1)))

  pub shows_latest : Shows clock value held (λ v. has v (latest w ps))
  shows_latest = record {
    drawn = λ x h. (let d = s.drawn x h in (shown_latest x h, d.1, d.2));
    covers = λ v h. s.covers v (below_is (length w.puts) test v (latest_is w ps v h).0).1;
    apart = s.apart;
  }
