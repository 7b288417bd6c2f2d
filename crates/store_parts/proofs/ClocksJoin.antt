-- The clocks of what gets found make the clock of a put that names these gets.
use Rattle.std.proofs.Common.{◌≡◌, inl, inr, ◌∙◌, ℕ, true, List, [], ◌∷◌, refl, sym, ap, subst, arith, eqb-true}
use Rattle.std.specs.Prelude.{◌==◌, Option}
use Rattle.std.proofs.lemmas.Bool.{or_right, or_cases, or_left}
use Rattle.ring_names.specs.Lists.{has}
use Rattle.ring_clock.specs.declared.entry.Entry.{Entry}
use Rattle.ring_clock.specs.Clock.{counter}
use Rattle.ring_clock.specs.Built.{IsJoinOf}
use Rattle.ring_versions.specs.declared.version.Version.{Version}
use Rattle.plan_runs.specs.World.{GetRecord, World}
use Rattle.plan_runs.specs.Succession.{replied, some_replied}
use Rattle.store_parts.specs.Shows.{Shows}
use Rattle.store_parts.specs.Clocks.{IsInputOf}
use Rattle.store_parts.specs.Found.{IsJoinOfFound}
use Rattle.store_parts.proofs.ClocksStay.{some_reply}

-- a put that the reply of one get had is among those that all replies had
in_replies : (gets : List GetRecord) (gs : List ℕ) (g v : ℕ) → has g gs ≡ true → replied gets g v ≡ true → some_replied gets gs v ≡ true
in_replies gets [] g v h e = absurd cc
in_replies gets (x ∷ gs) g v h e = elim (or_cases (g == x) (has g gs) h) [
  | inl f ↦ or_left (replied gets x v) (some_replied gets gs v) (subst (λ (z : ℕ). replied gets z v ≡ true) (eqb-true g x f) e)
  | inr f ↦ or_right (replied gets x v) (some_replied gets gs v) (in_replies gets gs g v f e)
]

pub join_is : (w : World) (clock : ℕ → List Entry) (value : ℕ → List ℕ) (found : ℕ → List Version) (seen : List ℕ) (last : Option ℕ) (d : List Entry) → ((g : ℕ) → has g seen ≡ true → Shows clock value (found g) (replied w.gets g))
    → IsJoinOfFound clock found seen last d → IsJoinOf clock (IsInputOf w seen last) d
join_is w clock value found seen last d shows j = record {
  above = λ v h. elim h [
    | inl e ↦ (
        let g = some_reply w.gets seen v e in
        let c = (shows g.0 g.1).covers v g.2 in
        let up = j.above c.0.clock (inl (g.0, c.0, g.1, c.1, refl)) in
        λ y. (let a = c.2 y in let b = up y in omega arith))
    | inr e ↦ j.above (clock v) (inr (v, e, refl))
  ];
  from = λ y. elim (j.from y) [
    | inl none ↦ inl none
    | inr s ↦ elim s.1 [
      | inl f ↦ (
          let d = (shows f.0 f.2).drawn f.1 f.3 in
          inr (f.1.put, inl (in_replies w.gets seen f.0 f.1.put f.2 d.0), ap (λ (c : List Entry). counter c y) (sym d.1 ∙ f.4) ∙ s.2))
      | inr f ↦ inr (f.0, inr f.1, ap (λ (c : List Entry). counter c y) f.2 ∙ s.2)
    ]
  ];
}
