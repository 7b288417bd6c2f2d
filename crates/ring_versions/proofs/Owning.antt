-- Entries of versions' own writers.
use Rattle.std.proofs.Common.{◌≡◌, inl, inr, ℕ, ◌<◌, ◌≤◌, List, [], ◌∷◌, ◌++◌, subst, arith}
use Rattle.std.specs.Prelude.{max}
use Rattle.std.specs.List.{All}
use Rattle.std.proofs.Math.Nat.{le_trans}
use Rattle.std.proofs.lemmas.List.Elements.{All-contains, Contains-append_left, Contains-push}
use Rattle.ring_clock.specs.declared.entry.Entry.{Entry}
use Rattle.ring_clock.specs.Clock.{counter, IsAtMost}
use Rattle.ring_clock.specs.Groups.{HasGroup}
use Rattle.ring_versions.specs.declared.version.Version.{Version}
use Rattle.ring_versions.specs.Chunks.{AreOf, AreOwns, IsPart}
use Rattle.ring_versions.specs.declared.group.Group.{Group}
use Rattle.ring_versions.specs.Versions.{IsIn, Covers}
use Rattle.ring_versions.proofs.Members.{in_either}

pub own_behind : (vs : List Version) (owns : List Entry) (v : Version) (e : Entry) → e.counter ≤ counter v.clock e.writer.0 → AreOwns vs owns → AreOwns (vs ++ v ∷ []) (owns ++ e ∷ [])
own_behind vs owns v e le each = λ u h. elim (in_either u vs (v ∷ []) h) [
  | inl old ↦ (let o = each u old in (o.0, Contains-append_left owns (e ∷ []) o.0 o.1, o.2))
  | inr last ↦ elim last [
    | inl is ↦ (e, Contains-push owns e, subst (λ (z : Version). e.counter ≤ counter z.clock e.writer.0) is le)
    | inr none ↦ absurd none
  ]
]

-- a join that is raised stays above
pub part_raised : (g : Group) (vs : List Version) (owns old new more : List Entry) → ((w : ℕ) → counter new w ≡ max (counter old w) (counter more w)) → IsPart g vs owns old → IsPart g vs owns new
part_raised g vs owns old new more raise p = record { owned = p.owned; above = λ v h w. (let r = raise w in let a = p.above v h w in omega arith); told = p.told }

-- and one entry more does not hurt
pub part_owns : (g : Group) (vs : List Version) (owns join : List Entry) (e : Entry) → IsPart g vs owns join → IsPart g vs (owns ++ e ∷ []) join
part_owns g vs owns join e p = record { owned = λ v h. (let o = p.owned v h in (o.0, Contains-append_left owns (e ∷ []) o.0 o.1, o.2)); above = p.above; told = p.told }

-- a version more, to which the join was raised
pub part_more : (g h : Group) (vs : List Version) (owns old new : List Entry) (x : Version) (e : Entry) → e.counter ≤ counter x.clock e.writer.0 → AreOf h (vs ++ x ∷ []) → ((w : ℕ) → counter new w ≡ max (counter old w) (counter x.clock w)) → IsPart g vs owns old → IsPart h (vs ++ x ∷ []) (owns ++ e ∷ []) new
part_more g h vs owns old new x e le told raise p = record {
  owned = own_behind vs owns x e le p.owned;
  above = λ v at. elim (in_either v vs (x ∷ []) at) [
    | inl was ↦ (λ w. (let r = raise w in let a = p.above v was w in omega arith))
    | inr last ↦ elim last [ inl is ↦ subst (λ (z : Version). IsAtMost z.clock new) is (λ w. (let r = raise w in omega arith)) | inr none ↦ absurd none ]
  ];
  told = told;
}

-- one version more of a group
pub told_more : (g : ℕ) (vs : List Version) (x : Version) → ((v : Version) → IsIn v vs → HasGroup g v.clock) → HasGroup g x.clock → (v : Version) → IsIn v (vs ++ x ∷ []) → HasGroup g v.clock
told_more g vs x each its v h = elim (in_either v vs (x ∷ []) h) [
  | inl was ↦ each v was
  | inr last ↦ elim last [ inl is ↦ subst (λ (z : Version). HasGroup g z.clock) is its | inr none ↦ absurd none ]
]

-- below each own entry there is no version's clock
pub beyond : (vs : List Version) (owns top : List Entry) → AreOwns vs owns → All (λ (e : Entry). counter top e.writer.0 < e.counter) owns → (v : Version) → IsIn v vs → IsAtMost v.clock top → ⊥
beyond vs owns top each all v h le =
    let o = each v h in
    let less = All-contains (λ (e : Entry). counter top e.writer.0 < e.counter) owns o.0 all o.1 in
    let under = le o.0.writer.0 in
    omega arith

-- so none of them is covered by versions under the clock
pub none_covered : (vs fresh : List Version) (top : List Entry) → ((v : Version) → IsIn v vs → IsAtMost v.clock top → ⊥) → ((v : Version) → IsIn v fresh → IsAtMost v.clock top) → (v : Version) → IsIn v vs → Covers fresh v.clock → ⊥
none_covered vs fresh top beyond under v h c = beyond v h (λ w. le_trans (c.2 w) (under c.0 c.1 w))
