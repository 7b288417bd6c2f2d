-- The nodes that keep hints for a slot, one after the other.
use Rattle.std.proofs.Common.{◌≡◌, ◌≢◌, ◌⊎◌, inl, inr, ◌∙◌, ℕ, ◌<◌, ◌≤◌, Bool, true, false, List, [], ◌∷◌, refl, sym, ap, subst, arith}
use Rattle.std.specs.Prelude.{◌==◌, Option, Some, None, IfSome, IfNone, is_some}
use Rattle.std.specs.List.{AllByRecursion}
use Rattle.std.specs.List.Sorted.{IsStrictlySortedBy}
use Rattle.std.specs.declared.cmp.Ordering.TheVariants.{Less}
use Rattle.std.specs.Ordering.{nat_cmp}
use Rattle.std.proofs.lemmas.Bool.{cases_Bool, or_cases}
use Rattle.std.proofs.lemmas.Bool.Decides.{nat_tests}
use Rattle.ring_names.specs.contracts.ids.NodeIdOrd.TheImpl as node_order
use Rattle.ring_names.specs.declared.ids.NodeId.{NodeId}
use Rattle.ring_names.specs.declared.refusal.Refusal.TheVariants.{NodeDown}
use Rattle.ring_clock.specs.declared.entry.Entry.{Entry}
use Rattle.ring_versions.specs.declared.version.Version.{Version}
use Rattle.ring_versions.specs.Versions.{IsIn, Covers, IsApart, IsMerge}
use Rattle.ring_hints.specs.Views.{in_keepers}
use Rattle.ring_hints.proofs.KeeperSets.{equal, left_out}
use Rattle.store_maps.proofs.HoldersChanged.{node_tie}
use Rattle.store_clients.specs.Keepers.{IsFirstDown, MergesOthers}

-- ---- the first that is down, among keepers in order

-- with some keepers left, in order, each of the others is up or has no versions
pub record Passing (up : ℕ → Bool) (held : ℕ → List Version) (keys rest : List NodeId) : Type 0 where
  pub rises : IsStrictlySortedBy ((node_order.ghosts).cmp) rest
  pub passed : (y : ℕ) → in_keepers y keys ≡ true → in_keepers y rest ≡ false → (held y ≡ []) ⊎ (up y ≡ true)

pub passing_more : (up : ℕ → Bool) (held : ℕ → List Version) (keys rest more : List NodeId) (y : NodeId) → rest ≡ y ∷ more → (held y.0 ≡ []) ⊎ (up y.0 ≡ true) → Passing up held keys rest → Passing up held keys more
unfolding IsStrictlySortedBy
passing_more up held keys rest more y is fine p = record {
  rises = (subst (λ (xs : List NodeId). IsStrictlySortedBy ((node_order.ghosts).cmp) xs) is p.rises).1;
  passed = λ x there out. elim (cases_Bool (x == y.0)) [
    | inl same ↦ subst (λ (z : ℕ). (held z ≡ []) ⊎ (up z ≡ true)) (sym (equal x y.0 same)) fine
    | inr apart ↦ p.passed x there (left_out x y rest more is apart out)
  ];
}

less_is : (x y : ℕ) → nat_cmp x y ≡ Less → x < y
less_is x y h = grind (arith, nat_tests)

above : (y : NodeId) (more : List NodeId) (z : ℕ) → AllByRecursion (λ b. (node_order.ghosts).cmp y b ≡ Less) more → in_keepers z more ≡ true → y.0 < z
above y [] z all is = absurd cc
above y (b ∷ bs) z all is = elim (or_cases _ (in_keepers z bs) is) [
  | inl e ↦ subst (λ (x : ℕ). y.0 < x) (sym (equal z b.0 (sym (node_tie z b.0) ∙ e))) (less_is y.0 b.0 all.0)
  | inr e ↦ above y bs z all.1 e
]

-- none of those left is below the first of them
not_below : (y : NodeId) (more : List NodeId) (z : ℕ) → AllByRecursion (λ b. (node_order.ghosts).cmp y b ≡ Less) more → in_keepers z (y ∷ more) ≡ true → y.0 ≤ z
not_below y more z all is = elim (or_cases _ (in_keepers z more) is) [
  | inl e ↦ (let f = equal z y.0 (sym (node_tie z y.0) ∙ e) in omega arith)
  | inr e ↦ (let f = above y more z all e in omega arith)
]

pub passing_stops : (up : ℕ → Bool) (held : ℕ → List Version) (keys rest more : List NodeId) (y : NodeId) → rest ≡ y ∷ more → ((x : ℕ) → in_keepers x keys ≡ false → held x ≡ [])
    → up y.0 ≡ false → (held y.0 ≡ [] → ⊥) → Passing up held keys rest → IsFirstDown up held (Some (NodeDown y.0))
unfolding IsStrictlySortedBy
passing_stops up held keys rest more y is others down some p = (
  y.0,
  refl,
  down,
  some,
  λ z l. elim (cases_Bool (in_keepers z keys)) [
    | inl there ↦ elim (cases_Bool (in_keepers z rest)) [
      | inl left ↦ absurd (
          let all = (subst (λ (xs : List NodeId). IsStrictlySortedBy ((node_order.ghosts).cmp) xs) is p.rises).0 in
          let f = not_below y more z all (sym (ap (in_keepers z) is) ∙ left) in
          omega arith)
      | inr passed ↦ p.passed z there passed
    ]
    | inr absent ↦ inl (others z absent)
  ],
)

-- ---- what they keep, merged

-- with some keepers left, all is drawn from these versions and the keepers'. It covers what these cover and
-- what the other keepers' versions cover
pub record Merging (these : List Version) (keys rest : List NodeId) (others : ℕ → List Version) (all : List Version) : Type 0 where
  pub drawn : (v : Version) → IsIn v all → IsIn v these ⊎ ((x : ℕ) × IsIn v (others x))
  pub mine : (k : List Entry) → Covers these k → Covers all k
  pub theirs : (x : ℕ) (k : List Entry) → in_keepers x keys ≡ true → in_keepers x rest ≡ false → Covers (others x) k → Covers all k
  pub apart : IsApart all

pub merging_none : (these : List Version) (keys : List NodeId) (others : ℕ → List Version) → IsApart these → Merging these keys keys others these
merging_none these keys others apart = record {
  drawn = λ v i. inl i;
  mine = λ k c. c;
  theirs = λ x k there out c. absurd cc;
  apart = apart;
}

pub merging_more : (these : List Version) (keys rest later : List NodeId) (others : ℕ → List Version) (all more : List Version) (y : NodeId) → rest ≡ y ∷ later → IsMerge all (others y.0) more
    → Merging these keys rest others all → Merging these keys later others more
merging_more these keys rest later others all more y is merged g = record {
  drawn = λ v i. elim (merged.drawn v i) [ inl old ↦ g.drawn v old | inr new ↦ inr (y.0, new) ];
  mine = λ k c. (merged.covers k).1 (inl (g.mine k c));
  theirs = λ x k there out c. elim (cases_Bool (x == y.0)) [
    | inl same ↦ (merged.covers k).1 (inr (subst (λ (z : ℕ). Covers (others z) k) (equal x y.0 same) c))
    | inr apart ↦ (merged.covers k).1 (inl (g.theirs x k there (left_out x y rest later is apart out) c))
  ];
  apart = merged.apart;
}

pub merging_all : (these : List Version) (keys rest : List NodeId) (others : ℕ → List Version) (all : List Version) → rest ≡ [] → Merging these keys rest others all → MergesOthers these (λ x. in_keepers x keys) others all
merging_all these keys rest others all is g = record {
  drawn = g.drawn;
  mine = g.mine;
  theirs = λ x k there c. g.theirs x k there (ap (in_keepers x) is) c;
  apart = g.apart;
}

nothing_covers : (held : List Version) (k : List Entry) → held ≡ [] → Covers held k → ⊥
nothing_covers held k is c = (subst (λ (xs : List Version). Covers xs k) is c).1

-- nodes that do not pass have no versions, so all do as well
pub among_all : (these : List Version) (among : ℕ → Bool) (others : ℕ → List Version) (all : List Version) → ((x : ℕ) → among x ≡ false → others x ≡ []) → MergesOthers these among others all
    → MergesOthers these (λ x. true) others all
among_all these among others all none g = record {
  drawn = g.drawn;
  mine = g.mine;
  theirs = λ x k t c. elim (cases_Bool (among x)) [ inl there ↦ g.theirs x k there c | inr absent ↦ absurd (nothing_covers (others x) k (none x absent) c) ];
  apart = g.apart;
}

-- if no node has any, these are all
pub none_among : (these : List Version) (others : ℕ → List Version) → IsApart these → ((x : ℕ) → others x ≡ []) → MergesOthers these (λ x. true) others these
none_among these others apart none = record {
  drawn = λ v i. inl i;
  mine = λ k c. c;
  theirs = λ x k t c. absurd (nothing_covers (others x) k (none x) c);
  apart = apart;
}

-- ---- what a look-up of a keeper's versions says

pub has_some : {X : Type 0} (o : Option X) (f : X → List Version) (held : List Version) → IfSome o (λ v. (f v ≡ held) × (f v ≢ [])) → is_some o ≡ true → held ≡ [] → ⊥
has_some None f held h e none = absurd cc
has_some (Some v) f held h e none = h.1 (h.0 ∙ none)

pub has_none : {X : Type 0} (o : Option X) (held : List Version) → IfNone o (held ≡ []) → is_some o ≡ false → held ≡ []
has_none None held h e = h
has_none (Some v) held h e = absurd cc

-- ---- the owner's versions under those of keepers

-- what is merged with a copy of versions is merged with these
pub under_copy : (these mid : List Version) (others : ℕ → List Version) (all : List Version) → IsMerge [] these mid → MergesOthers mid (λ x. true) others all → MergesOthers these (λ x. true) others all
under_copy these mid others all copied g = record {
  drawn = λ v i. elim (g.drawn v i) [
    | inl old ↦ elim (copied.drawn v old) [ inl none ↦ absurd none | inr mine ↦ inl mine ]
    | inr new ↦ inr new
  ];
  mine = λ k c. g.mine k ((copied.covers k).1 (inr c));
  theirs = g.theirs;
  apart = g.apart;
}
