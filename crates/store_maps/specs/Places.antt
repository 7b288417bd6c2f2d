-- Entries of keys, by number, and their versions: what is held at which key.
use Rattle.std.specs.Prelude.{ℕ, List, [], ◌∷◌, Option, unwrap_or}
use Rattle.std.specs.List.{AllByRecursion}
use Rattle.std.specs.Ordering.{nat_cmp}
use Rattle.std.proofs.Props.{props}
use Rattle.ring_versions.specs.declared.version.Version.{Version}
use Rattle.ring_versions.specs.Versions.{InConflict, IsApart}
use Rattle.store_maps.specs.Sorted.{value_by}

-- the value at the key
abbrev pub value_in : {X : Type 0} → List (ℕ × X) → ℕ → Option X
value_in es k = value_by nat_cmp es k

-- the versions of the key, none where it has no place
abbrev pub held_in : List (ℕ × List Version) → ℕ → List Version
held_in es k = unwrap_or (value_in es k) []

-- no version that is held is an ancestor of another of its key
abbrev pub AreApart : List (ℕ × List Version) → Type 0
AreApart es = (k : ℕ) → IsApart (held_in es k)

all_prop : (v : Version) (vs : List Version) → IsProp (AllByRecursion (InConflict v) vs)
all_prop v [] = hlevel props
all_prop v (x ∷ xs) = let h = all_prop v xs in hlevel (props, h)

apart_prop : (vs : List Version) → IsProp (IsApart vs)
apart_prop [] = hlevel props
apart_prop (v ∷ vs) = let h = all_prop v vs in let k = apart_prop vs in hlevel (props, h, k)

pub AreApart-prop : (es : List (ℕ × List Version)) → IsProp (AreApart es)
AreApart-prop es = hlevel (props, apart_prop)
