-- Values in sets, by key.
use Rattle.std.specs.Prelude.{◌≡◌, Bool, true, false, List, [], Some, None, if◌then◌else◌}
use Rattle.std.specs.List.{list_any}
use Rattle.std.specs.declared.cmp.Ordering.{Ordering}
use Rattle.std.specs.HashMap as map
use Rattle.std.specs.BTreeMap.{is_at}
use Rattle.std.specs.BTreeSet.{insert_key}
use Rattle.std.specs.Set.{remove_key}
use Rattle.ring_hints.specs.declared.sets.Sets.{Sets}

module _ {K V : Type 0} (eq : K → K → Bool) where
  -- the values of the key, in order
  abbrev pub set_at : Sets K V → K → List V
  set_at a key = elim (map.get eq a.sets key) [ None ↦ [] | Some set ↦ set.keys ]

  -- the value is in the set of its key now, and the sets of other keys are as before
  abbrev pub AddsValue : (V → V → Ordering) → Sets K V → Sets K V → K → V → Type 0
  AddsValue cmp old new key value = (k : K) → set_at new k ≡ (if eq k key then insert_key cmp (set_at old k) value else set_at old k)

  -- the value is not in the set of its key now, and the sets of other keys are as before
  pub record RemovesValue (cmp : V → V → Ordering) (old new : Sets K V) (key : K) (value : V) : Type 0 where
    pub each : (k : K) → set_at new k ≡ (if eq k key then remove_key (is_at (cmp value)) (set_at old k) else set_at old k)
    pub gone : (k : K) → eq k key ≡ true → list_any (is_at (cmp value)) (set_at new k) ≡ false

  -- each set is as before
  abbrev pub AreSame : Sets K V → Sets K V → Type 0
  AreSame old new = (k : K) → set_at new k ≡ set_at old k
