-- Values in lists, by key.
use Rattle.std.specs.Prelude.{◌≡◌, Bool, List, [], ◌∷◌, ◌++◌, Some, None, if◌then◌else◌}
use Rattle.std.specs.HashMap as map
use Rattle.ring_names.specs.declared.lists.Lists.{Lists}

-- the list of the key
abbrev pub list_at : {K V : Type 0} → (K → K → Bool) → Lists K V → K → List V
list_at eq a key = elim (map.get eq a.lists key) [ None ↦ [] | Some list ↦ list.items ]

-- the value is last in the list of its key now, and the lists of other keys are as before
abbrev pub AddsLast : {K V : Type 0} → (K → K → Bool) → Lists K V → Lists K V → K → V → Type 0
AddsLast eq old new key value = (k : _) → list_at eq new k ≡ (if eq k key then list_at eq old k ++ value ∷ [] else list_at eq old k)

-- each list is as before
abbrev pub AreSame : {K V : Type 0} → (K → K → Bool) → Lists K V → Lists K V → Type 0
AreSame eq old new = (k : _) → list_at eq new k ≡ list_at eq old k
