-- Entries whose keys, of any type, ascend by an order.
use Rattle.std.specs.Prelude.{◌≡◌, ◌≢◌, ℕ, zero, suc, List, [], ◌∷◌, Option, Some}
use Rattle.std.specs.BTreeMap.{is_at}
use Rattle.std.specs.List.Sorted.{IsStrictlySortedBy}
use Rattle.std.specs.Map.{keys_of, lookup}
use Rattle.std.specs.declared.cmp.Ordering.{Ordering}
use Rattle.std.specs.declared.cmp.Ordering.TheVariants.{Less, Equal, Greater}

-- the value at the key
abbrev pub value_by : {K X : Type 0} → (K → K → Ordering) → List (K × X) → K → Option X
value_by cmp es k = lookup (is_at (cmp k)) es

-- each key is below those after it
abbrev pub Ascends : {K X : Type 0} → (K → K → Ordering) → List (K × X) → Type 0
Ascends cmp es = IsStrictlySortedBy cmp (keys_of es)

-- the key is above the first i keys, and equal to the next one
abbrev pub IsThere : {K X : Type 0} → (K → K → Ordering) → K → List (K × X) → ℕ → Type 0
IsThere cmp key [] i = ⊥
IsThere cmp key (e ∷ es) zero = cmp key e.0 ≡ Equal
IsThere cmp key (e ∷ es) (suc i) = (cmp key e.0 ≡ Greater) × IsThere cmp key es i

-- the key is above the first i keys, and below the next one, if there is one
abbrev pub GoesAt : {K X : Type 0} → (K → K → Ordering) → K → List (K × X) → ℕ → Type 0
GoesAt cmp key [] zero = Unit {0}
GoesAt cmp key [] (suc i) = ⊥
GoesAt cmp key (e ∷ es) zero = cmp key e.0 ≡ Less
GoesAt cmp key (e ∷ es) (suc i) = (cmp key e.0 ≡ Greater) × GoesAt cmp key es i

-- fs has x at the key, and at all others what es has
pub record PutsAt {K X : Type 0} (cmp : K → K → Ordering) (es fs : List (K × X)) (key : K) (x : X) : Type 0 where
  pub here : value_by cmp fs key ≡ Some x
  pub others : (k : K) → k ≢ key → value_by cmp fs k ≡ value_by cmp es k
