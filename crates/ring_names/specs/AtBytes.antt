-- Ordered maps whose keys are bytes: what is at which bytes.
use Rattle.std.specs.Prelude.{◌≡◌, ℕ, false, List, Option, Some}
use Rattle.std.specs.BTreeMap.{BTreeMap, is_at}
use Rattle.std.specs.Cmp.Lexicographic.{slice_cmp}
use Rattle.std.specs.Map.{lookup}
use Rattle.std.specs.Ordering.{nat_cmp}
use Rattle.std.specs.Str.{bytes_eq}
use Rattle.std.specs.declared.vec.Vec.{Vec}

-- the value of the first entry with these bytes
abbrev pub value_in : {A X : Type 0} → List (Vec ℕ A × X) → List ℕ → Option X
value_in es k = lookup (is_at (λ key. slice_cmp nat_cmp k key.items)) es

-- the value at the bytes
abbrev pub value_at : {A X : Type 0} → BTreeMap (Vec ℕ A) X → List ℕ → Option X
value_at m k = value_in m.entries k

-- n has x at the bytes, and at all others what m has
pub record Puts {A X : Type 0} (m n : BTreeMap (Vec ℕ A) X) (bs : List ℕ) (x : X) : Type 0 where
  pub here : value_at n bs ≡ Some x
  pub others : (k : List ℕ) → bytes_eq bs k ≡ false → value_at n k ≡ value_at m k
