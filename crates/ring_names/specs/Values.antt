-- The values of keys.
use Rattle.std.specs.Prelude.{ℕ, Bool, nat_le, List, [], length, Option, Some, None}
use Rattle.std.specs.Arc.{arc_value}
use Rattle.std.specs.declared.vec.Vec.{Vec}
use Rattle.std.specs.declared.sync.Arc.{Arc}

-- at most 1,024 bytes
abbrev pub is_value : List ℕ → Bool
is_value bs = nat_le (length bs) 1024

-- the items that are shared, or none if nothing is shared
abbrev pub shared_items : {T A B : Type 0} → Option (Arc (Vec T A) B) → List T
shared_items None = []
shared_items (Some a) = (arc_value a).items
