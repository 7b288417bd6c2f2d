-- What a key takes in.
use Rattle.std.specs.Prelude.{◌≡◌, ℕ, List, Some, Result, OnOk, OnErr}
use Rattle.std.specs.Ordering.{nat_cmp}
use Rattle.ring_versions.specs.Fresh.{IsFreshFor}
use Rattle.ring_versions.specs.Versions.{IsMerge}
use Rattle.ring_versions.specs.declared.fresh.Fresh.{Fresh}
use Rattle.ring_versions.specs.declared.version.Version.{Version}
use Rattle.store_maps.specs.Places.{value_in}
use Rattle.store_maps.specs.Sorted.{PutsAt}

-- fs has at the key what the versions that es has there became, and at all others what es has
pub record Changes (es fs : List (ℕ × List Version)) (key : ℕ) (Became : List Version → List Version → Type 0) : Type 0 where
  pub before : List Version
  pub after : List Version
  pub at : value_in es key ≡ Some before
  pub put : PutsAt nat_cmp es fs key after
  pub became : Became before after

-- they are what f makes of them
abbrev pub TakesIn : List (ℕ × List Version) → List (ℕ × List Version) → ℕ → Fresh → Type 0
TakesIn es fs key f = Changes es fs key (λ before after. (other : List Version) → IsFreshFor before other f → IsMerge before other after)

-- they are the merge with others, or, where that is refused, what they were
abbrev pub MergesIn : {A E : Type 0} → Result A E → List (ℕ × List Version) → List (ℕ × List Version) → ℕ → List Version → Type 0
MergesIn r es fs key more = Changes es fs key (λ before after. OnOk r (IsMerge before more after) × OnErr r (after ≡ before))
