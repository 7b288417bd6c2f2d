-- The maps of what nodes keep, by keeper and slot.
use Rattle.std.specs.Prelude.{◌≡◌, ◌≢◌, ◌<◌, ℕ, true, false, [], Option, Some, is_some}
use Rattle.std.specs.BTreeMap.{BTreeMap, get}
use Rattle.std.proofs.Props.{props}
use Rattle.ring_names.specs.declared.ids.Slot.{Slot}
use Rattle.store_maps.specs.declared.key_id.KeyId.{KeyId}
use Rattle.store_maps.specs.declared.slot_map.SlotMap.{SlotMap}
use Rattle.store_maps.specs.Slots.{held_for, has_place_for}
use Rattle.ring_hints.specs.declared.kept_for.KeptFor.{KeptFor}
use Rattle.ring_hints.specs.declared.pairs.Pairs.{Pairs}
use Rattle.ring_hints.specs.Pairs.{is_pair}
use Rattle.ring_hints.specs.Views.{by_keeper, is_of, pair_of}

-- the map of the pair, if it has one
abbrev pub map_of : BTreeMap KeptFor SlotMap → KeptFor → Option SlotMap
map_of maps pair = get by_keeper maps pair

-- the slot is one that a partition may have. The map has a key, and has versions of each key
pub record IsKept (pair : KeptFor) (m : SlotMap) : Type 0 where
  pub few : pair.slot.index < 7
  pub filled : (k : KeyId) → has_place_for m k ≡ true → held_for m k ≢ []
  pub used : ((k : KeyId) → has_place_for m k ≡ false) → ⊥

-- each pair's map is one to be kept
abbrev pub AreKept : BTreeMap KeptFor SlotMap → Type 0
AreKept maps = (pair : KeptFor) (m : SlotMap) → map_of maps pair ≡ Some m → IsKept pair m

pub AreKept-prop : (maps : BTreeMap KeptFor SlotMap) → IsProp (AreKept maps)
AreKept-prop maps = hlevel props

-- a pair is there exactly if its map is
abbrev pub ArePaired : Pairs → BTreeMap KeptFor SlotMap → Type 0
ArePaired pairs maps = (x : ℕ) (s : Slot) → is_pair pairs x s ≡ is_some (map_of maps (pair_of x s))

-- the pair has o now, and all others have what they had
pub record PutsMap (old new : BTreeMap KeptFor SlotMap) (pair : KeptFor) (o : Option SlotMap) : Type 0 where
  pub here : map_of new pair ≡ o
  pub others : (other : KeptFor) → is_of pair other.keeper.0 other.slot ≡ false → map_of new other ≡ map_of old other
