-- What the gets that are kept say of a world.
use Rattle.std.specs.Prelude.{◌≡◌, ℕ, true, List, [], length, Some, None, slice_get, is_some}
use Rattle.ring_clock.specs.declared.entry.Entry.{Entry}
use Rattle.ring_versions.specs.declared.version.Version.{Version}
use Rattle.ring_table.specs.Value.{RingValue}
use Rattle.plan_runs.specs.World.{GetRecord, World}
use Rattle.plan_runs.specs.Succession.{replied}
use Rattle.store_parts.specs.Shows.{Shows, value_of}
use Rattle.store_parts.specs.GetsFind.{found_by}
use Rattle.store_parts.specs.declared.gets.GetNow.{GetNow}
use Rattle.store_parts.specs.Gets.{is_read}

-- the versions that the get of that number found, none if there is no such get
abbrev pub found_at : List GetNow → ℕ → List Version
found_at gets g = elim (slice_get gets g) [ Some get ↦ get.found | None ↦ [] ]

-- the kept get is get g of that record: the key by number, the slots read, what it found there and the reply
pub record GetMeets (ring : RingValue) (clock : ℕ → List Entry) (w : World) (keys : List (List ℕ)) (g : ℕ) (get : GetNow) (x : GetRecord) : Type 0 where
  pub key : slice_get keys get.key ≡ Some x.key
  pub reads : (i : ℕ) → is_read get i ≡ is_some (x.found i)
  pub found : Shows clock (value_of w) get.found (found_by ring w g)
  pub reply : get.reply ≡ x.reply
  -- once the get has ended, what it found shows its reply
  pub answered : is_some x.reply ≡ true → Shows clock (value_of w) get.found (replied w.gets g)

-- they are the gets
pub record GetsMeet (ring : RingValue) (clock : ℕ → List Entry) (keys : List (List ℕ)) (gets : List GetNow) (w : World) : Type 0 where
  pub each : length gets ≡ length w.gets
  pub at : (g : ℕ) (get : GetNow) (x : GetRecord) → slice_get gets g ≡ Some get → slice_get w.gets g ≡ Some x → GetMeets ring clock w keys g get x
