-- What holds of every world to which a run leads, whatever the plan.
use Rattle.std.specs.Prelude.{◌≡◌, ℕ, ◌<◌, ◌≤◌, Bool, true, false, List, length, Some}
use Rattle.ring_names.specs.Lists.{has}
use Rattle.ring_names.specs.declared.ids.Slot.{Slot}
use Rattle.ring_table.specs.Value.{RingValue}
use Rattle.plan_text.specs.declared.step.Planned.{Planned}
use Rattle.plan_text.specs.Steps.{depends}
use Rattle.plan_runs.specs.World.{World, generation, ticket_of, key_of_put, key_of_get, seen_of, is_get_of, is_of_key}
use Rattle.plan_runs.specs.Succession.{replied}
use Rattle.plan_runs.specs.Versions.{put_slot}
use Rattle.plan_runs.specs.Guards.{has_copy, has_ended}
use Rattle.plan_runs.specs.Effects.{has_found}

-- what step n directly depends on is finished
abbrev pub Ready : List Planned → (ℕ → Bool) → ℕ → Type 0
Ready plan done n = (a : ℕ) → depends plan a n ≡ true → done a ≡ true

-- what a finished step directly depends on is finished
abbrev pub Closed : List Planned → (ℕ → Bool) → Type 0
Closed plan done = (a n : ℕ) → done n ≡ true → depends plan a n ≡ true → done a ≡ true

-- of copies: which are open, and of which the chunk is marked
pub record CopiesFit (plan : List Planned) (done is_open : ℕ → Bool) (marked : ℕ → ℕ → Bool) : Type 0 where
  -- what is open is a copy, ready and not finished
  pub copies : (n : ℕ) → is_open n ≡ true → has_copy plan n ≡ true
  pub ready : (n : ℕ) → is_open n ≡ true → Ready plan done n
  pub unfinished : (n : ℕ) → is_open n ≡ true → done n ≡ false
  -- what has a marked chunk is a ready copy
  pub marks : (n c : ℕ) → marked n c ≡ true → (has_copy plan n ≡ true) × (c < 16) × Ready plan done n
  -- a finished copy has all chunks marked
  pub copied : (n c : ℕ) → has_copy plan n ≡ true → done n ≡ true → c < 16 → marked n c ≡ true

-- the put exists, and is of the slot's partition
abbrev pub IsPutOf : RingValue → World → Slot → ℕ → Type 0
IsPutOf ring w slot v = (v < length w.puts) × ((put_slot ring w v slot.index).partition ≡ slot.partition)

-- the put exists, and is of the get's key
abbrev pub IsPutForGet : World → ℕ → ℕ → Type 0
IsPutForGet w g v = (v < length w.puts) × (is_of_key w (key_of_get w g) v ≡ true)

-- the get exists, is of the put's key and has ended
abbrev pub IsGetForPut : World → ℕ → ℕ → Type 0
IsGetForPut w u g = (g < length w.gets) × (is_get_of w (key_of_put w u) g ≡ true) × (has_ended w g ≡ true)

-- what holds in every run
pub record Reached (ring : RingValue) (plan : List Planned) (w : World) : Type 0 where
  pub closed : Closed plan w.done
  pub copies : CopiesFit plan w.done w.is_open w.marked
  -- a put's ticket is for a slot by index, and of the slot's present generation or an earlier one
  pub tickets : (v i g : ℕ) → ticket_of w v i ≡ Some g → (i < ring.n) × (g ≤ generation plan w (put_slot ring w v i))
  -- what nodes store and keep for slots
  pub stored : (x : ℕ) (slot : Slot) (v : ℕ) → w.stored x slot v ≡ true → IsPutOf ring w slot v
  pub hinted : (x : ℕ) (slot : Slot) (v : ℕ) → w.hinted x slot v ≡ true → IsPutOf ring w slot v
  -- what gets found and were answered
  pub found : (g i v : ℕ) → has_found w g v i ≡ true → IsPutForGet w g v
  pub replied : (g v : ℕ) → replied w.gets g v ≡ true → IsPutForGet w g v
  -- the gets that a put names
  pub seen : (u g : ℕ) → has g (seen_of w u) ≡ true → IsGetForPut w u g
  -- no more stores were lost than may be
  pub spent : w.losses ≤ ring.loss
