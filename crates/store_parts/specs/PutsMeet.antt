-- What the puts that are kept say of a world.
use Rattle.std.specs.Prelude.{◌≡◌, ℕ, ◌≤◌, List, [], ◌∷◌, length, Option, Some, None, slice_get}
use Rattle.ring_names.specs.Names.{place}
use Rattle.ring_clock.specs.declared.entry.Entry.{Entry}
use Rattle.ring_versions.specs.declared.version.Version.{Version}
use Rattle.plan_runs.specs.World.{PutRecord, World}
use Rattle.store_parts.specs.Clocks.{AreClocksOf, IsLastOf}
use Rattle.store_parts.specs.declared.puts.PutNow.{PutNow}
use Rattle.store_parts.specs.Puts.{ticket_at}

-- the clock of the first of these versions, the least one if there is none
abbrev pub clock_in : List Version → List Entry
clock_in [] = []
clock_in (x ∷ xs) = x.clock

-- the clock of the put of that number
abbrev pub clock_at : List PutNow → ℕ → List Entry
clock_at puts v = elim (slice_get puts v) [ Some put ↦ clock_in put.version | None ↦ [] ]

-- the kept put is put v of that record: the key by number, the only version, the tickets
pub record PutMeets (keys : List (List ℕ)) (v : ℕ) (put : PutNow) (x : PutRecord) : Type 0 where
  pub key : slice_get keys put.key ≡ Some x.key
  pub version : put.version ≡ record { put = v; clock = clock_in put.version; value = x.value } ∷ []
  pub tickets : (i : ℕ) → ticket_at put i ≡ x.ticket i
  pub acked : put.acked ≡ x.acked

-- they are the puts, and their clocks are made of those that they directly succeed. The last put of each writer
-- on each key is known
pub record PutsMeet (keys : List (List ℕ)) (last : ℕ → ℕ → Option ℕ) (puts : List PutNow) (w : World) : Type 0 where
  pub each : length puts ≡ length w.puts
  pub at : (v : ℕ) (put : PutNow) (x : PutRecord) → slice_get puts v ≡ Some put → slice_get w.puts v ≡ Some x → PutMeets keys v put x
  pub clocks : AreClocksOf w (clock_at puts)
  pub lasts : (k : ℕ) (key : List ℕ) (writer : ℕ) → slice_get keys k ≡ Some key → IsLastOf w writer key (last k writer)

-- ---- keys by number

-- the keys are all different: the number of each is its place
abbrev pub AreNumbered : List (List ℕ) → Type 0
AreNumbered keys = (k : ℕ) (key : List ℕ) → slice_get keys k ≡ Some key → place keys key ≡ Some k

-- no writer has put a key that is not among the first n
abbrev pub NoneBehind : (ℕ → ℕ → Option ℕ) → ℕ → Type 0
NoneBehind last n = (k writer : ℕ) → n ≤ k → last k writer ≡ None
