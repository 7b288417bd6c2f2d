-- Which scripts a text can say.
use Rattle.std.specs.Prelude.{◌≡◌, ℕ, ◌<◌, ◌≤◌, true, List, ◌++◌, length, slice_get, Some}
use Rattle.std.specs.List.{list_all, AllByRecursion}
use Rattle.ring_names.specs.Names.{place}
use Rattle.ring_names.specs.Values.{is_value}
use Rattle.texts.specs.Name.{is_name}
use Rattle.texts.specs.Numbers.{are_small}
use Rattle.ring_table.specs.Value.{RingValue, names_of}
use Rattle.plan_runs.specs.Words.{is_key, is_seen}
use Rattle.plan_runs.specs.declared.event.Event.{Event}
use Rattle.plan_runs.specs.declared.event.Event.TheVariants as event

-- distinct names of writers, at most 1,024: each stands at its own number
pub record AreWriters (writers : List (List ℕ)) : Type 0 where
  pub few : length writers ≤ 1024
  pub names : list_all is_name writers ≡ true
  pub different : (n : ℕ) (name : List ℕ) → slice_get writers n ≡ Some name → place writers name ≡ Some n

-- event n is a put of that writer
abbrev pub WritesAt : List Event → ℕ → ℕ → Type 0
WritesAt events n w = (key : List ℕ) × (value : List ℕ) × (gets : List ℕ)
    × (slice_get events n ≡ Some (event.StartPut (record { 0 = w }) key value gets))

-- a number of 32 bits
abbrev pub IsCount : ℕ → Type 0
IsCount n = n ≤ 4294967295

-- at most 1,024 bytes, each below 256
pub record IsBytes (value : List ℕ) : Type 0 where
  pub few : is_value value ≡ true
  pub bytes : AllByRecursion (λ b. b < 256) value

-- at most 16 numbers of 32 bits, strictly ascending
pub record AreGets (gets : List ℕ) : Type 0 where
  pub ascend : is_seen gets ≡ true
  pub counts : are_small gets ≡ true

-- an event keeps the limits of a script. Numbers have 32 bits, a key has 1 to 64 bytes that names may have, a value at
-- most 1,024 bytes. A put names at most 16 gets, their numbers strictly ascending
abbrev pub IsEvent : Event → Type 0
IsEvent (event.Do s) = IsCount s
IsEvent (event.OpenCopy s) = IsCount s
IsEvent (event.ChunkCopy s c) = IsCount s × IsCount c
IsEvent (event.CloseCopy s) = IsCount s
IsEvent (event.AbortCopy s) = IsCount s
IsEvent (event.StartPut w k v g) = (is_key k ≡ true) × IsBytes v × AreGets g
IsEvent (event.Write u i) = IsCount u × IsCount i
IsEvent (event.Hint u i x) = IsCount u × IsCount i
IsEvent (event.Ack u) = IsCount u
IsEvent (event.StartGet k) = is_key k ≡ true
IsEvent (event.Read g i) = IsCount g × IsCount i
IsEvent (event.EndGet g) = IsCount g
IsEvent (event.Down x) = Unit {0}
IsEvent (event.Up x) = Unit {0}
IsEvent (event.Handoff x s) = IsCount s.partition × IsCount s.index
IsEvent (event.Lose x) = Unit {0}

-- the event takes no memory of its own
abbrev pub IsSmall : Event → Type 0
IsSmall (event.StartPut w k v g) = ⊥
IsSmall (event.StartGet k) = ⊥
IsSmall e = Unit {0}

-- the event's writer is one of the known writers, and the node is declared
abbrev pub IsKnown : ℕ → ℕ → Event → Type 0
IsKnown nodes writers (event.StartPut w k v g) = w.0 < writers
IsKnown nodes writers (event.Hint u i x) = x.0 < nodes
IsKnown nodes writers (event.Down x) = x.0 < nodes
IsKnown nodes writers (event.Up x) = x.0 < nodes
IsKnown nodes writers (event.Handoff x s) = x.0 < nodes
IsKnown nodes writers (event.Lose x) = x.0 < nodes
IsKnown nodes writers e = Unit {0}

-- the event has only numbers within its limits: it names no key, writer or node
abbrev pub HasNumbers : Event → Type 0
HasNumbers e = IsEvent e × IsSmall e × IsKnown 0 0 e

-- all events' writers are among the names, and their nodes are the ring's
abbrev pub AreKnown : RingValue → List (List ℕ) → List Event → Type 0
AreKnown ring names events = AllByRecursion (IsKnown (length (names_of ring)) (length names)) events

-- a script over the ring whose writers have these names, the new ones numbered behind the old in order of first sight
pub record IsScriptOf (ring : RingValue) (old names : List (List ℕ)) (script : List Event) : Type 0 where
  pub few : length script ≤ 1000000
  pub events : AllByRecursion IsEvent script
  pub known : AreKnown ring names script
  pub writers : AreWriters names
  pub grown : (more : List (List ℕ)) × (names ≡ old ++ more)
  -- each new writer is named by some put
  pub seen : (w : ℕ) → length old ≤ w → w < length names → (n : ℕ) × WritesAt script n w
  -- and behind the first puts of all new writers before it
  pub ordered : (n w v : ℕ) → WritesAt script n w → length old ≤ v → v < w → (m : ℕ) × (m < n) × WritesAt script m v
