-- A history that is judged while it grows.
use Rattle.std.specs.Prelude.{◌≡◌, ◌≢◌, ◌⊎◌, ◌==◌, ℕ, ◌<◌, ◌≤◌, Bool, true, false, List, [], ◌++◌, length, take, Result, Ok, Err, codes}
use Rattle.ring_names.specs.declared.refusal.Refusal.{Refusal}
use Rattle.ring_names.specs.declared.refusal.Refusal.TheVariants.{TooLarge}
use Rattle.ring_table.specs.Value.{RingValue}
use Rattle.plan_text.specs.declared.step.Planned.{Planned}
use Rattle.plan_runs.specs.declared.event.Entry.{Entry}
use Rattle.plan_runs.specs.Runs.{IsRun}
use Rattle.plan_runs.specs.World.{World as TheWorld, opening_world}
use Rattle.history_text.specs.Said.{SaidEntry}
use Rattle.history_text.specs.declared.reader.Stage.{Stage}
use Rattle.history_text.specs.declared.reader.Stage.TheVariants.{First, Entries, Over}
use Rattle.history_text.specs.StreamReading.{Point, IsReadTo, entries_behind, read_from}
use Rattle.history_text.specs.State.{IsEmptied, IsReading, IsRun as HasNoEnd, Stops, point_of}
use Rattle.ring_core.specs.Replays.{IsHistory}
use Rattle.ring_core.specs.Faults.{IsFirstFault}
use Rattle.ring_core.specs.World.{ring_of, plan_of, Meets, put_count, get_count}
use Rattle.ring_script.specs.Replay.{IsReplayed}
use Rattle.history_watch.specs.declared.watch.Watch.{Watch}
use Rattle.history_watch.specs.Following.{FollowsAll, most}

-- before the first line of a history
abbrev pub start : Point
start = record { stage = First; said = []; line = 1 }

-- what bytes say as a history
abbrev pub history_at : RingValue → List ℕ → Result (List SaidEntry) Refusal
history_at ring bytes = read_from ring start bytes

-- the entries that lines say
abbrev pub entries_of : List SaidEntry → List Entry
entries_of said = entries_behind [] said

-- the bytes begin with lines that are read to a point
pub record Begins (ring : RingValue) (bytes : List ℕ) (to : Point) : Type 0 where
  pub done : List ℕ
  pub rest : List ℕ
  pub whole : bytes ≡ done ++ rest
  pub read : IsReadTo ring start done to

-- the bytes begin with a whole history that says this
pub record HasEnded (ring : RingValue) (bytes : List ℕ) (said : List SaidEntry) : Type 0 where
  pub line : ℕ
  pub begins : Begins ring bytes (record { stage = Over; said = said; line = line })
  pub is : history_at ring begins.done ≡ Ok said

-- a watch has read all whole lines, has followed the entries that they say, and keeps the bytes after them
pub record IsGoing (ring : RingValue) (bytes : List ℕ) (said : List SaidEntry) (w : Watch) : Type 0 where
  pub done : List ℕ
  pub whole : bytes ≡ done ++ w.left.items
  pub run : HasNoEnd w.left.items
  pub reading : IsReading ring (entries_of said) said w.reader
  pub none : w.reader.entries.items ≡ []
  pub read : IsReadTo ring start done (point_of w.reader said)

-- these bytes have come, and all entries that their lines say are a run, whose end the store is in
pub record IsWatching (ring : RingValue) (plan : List Planned) (bytes : List ℕ) (w : Watch) : Type 0 where
  pub ring_is : ring_of w.world ≡ ring
  pub plan_is : plan_of w.world ≡ plan
  pub said : List SaidEntry
  pub going : w.reader.stage ≢ Over → IsGoing ring bytes said w
  pub over : w.reader.stage ≡ Over → HasEnded ring bytes said
  pub counted : w.count ≡ length said
  pub world : TheWorld
  pub meets : Meets w.world world
  pub run : IsRun ring plan (entries_of said) world

-- the store is of the watch's ring, and there is room for one more put or get
pub record HasRoom (w : Watch) : Type 0 where
  pub ring : ring_of w.world ≡ w.ring.now
  pub puts : put_count w.world ≤ w.count
  pub gets : get_count w.world ≤ w.count
  pub left : w.reader.stage ≢ Over → HasNoEnd w.left.items
  pub none : w.reader.entries.items ≡ []

-- an entry of the first lines cannot have happened, whatever comes after it
pub record HasFault (ring : RingValue) (plan : List Planned) (bytes : List ℕ) (e : Refusal) : Type 0 where
  pub to : Point
  pub begins : Begins ring bytes to
  pub fault : (more : List Entry) → IsFirstFault ring plan (opening_world ring) 0 (entries_of to.said ++ more) e

-- the entries of the first lines are a run, and what is after them is refused, whatever follows
pub record HasBadLine (ring : RingValue) (plan : List Planned) (bytes : List ℕ) (e : Refusal) : Type 0 where
  pub to : Point
  pub begins : Begins ring bytes to
  pub history : IsHistory ring plan (entries_of to.said)
  pub stops : (more : List ℕ) → Stops ring to (begins.rest ++ more) e

-- the first lines say more entries than are counted
pub record HasTooMany (ring : RingValue) (bytes : List ℕ) (e : Refusal) : Type 0 where
  pub to : Point
  pub begins : Begins ring bytes to
  pub line : ℕ
  pub is : e ≡ TooLarge line
  pub many : most < length to.said

-- why bytes are refused
abbrev pub IsRefused : RingValue → List Planned → List ℕ → Refusal → Type 0
IsRefused ring plan bytes e = HasFault ring plan bytes e ⊎ (HasBadLine ring plan bytes e ⊎ HasTooMany ring bytes e)

-- the first n entries that the bytes say are a run
pub record IsJudged (ring : RingValue) (plan : List Planned) (bytes : List ℕ) (n : ℕ) : Type 0 where
  pub to : Point
  pub begins : Begins ring bytes to
  pub few : n ≤ length to.said
  pub history : IsHistory ring plan (take n (entries_of to.said))

-- whether a history may stop at that stage, with this left after its last line
abbrev pub is_whole : Stage → List ℕ → Bool
is_whole First left = false
is_whole Entries left = length left == 0
is_whole Over left = true

-- the text is what a replay of the entries so far prints. If the last line has not come, they are a history with it
pub record IsAnswer (ring : RingValue) (plan : List Planned) (bytes : List ℕ) (w : Watch) (said : List SaidEntry) (text : List ℕ) : Type 0 where
  pub replayed : IsReplayed ring plan (entries_of said) text
  pub ends : w.reader.stage ≢ Over → history_at ring (bytes ++ codes "end\n") ≡ Ok said

-- the bytes are not a history, with or without a last line, and the entries that they say are a run
pub record IsCutOff (ring : RingValue) (plan : List Planned) (bytes : List ℕ) (e : Refusal) : Type 0 where
  pub is : history_at ring bytes ≡ Err e
  pub to : Point
  pub begins : Begins ring bytes to
  pub history : IsHistory ring plan (entries_of to.said)

-- the entries that the reader kept were followed and taken
pub record FollowsKept (old new : Watch) : Type 0 where
  pub all : FollowsAll old.world new.world old.count new.count old.reader.entries.items
  pub puts : put_count new.world ≤ new.count
  pub gets : get_count new.world ≤ new.count
  pub ring : new.ring.now ≡ old.ring.now
  pub emptied : IsEmptied old.reader new.reader
  pub left : new.left ≡ old.left

-- the store still follows the same plan
abbrev pub KeepsPlan : Watch → Watch → Type 0
KeepsPlan old new = (ring_of new.world ≡ ring_of old.world) × (plan_of new.world ≡ plan_of old.world)
