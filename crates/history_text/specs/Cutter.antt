-- A history of which some lines are read and cut.
use Rattle.std.specs.Prelude.{◌≡◌, ℕ, ◌+◌, ◌<◌, Bool, MatchOption, is_some, List, [], ◌++◌, length}
use Rattle.std.specs.List.{AllByRecursion, flat_map}
use Rattle.ring_table.specs.Value.{RingValue, names_of}
use Rattle.plan_runs.specs.declared.event.Entry.{Entry}
use Rattle.history_text.specs.Said.{SaidEntry}
use Rattle.history_text.specs.Spelling.{entry_line}
use Rattle.history_laws.specs.Cuts.{after_event, entry_next}
use Rattle.history_laws.specs.Parts.{all_gets, all_puts, is_marked, or_none, part_of}
use Rattle.history_text.specs.declared.cutter.Cutter.{Cutter}
use Rattle.history_text.specs.declared.cutter.Kept.{Kept}
use Rattle.history_text.specs.StreamReading.{IsReadTo, entries_behind}
use Rattle.history_text.specs.Place.{Finds, FindsMore}
use Rattle.history_text.specs.Room.{Holds}
use Rattle.history_text.specs.State.{IsReading, IsRun, IsKnownIn, point_of, started}

-- what a part begins with: the text of its front, and the entry whose place is wanted
pub record Begun : Type 0 where
  pub text : List ℕ
  pub wanted : ℕ

-- the entries are cut, and their part is after the front's text, spelled by these writers
pub record IsKept (ring : RingValue) (marks : List Bool) (front : Begun) (entries : List Entry) (writers : List (List ℕ)) (k : Kept) : Type 0 where
  pub cut_is : k.cut ≡ record {
    ring = ring;
    partitions = marks;
    puts = all_puts ring (or_none ring (is_marked marks)) [] entries;
    gets = all_gets ring (or_none ring (is_marked marks)) [] entries;
  }
  -- as any later writers spell it too
  pub part_is : (more : List (List ℕ)) → Holds k.part
      (front.text ++ flat_map (entry_line (names_of ring) (writers ++ more)) (part_of ring (is_marked marks) entries))
      (length (part_of ring (is_marked marks) entries))
  pub place_is : Finds ring (is_marked marks) entries front.wanted k.place

-- an entry was cut, and kept if it is of the part
pub record CutsOne (old new : Kept) (ring : RingValue) (writers : List (List ℕ)) (entry : Entry) : Type 0 where
  pub cut_is : new.cut ≡ after_event old.cut entry.event
  pub part_is : MatchOption (entry_next old.cut entry) (new.part ≡ old.part) (λ y. (t : List ℕ) (n : ℕ) → Holds old.part t n
      → Holds new.part (t ++ entry_line (names_of ring) writers y) (n + 1))
  pub place_is : FindsMore old.place new.place (is_some (entry_next old.cut entry)) old.part.entries

-- entries were cut, and kept if they are of the part
pub record CutsMany (old new : Kept) (ring : RingValue) (writers : List (List ℕ)) (entries : List Entry) : Type 0 where
  pub counts : length new.cut.puts + length new.cut.gets ≡ length old.cut.puts + length old.cut.gets + started entries
  pub cuts : (marks : List Bool) (front : Begun) (before : List Entry) → AllByRecursion (IsKnownIn ring writers) entries
      → IsKept ring marks front before writers old → IsKept ring marks front (before ++ entries) writers new

-- no entry is kept by the reader, and there is room for one more put or get
pub record HasRoom (c : Cutter) : Type 0 where
  pub none : c.reader.entries.items ≡ []
  pub same : c.reader.started ≡ length c.kept.cut.puts + length c.kept.cut.gets
  pub few : c.reader.started < 4294967295

-- lines that say these entries are read, and the entries are cut
pub record IsCutting (ring : RingValue) (marks : List Bool) (front : Begun) (said : List SaidEntry) (c : Cutter) : Type 0 where
  pub reading : IsReading ring (entries_behind [] said) said c.reader
  pub cut : IsKept ring marks front (entries_behind [] said) c.reader.writers c.kept

-- lines were read and cut
abbrev pub Cuts : Cutter → Cutter → List ℕ → Type 0
Cuts old new done = (ring : RingValue) (marks : List Bool) (front : Begun) (said : List SaidEntry) → IsCutting ring marks front said old
    → (next : List SaidEntry) × IsCutting ring marks front next new × IsReadTo ring (point_of old.reader said) done (point_of new.reader next)

-- lines were read and cut, and what is left has none that is ended
pub record CutsSome (old new : Cutter) (bytes left : List ℕ) : Type 0 where
  pub done : List ℕ
  pub whole : bytes ≡ done ++ left
  pub run : IsRun left
  pub cuts : Cuts old new done
