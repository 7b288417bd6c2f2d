-- What cutting a bundle gives.
use Rattle.std.specs.Prelude.{◌≡◌, ◌≢◌, ◌⊎◌, ℕ, ◌<◌, ◌≤◌, Bool, true, false, Option, List, [], ◌++◌, length, drop, min, codes, Result, Ok, Err}
use Rattle.std.specs.List.{flat_map}
use Rattle.ring_names.specs.declared.refusal.Refusal.{Refusal}
use Rattle.ring_names.specs.declared.refusal.Refusal.TheVariants.{OutOfMemory, ReadFailed, TooLarge}
use Rattle.texts.specs.Parts.{lines_of}
use Rattle.texts.specs.Left.{Left}
use Rattle.ring_table.specs.Value.{RingValue, names_of}
use Rattle.plan_runs.specs.declared.event.Entry.{Entry}
use Rattle.history_text.specs.Said.{SaidEntry}
use Rattle.history_text.specs.Spelling.{entry_line, history_text}
use Rattle.ring_names.specs.declared.choice.Choice.{Choice}
use Rattle.history_laws.specs.Choices.{is_chosen}
use Rattle.history_laws.specs.Parts.{part_of}
use Rattle.history_text.specs.declared.cutting.Part.{Part}
use Rattle.history_text.specs.declared.cutting.NoPart.{NoPart}
use Rattle.history_text.specs.declared.cutting.NoPart.TheVariants.{Refused, Large}
use Rattle.history_text.specs.declared.input.Head.{Head}
use Rattle.history_text.specs.declared.cutter.Cutter.{Cutter}
use Rattle.history_text.specs.Input.{IsHead, max_input}
use Rattle.history_text.specs.declared.front.FrontText.{FrontText}
use Rattle.history_text.specs.declared.reader.Stage.TheVariants.{First}
use Rattle.history_text.specs.declared.cutting.Unended.{Unended}
use Rattle.history_text.specs.declared.opening.Opened.{Opened}
use Rattle.history_text.specs.declared.opening.Tried.{Tried}
use Rattle.history_text.specs.declared.opening.Tried.TheVariants.{Found, More}
use Rattle.plan_cert.specs.declared.front.Front.{Front}
use Rattle.plan_cert.specs.Front.{front_at}
use Rattle.history_text.specs.Front.{IsFront, front_text}
use Rattle.history_text.specs.StreamReading.{Point, entries_behind, long_reading, read_from, writers_behind}
use Rattle.history_text.specs.Place.{IsPlaceOf}
use Rattle.history_text.specs.Room.{Holds, most}
use Rattle.history_text.specs.State.{IsTooMuch, Stops, point_of}
use Rattle.history_text.specs.Cutter.{Begun, IsCutting}

-- the refusal that it is
abbrev pub refusal_of : NoPart → Refusal
refusal_of (Refused e) = e
refusal_of (Large entries bytes) = TooLarge 0

-- all lines were read to the end of the text and cut, or one was refused
abbrev pub ReadsAll : Cutter → Cutter → List ℕ → Result (Unit {0}) Refusal → Type 0
ReadsAll old new bytes (Ok u) = (ring : RingValue) (marks : List Bool) (front : Begun) (said : List SaidEntry) → IsCutting ring marks front said old
    → (next : List SaidEntry) × IsCutting ring marks front next new × (read_from ring (point_of old.reader said) bytes ≡ Ok next)
ReadsAll old new bytes (Err e) = e ≢ OutOfMemory → e ≢ ReadFailed → (ring : RingValue) (marks : List Bool) (front : Begun) (said : List SaidEntry) → IsCutting ring marks front said old
    → Stops ring (point_of old.reader said) bytes e

-- the first bytes hold no front: they are all, or there are more
abbrev pub IsNoFront : Head → Refusal → Type 0
IsNoFront head e = ((head.is_whole ≡ true) × (front_at (record { line = 1; lines = lines_of head.bytes.items }) ≡ Err e))
    ⊎ ((e ≡ TooLarge 0) × (head.is_whole ≡ false) × ((d : Refusal) × (front_at (record { line = 1; lines = lines_of head.bytes.items }) ≡ Err d)))

-- a front was found in the first bytes, or these have none
abbrev pub IsTried : Head → Tried → Type 0
IsTried head (Found opened) = (opened.head ≡ head) × (value : Front) × (rest : List ℕ) × IsFront head.bytes.items opened.front value rest
IsTried head (More bytes) = bytes.items ≡ head.bytes.items

-- the first bytes and their front
abbrev pub IsOpened : Option (List ℕ) → Option (List ℕ) → Opened → Type 0
IsOpened old new opened = (most : ℕ) × IsHead old new most opened.head × (value : Front) × (rest : List ℕ) × IsFront opened.head.bytes.items opened.front value rest

-- the first bytes have no front, and more of them may not be read
abbrev pub HasNone : Option (List ℕ) → Option (List ℕ) → Refusal → Type 0
HasNone old new e = (most : ℕ) × (head : Head) × IsHead old new most head × IsNoFront head e × (head.is_whole ≡ false → most ≡ max_input)

-- a text with so many entries is returned, or is more than a replay takes
abbrev pub IsPartOf : List ℕ → ℕ → Result Part NoPart → Type 0
IsPartOf text n (Ok part) = (part.text.items ≡ text) × (part.entries ≡ n) × (length text ≤ max_input) × (n ≤ 1000000)
IsPartOf text n (Err (Large entries bytes)) = (entries ≡ min n most) × (bytes ≡ min (length text) most) × ((max_input < length text) ⊎ (1000000 < n))
IsPartOf text n (Err (Refused e)) = e ≡ OutOfMemory

-- the first bytes of a text: all, or some that hold a front
pub record IsStart (head bytes : List ℕ) : Type 0 where
  pub rest : List ℕ
  pub whole : bytes ≡ head ++ rest
  pub front : (rest ≡ []) ⊎ ((x : Front × Left) × (front_at (record { line = 1; lines = lines_of head }) ≡ Ok x))

-- as many first bytes as may be hold no front
pub record HasNoFront (bytes : List ℕ) : Type 0 where
  pub head : List ℕ
  pub rest : List ℕ
  pub whole : bytes ≡ head ++ rest
  pub long : length head ≡ max_input
  pub fault : Refusal
  pub is : front_at (record { line = 1; lines = lines_of head }) ≡ Err fault

-- the entries of the part
abbrev pub chosen : Choice → Front → List SaidEntry → List Entry
chosen choice front said = part_of front.ring (is_chosen choice) (entries_behind [] said)

-- the bundle of the part, with the writers of the whole
abbrev pub part_text : Choice → Front → List SaidEntry → List ℕ
part_text choice front said = front_text front ++ history_text front.ring (writers_behind [] said) (chosen choice front said)

-- the start of a history, which has that line number
abbrev pub start_at : ℕ → Point
start_at line = record { stage = First; said = []; line = line }

-- line k, after the front, is more than can be read
abbrev pub IsTooMuchOf : List ℕ → List ℕ → ℕ → Type 0
IsTooMuchOf head bytes k = (front : Front) × (left : Left) × (front_at (record { line = 1; lines = lines_of head }) ≡ Ok (front, left))
    × IsTooMuch front.ring (start_at left.line) (drop (length (front_text front)) bytes) k

-- the part of a history after its front, up to its last line
abbrev pub begun_text : Choice → Front → List SaidEntry → List ℕ
begun_text choice front said = front_text front
    ++ (codes "history 1\n" ++ flat_map (entry_line (names_of front.ring) (writers_behind [] said)) (chosen choice front said))

-- either the bytes are a bundle, and its part is returned or is too large for a replay; or this is their first fault
abbrev pub IsCutOf : Choice → ℕ → List ℕ → List ℕ → Result Part NoPart → Type 0
IsCutOf choice wanted head bytes (Ok part) = (front : Front) × (said : List SaidEntry) × (long_reading head bytes ≡ Ok (front, said))
    × IsPartOf (part_text choice front said) (length (chosen choice front said)) (Ok part)
    × IsPlaceOf front.ring (is_chosen choice) (entries_behind [] said) wanted part.place
IsCutOf choice wanted head bytes (Err (Large entries size)) = (front : Front) × (said : List SaidEntry) × (long_reading head bytes ≡ Ok (front, said))
    × IsPartOf (part_text choice front said) (length (chosen choice front said)) (Err (Large entries size))
IsCutOf choice wanted head bytes (Err (Refused e)) = (long_reading head bytes ≡ Err e) ⊎ ((k : ℕ) × (e ≡ TooLarge k) × IsTooMuchOf head bytes k)

-- the same, unless memory ran out or reading failed
abbrev pub IsCut : Choice → ℕ → List ℕ → Result Part NoPart → Type 0
IsCut choice wanted bytes (Ok part) = (head : List ℕ) × IsStart head bytes × IsCutOf choice wanted head bytes (Ok part)
IsCut choice wanted bytes (Err (Large entries size)) = (head : List ℕ) × IsStart head bytes × IsCutOf choice wanted head bytes (Err (Large entries size))
IsCut choice wanted bytes (Err (Refused e)) = e ≢ OutOfMemory → e ≢ ReadFailed
    → ((head : List ℕ) × IsStart head bytes × IsCutOf choice wanted head bytes (Err (Refused e))) ⊎ ((e ≡ TooLarge 0) × HasNoFront bytes)

-- the part so far of a history that was read after its front, or why there is none
abbrev pub CutsRest : Choice → ℕ → FrontText → List ℕ → Result Unended Refusal → Type 0
CutsRest choice wanted front bytes (Ok part) = (said : List SaidEntry) × (read_from front.ring (start_at front.line) bytes ≡ Ok said)
    × Holds part.text (front.text.items ++ (codes "history 1\n" ++ flat_map (entry_line (names_of front.ring) (writers_behind [] said)) (part_of front.ring (is_chosen choice) (entries_behind [] said))))
    (length (part_of front.ring (is_chosen choice) (entries_behind [] said)))
    × IsPlaceOf front.ring (is_chosen choice) (entries_behind [] said) wanted part.place
CutsRest choice wanted front bytes (Err e) = e ≢ OutOfMemory → e ≢ ReadFailed → Stops front.ring (start_at front.line) bytes e

-- the same of a bundle
abbrev pub CutsAll : Choice → ℕ → List ℕ → Result Unended Refusal → Type 0
CutsAll choice wanted bytes (Ok part) = (head : List ℕ) × IsStart head bytes × ((front : Front) × (said : List SaidEntry) × (long_reading head bytes ≡ Ok (front, said))
    × Holds part.text (begun_text choice front said) (length (chosen choice front said))
    × IsPlaceOf front.ring (is_chosen choice) (entries_behind [] said) wanted part.place)
CutsAll choice wanted bytes (Err e) = e ≢ OutOfMemory → e ≢ ReadFailed
    → ((head : List ℕ) × IsStart head bytes × IsCutOf choice wanted head bytes (Err (Refused e))) ⊎ ((e ≡ TooLarge 0) × HasNoFront bytes)
