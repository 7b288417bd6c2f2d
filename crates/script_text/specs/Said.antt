-- The event that a line says, and the writers that are known behind it.
use Rattle.std.specs.Prelude.{◌≡◌, ℕ, ◌<◌, List, [], ◌∷◌, ◌++◌, length, None}
use Rattle.ring_names.specs.Names.{place}
use Rattle.ring_names.specs.declared.ids.WriterId.{WriterId}
use Rattle.plan_runs.specs.declared.event.Event.{Event}
use Rattle.plan_runs.specs.declared.event.Event.TheVariants as event
use Rattle.script_text.specs.declared.said.SaidWriter.{SaidWriter}
use Rattle.script_text.specs.declared.said.SaidWriter.TheVariants.{Known, New}
use Rattle.script_text.specs.declared.said.SaidEvent.{SaidEvent}
use Rattle.script_text.specs.declared.said.SaidEvent.TheVariants as said

-- the number of the writer, behind these
abbrev pub writer_of : List (List ℕ) → SaidWriter → WriterId
writer_of names (Known w) = w
writer_of names (New name) = record { 0 = length names }

-- these writers, and a new one
abbrev pub with_writer : List (List ℕ) → SaidWriter → List (List ℕ)
with_writer names (Known w) = names
with_writer names (New name) = names ++ name ∷ []

-- a writer that is called new has no number yet, and there is room for it
abbrev pub FitsWriter : List (List ℕ) → SaidWriter → Type 0
FitsWriter names (Known w) = Unit {0}
FitsWriter names (New name) = (place names name ≡ None) × (length names < 1024)

-- the event, as it is kept
abbrev pub event_of : List (List ℕ) → SaidEvent → Event
event_of names (said.Put p) = event.StartPut (writer_of names p.writer) p.key p.value p.seen
event_of names (said.Get key) = event.StartGet key
event_of names (said.Plain e) = e

-- the writers behind the event
abbrev pub names_after : List (List ℕ) → SaidEvent → List (List ℕ)
names_after names (said.Put p) = with_writer names p.writer
names_after names x = names

-- the writer of a put can be numbered
abbrev pub Fits : List (List ℕ) → SaidEvent → Type 0
Fits names (said.Put p) = FitsWriter names p.writer
Fits names x = Unit {0}

-- what a line says can be the next event
pub record IsNext (events : List Event) (names : List (List ℕ)) (x : SaidEvent) : Type 0 where
  pub room : length events < 1000000
  pub fits : Fits names x
