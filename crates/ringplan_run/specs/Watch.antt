-- What is printed of a history while it is read.
use Rattle.std.specs.Prelude.{◌≡◌, ◌⊎◌, ℕ, List, Option, Result, Err}
use Rattle.std.specs.Global.{Vec}
use Rattle.ring_names.specs.declared.refusal.Refusal.{Refusal}
use Rattle.ringplan_answers.specs.Answers.{texts_of}
use Rattle.history_watch.specs.Bundles.{WatchesBundle}
use Rattle.ringplan_answers.specs.Io.{Tells}
use Rattle.ringplan_command.specs.Command.{Asked, AsksWatch}
use Rattle.ringplan_command.specs.Files.{Names}
use Rattle.ringplan_run.specs.Run.{PrintsFound, Runs, told_by}

-- the bundle could be read, and a watch by its bytes answers, or it could not, and then nothing else is read
pub data PrintsWatchOf (every : ℕ) (input left old new : Option (List ℕ)) (status : ℕ) : Type 0 where
  watched : (bytes : List ℕ) (before : Option (List ℕ)) (r : Result (Vec ℕ) Refusal) → WatchesBundle bytes every input left old before r → PrintsFound before new (texts_of r) status → PrintsWatchOf every input left old new status
  unread : (e : Refusal) → left ≡ input → PrintsFound old new (Err e) status → PrintsWatchOf every input left old new status

-- the same, or no file could be opened, and then nothing is read and printed
abbrev pub PrintsWatch : ℕ → Option (List ℕ) → Option (List ℕ) → Option (List ℕ) → Option (List ℕ) → ℕ → Type 0
PrintsWatch every input left old new status = PrintsWatchOf every input left old new status ⊎ ((left ≡ input) × (new ≡ old) × ((status ≡ 2) ⊎ (status ≡ 3)))

-- a run by a line of words: a watch that it asks for, or a run over the bytes that are told
abbrev pub RunsLine : Asked → Names → Option (List ℕ) → Option (List ℕ) → Option (List ℕ) → Option (List ℕ) → ℕ → Type 0
RunsLine asked files input left old new status = ((bytes : List ℕ) × Tells (told_by files input) bytes × Runs asked files bytes old new status)
    ⊎ ((every : ℕ) × AsksWatch asked every × PrintsWatch every input left old new status)
