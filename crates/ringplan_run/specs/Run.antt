-- How a run of the program ends.
use Rattle.std.specs.Prelude.{◌≡◌, ◌≢◌, ◌⊎◌, ℕ, ◌<◌, ◌≤◌, List, [], ◌∷◌, Option, None, IsSome, MatchOption, Result, Ok, Err, length}
use Rattle.ring_names.specs.declared.refusal.Refusal.{Refusal}
use Rattle.ring_names.specs.declared.refusal.Refusal.TheVariants.{TooLarge, OutOfMemory, ReadFailed}
use Rattle.ring_names.specs.Refusals.{line_of}
use Rattle.ringplan_answers.specs.Answers.{output_of, status_of}
use Rattle.ringplan_command.specs.Command.{Asked, Asks, AsksDrive, AsksGuide, AsksJson, AsksMaking, AsksPart, IsRefused, WantsHelp}
use Rattle.ringplan_command.specs.Files.{Names}
use Rattle.ringplan_answers.specs.Io.{Prints, max_input}
use Rattle.ringplan_answers.specs.Outcomes.{Outcome}
use Rattle.ringplan_answers.specs.Stated.{json_of}
use Rattle.ringplan_run.specs.Drives.{Drives}
use Rattle.ringplan_run.specs.Part.{Parts}
use Rattle.ringplan_command.specs.declared.form.Form.{Form}
use Rattle.ringplan_command.specs.declared.parts.PartWish.{PartWish}
use Rattle.ringplan_command.specs.declared.word.Guide.{Guide}
use Rattle.ringplan_request.specs.declared.job.Job.{Job}
use Rattle.ringplan_request.specs.declared.making.Making.{Making}
use Rattle.change_text.specs.declared.layout.Layout.{Layout}
use Rattle.change_text.specs.LayoutReading.{layout_reading}
use Rattle.change_text.specs.declared.options.Options.{Options}
use Rattle.ringplan_reports.specs.Made.{IsReport}

-- what comes of an input to a drive by so many workers, printed in that form. It is what the drive makes of the
-- input, or that the input is too large, if it has too many bytes
abbrev pub DriveOutcome : ℕ → Form → List ℕ → Result (List ℕ) Refusal → Type 0
DriveOutcome workers form bytes r = ((length bytes ≤ max_input) × Drives workers form bytes r) ⊎ ((max_input < length bytes) × (r ≡ Err (TooLarge 0)))

-- what was found is what comes of the input, if memory was there and no read failed
abbrev pub FindsDrive : ℕ → Form → List ℕ → Result (List ℕ) Refusal → Type 0
FindsDrive workers form bytes (Ok text) = DriveOutcome workers form bytes (Ok text)
FindsDrive workers form bytes (Err e) = e ≢ OutOfMemory → e ≢ ReadFailed → DriveOutcome workers form bytes (Err e)

-- the options without the layout that was read
abbrev pub unlaid : Options → Options
unlaid options = record options { layout = record { entries = [] } }

-- the layout was read of some text
abbrev pub IsRead : Layout → Type 0
IsRead layout = (text : List ℕ) × (layout_reading text ≡ Ok layout)

-- the layout was read if a file of one is named, and says nothing if none is
abbrev pub HasLayout : Options → Type 0
HasLayout options = MatchOption options.layout_file (options.layout.entries ≡ []) (λ name. IsRead options.layout)

-- what is printed for people, and the status. It is a report of the bytes, by the options with the layout that
-- was read. It is nothing if the named layout is refused, if there are too many bytes, or if memory or a read
-- failed
pub data Reports (making : Making) (options : Options) (bytes : List ℕ) (text : List ℕ) (status : ℕ) : Type 0 where
  read : (made : Options) → unlaid made ≡ unlaid options → HasLayout made → IsReport making made bytes text status → Reports making options bytes text status
  no_layout : text ≡ [] → status ≡ 2 → Reports making options bytes text status
  too_large : max_input < length bytes → text ≡ [] → status ≡ 2 → Reports making options bytes text status
  failed : text ≡ [] → status ≡ 3 → Reports making options bytes text status

-- the text and the status of a run, by what its command line asks and the bytes of its input
pub data Says (asked : Asked) (bytes : List ℕ) (text : List ℕ) (status : ℕ) : Type 0 where
  help : WantsHelp asked.faults → status ≡ 0 → Says asked bytes text status
  described : (guide : Guide) → AsksGuide asked guide → status ≡ 0 → Says asked bytes text status
  refused : IsRefused asked → text ≡ [] → status ≡ 2 → Says asked bytes text status
  answered : (job : Job) (r : Result (List ℕ) Refusal) → Asks asked job → Outcome job bytes r → text ≡ output_of r → status ≡ status_of r → Says asked bytes text status
  stated : (job : Job) (r : Result (List ℕ) Refusal) → AsksJson asked job → Outcome job bytes r → text ≡ json_of r → status ≡ status_of r → Says asked bytes text status
  unstated : (job : Job) → AsksJson asked job → text ≡ json_of (Err ReadFailed) → status ≡ 3 → Says asked bytes text status
  driven : (workers : ℕ) (form : Form) (r : Result (List ℕ) Refusal) → AsksDrive asked workers form → DriveOutcome workers form bytes r → text ≡ output_of r → status ≡ status_of r → Says asked bytes text status
  unread : (job : Job) → Asks asked job → text ≡ line_of ReadFailed → status ≡ 3 → Says asked bytes text status
  undriven : (workers : ℕ) (form : Form) → AsksDrive asked workers form → text ≡ line_of ReadFailed → status ≡ 3 → Says asked bytes text status
  parted : (wish : PartWish) → AsksPart asked wish → Parts wish bytes text status → Says asked bytes text status
  reported : (making : Making) (options : Options) → AsksMaking asked making options → Reports making options bytes text status → Says asked bytes text status
  out_of_memory : text ≡ line_of OutOfMemory → status ≡ 3 → Says asked bytes text status

-- something is said and printed
abbrev pub Shows : Asked → List ℕ → Option (List ℕ) → Option (List ℕ) → ℕ → Type 0
Shows asked bytes old new result = (text : List ℕ) × (status : ℕ) × Says asked bytes text status × Prints old new text status result

-- what is made of the bytes for people is printed
abbrev pub ShowsReport : Making → Options → List ℕ → Option (List ℕ) → Option (List ℕ) → ℕ → Type 0
ShowsReport making options bytes old new result = (text : List ℕ) × (status : ℕ) × Reports making options bytes text status × Prints old new text status result

-- a text with that status is written to the file that is named for it
abbrev pub IsWritten : ℕ → Type 0
IsWritten status = (status ≡ 0) ⊎ (status ≡ 4)

-- a text is printed. Or if a file is named for it and the status is 0 or 4, that is written, and nothing
-- printed
pub data Delivers (target : Option (List ℕ)) (old new : Option (List ℕ)) (text : List ℕ) (status result : ℕ) : Type 0 where
  printed : Prints old new text status result → Delivers target old new text status result
  filed : IsSome target → new ≡ old → IsWritten status → (result ≡ status) ⊎ (result ≡ 3) → Delivers target old new text status result

-- something is said, and printed or written to the target
abbrev pub RunsTo : Asked → Option (List ℕ) → List ℕ → Option (List ℕ) → Option (List ℕ) → ℕ → Type 0
RunsTo asked target bytes old new result = (text : List ℕ) × (status : ℕ) × Says asked bytes text status × Delivers target old new text status result

-- nothing is printed, since a file that is named could not be read
abbrev pub IsUnopened : List (List ℕ) → Option (List ℕ) → Option (List ℕ) → ℕ → Type 0
IsUnopened sources old new result = (sources ≢ []) × (new ≡ old) × ((result ≡ 2) ⊎ (result ≡ 3))

-- a run says something and prints it, or writes it to the file that the line names. Or one of the files could
-- not be read
abbrev pub Runs : Asked → Names → List ℕ → Option (List ℕ) → Option (List ℕ) → ℕ → Type 0
Runs asked files bytes old new result = RunsTo asked files.output bytes old new result ⊎ IsUnopened files.inputs old new result

-- what is told, and nothing if a file is named
abbrev pub told_unless : List (List ℕ) → Option (List ℕ) → Option (List ℕ)
told_unless [] told = told
told_unless (name ∷ more) told = None

-- the bytes that are told of what is read: those of the input, and nothing if a file is named
abbrev pub told_by : Names → Option (List ℕ) → Option (List ℕ)
told_by files told = told_unless files.inputs told

-- what was found is printed with its status, or that memory was refused is
abbrev pub PrintsFound : Option (List ℕ) → Option (List ℕ) → Result (List ℕ) Refusal → ℕ → Type 0
PrintsFound old new found result = Prints old new (output_of found) (status_of found) result ⊎ Prints old new (line_of OutOfMemory) 3 result

-- the same as JSON; that memory was refused is always said by a line
abbrev pub PrintsStated : Option (List ℕ) → Option (List ℕ) → Result (List ℕ) Refusal → ℕ → Type 0
PrintsStated old new found result = ((found ≢ Err OutOfMemory) × Prints old new (json_of found) (status_of found) result) ⊎ Prints old new (line_of OutOfMemory) 3 result
