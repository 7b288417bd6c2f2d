-- What a call for people says.
use Rattle.std.specs.Prelude.{◌≡◌, ◌≢◌, ℕ, ◌<◌, ◌≤◌, List, [], ◌++◌, None, length}
use Rattle.std.specs.Str.{IsUtf8}
use Rattle.std.specs.Global.{Vec}
use Rattle.ring_names.specs.Refusals.{line_of as refusal_line}
use Rattle.ring_names.specs.declared.refusal.Refusal.TheVariants.{OutOfMemory}
use Rattle.ringplan_c.specs.Line.{line_of}
use Rattle.ringplan_c.specs.Room.{Fills}
use Rattle.ringplan_command.specs.Command.{Answers, AsksMaking, IsRefused, WantsHelp, asked}
use Rattle.ringplan_command.specs.Files.{Names, files_of, no_files}
use Rattle.ringplan_command.specs.declared.command.Request.{Request}
use Rattle.ringplan_command.specs.declared.command.Request.TheVariants as request
use Rattle.ringplan_request.specs.declared.making.Making.{Making}
use Rattle.change_text.specs.declared.options.Options.{Options}
use Rattle.ringplan_answers.specs.Io.{max_input}
use Rattle.ringplan_reports.specs.Made.{IsReport}

-- no file is named: none that is read or written, and none that has a layout
abbrev pub NamesNone : Names → Options → Type 0
NamesNone files options = (files ≡ no_files) × (options.layout_file ≡ None)

-- nothing is printed on standard output, by the status of a line that is refused
abbrev pub IsTurnedAway : List ℕ → ℕ → Type 0
IsTurnedAway text status = (text ≡ []) × (status ≡ 2)

-- what is printed for the bytes, and the status: the report, or none if the bytes are too many or a file is named
pub data Reports (files : Names) (making : Making) (options : Options) (bytes text : List ℕ) (status : ℕ) : Type 0 where
  read : NamesNone files options → length bytes ≤ max_input → IsReport making options bytes text status → Reports files making options bytes text status
  too_large : NamesNone files options → max_input < length bytes → IsTurnedAway text status → Reports files making options bytes text status
  filed : (NamesNone files options → ⊥) → IsTurnedAway text status → Reports files making options bytes text status

-- a request for a job, a part, a drive, or a text about the program: not for a making, help or a refusal
abbrev pub IsForOthers : Request → Type 0
IsForOthers r = ((making : Making) (options : Options) → r ≢ request.Make making options) × ((text : Vec ℕ) → r ≢ request.Help text) × ((text : Vec ℕ) → r ≢ request.Mistaken text) × (r ≢ request.OutOfMemory)

-- what a call prints, and its status: what the line makes of the bytes, or help. Nothing if the line is refused, for
-- other calls, or not text
pub data Says (command options bytes text : List ℕ) (status : ℕ) : Type 0 where
  reported : (making : Making) (known : Options) → AsksMaking (asked (line_of command options)) making known → Reports (files_of (line_of command options)) making known bytes text status → Says command options bytes text status
  helped : WantsHelp (asked (line_of command options)).faults → status ≡ 0 → Says command options bytes text status
  refused : IsRefused (asked (line_of command options)) → IsTurnedAway text status → Says command options bytes text status
  for_others : (r : Request) → IsForOthers r → Answers (asked (line_of command options)) r → IsTurnedAway text status → Says command options bytes text status
  no_text : (IsUtf8 command × IsUtf8 options → ⊥) → IsTurnedAway text status → Says command options bytes text status
  out_of_memory : text ≡ refusal_line OutOfMemory → status ≡ 3 → Says command options bytes text status

-- both texts are one, and the length of the second is told
abbrev pub IsSaid : List ℕ → List ℕ → List ℕ → List ℕ → ℕ → ℕ → Type 0
IsSaid command options bytes both tail status = (text errors : List ℕ) × Says command options bytes text status × (both ≡ text ++ errors) × (tail ≡ length errors)

-- the room is filled with standard output and then standard error. The length of the second is told, and the result is
-- the status
abbrev pub Speaks : List ℕ → List ℕ → List ℕ → List ℕ → List ℕ → ℕ → ℕ → ℕ → Type 0
Speaks command options bytes old new told tail result = (both : List ℕ) × (status : ℕ)
    × IsSaid command options bytes both tail status × Fills both status old new told result
