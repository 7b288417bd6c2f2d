-- The command lines of the program.
use Rattle.std.specs.Prelude.{◌≡◌, ◌≢◌, ◌⊎◌, ℕ, Bool, false, List, Option, Some, None, [], codes, ⊤, if◌then◌else◌, option_and_then}
use Rattle.std.specs.Option.{option_map_or}
use Rattle.std.specs.Str.{bytes_eq}
use Rattle.clap.specs.Words.{IsAmong, Kinds, Row, fault_of, first_of, one_of, subcommand_of}
use Rattle.clap.specs.declared.error.kind.ErrorKind.{ErrorKind}
use Rattle.clap.specs.declared.error.kind.ErrorKind.TheVariants.{DisplayHelp, DisplayVersion}
use Rattle.ringplan_command.specs.Files.{text_named}
use Rattle.change_text.specs.declared.options.Options.{Options}
use Rattle.ringplan_command.specs.Makings.{HasNoRacks, MeansMaking, NamesNoDetour, but_text, left_texts}
use Rattle.ringplan_command.specs.Numbers.{HasNoNumber, IsCount, IsNumberTo}
use Rattle.ringplan_command.specs.Parts.{MeansPart, PartTexts}
use Rattle.ringplan_command.specs.Slots.{HasNoSlot}
use Rattle.ringplan_command.specs.Tree.{drive_word, part_word, ringplan, watch_word, word_of}
use Rattle.ringplan_command.specs.declared.command.Request.{Request}
use Rattle.ringplan_command.specs.declared.command.Request.TheVariants.{Do, CheckBy, State, StateBy, Part, Watch, Drive, Make, Describe, Help, Mistaken, OutOfMemory}
use Rattle.ringplan_command.specs.declared.word.Guide.{Guide}
use Rattle.ringplan_command.specs.declared.word.Guide.TheVariants.{Completions, Manual}
use Rattle.ringplan_command.specs.declared.word.Word.{Word}
use Rattle.ringplan_command.specs.declared.word.Word.TheVariants as people
use Rattle.ringplan_request.specs.declared.making.Making.{Making}
use Rattle.ringplan_request.specs.declared.making.Making.TheVariants.{Why, Cert, After, Show, Draw, Steps, Moves, Windows, Goal, Around, State as StateMaking}
use Rattle.ringplan_request.specs.declared.making.Statement.{Statement}
use Rattle.ringplan_request.specs.declared.making.Statement.TheVariants as stated
use Rattle.ringplan_command.specs.declared.parts.PartWish.{PartWish}
use Rattle.ringplan_command.specs.declared.command.Format.{Format}
use Rattle.ringplan_command.specs.declared.command.Format.TheVariants as format
use Rattle.ringplan_command.specs.declared.form.Form.{Form}
use Rattle.ringplan_command.specs.declared.form.Form.TheVariants.{History, Report}
use Rattle.ringplan_request.specs.declared.job.Job.{Job}
use Rattle.ringplan_request.specs.declared.job.Job.TheVariants.{Check, Migrate, Plan, Play, Replay}

-- the command for people by which a statement is asked for
abbrev pub word_of_statement : Statement → Word
word_of_statement stated.Why = people.Why
word_of_statement (stated.Show wish) = people.Show
word_of_statement (stated.Goal exit) = people.Goal

-- the command for people by which a making is asked for
abbrev pub word_of_making : Making → Word
word_of_making (Why color) = people.Why
word_of_making (StateMaking statement) = word_of_statement statement
word_of_making (Show wish) = people.Show
word_of_making (Draw shown) = people.Draw
word_of_making Steps = people.Steps
word_of_making Moves = people.Steps
word_of_making (Goal exit) = people.Goal
word_of_making (Around detour) = people.Around
word_of_making (Windows cut) = people.Windows
word_of_making Cert = people.Cert
word_of_making After = people.After

-- what is to be done: a job, a part, a watch, a drive, or a text about the program. Or what a command for
-- people makes by the rows of its options. A watch has the text of the number of entries after which it says
-- how far it is
pub data Task : Type 0 where
  to_do : Job → Task
  to_part : PartTexts → Task
  to_watch : Option (List ℕ) → Task
  to_drive : Task
  to_make : Word → List Row → Task
  to_describe : Guide → Task

-- what the words of a command line ask: how they fail, or otherwise what is to be done. Also the texts of the
-- named workers and of the named form
pub record Asked : Type 0 where
  pub faults : Kinds
  pub task : Task
  pub workers : Option (List ℕ)
  pub json : Option (List ℕ)

-- the subcommand has that name
abbrev pub is_word : List ℕ → Option (List ℕ × List Row) → Bool
is_word word subcommand = option_map_or (λ x. bytes_eq x.0 word) subcommand false

-- the subcommand is that of the job
abbrev pub is_named : Job → Option (List ℕ × List Row) → Bool
is_named job subcommand = is_word (word_of job) subcommand

-- the job of a subcommand, by its name
abbrev pub job_named : Option (List ℕ × List Row) → Job
job_named subcommand = if is_named Play subcommand then Play else (if is_named Plan subcommand then Plan else (if is_named Migrate subcommand then Migrate else (if is_named Replay subcommand then Replay else Check)))

-- the command for people of a subcommand, by its name
abbrev pub more_named : Option (List ℕ × List Row) → Option Word
more_named subcommand = if is_word (codes "goal") subcommand then Some people.Goal else (if is_word (codes "windows") subcommand then Some people.Windows
    else (if is_word (codes "cert") subcommand then Some people.Cert else (if is_word (codes "after") subcommand then Some people.After
    else (if is_word (codes "around") subcommand then Some people.Around else None))))

abbrev pub word_named : Option (List ℕ × List Row) → Option Word
word_named subcommand = if is_word (codes "why") subcommand then Some people.Why else (if is_word (codes "show") subcommand then Some people.Show
    else (if is_word (codes "draw") subcommand then Some people.Draw else (if is_word (codes "steps") subcommand then Some people.Steps
    else more_named subcommand)))

-- the text about the program of a subcommand, by its name
abbrev pub guide_named : Option (List ℕ × List Row) → Option Guide
guide_named subcommand = if is_word (codes "completions") subcommand then Some Completions else (if is_word (codes "man") subcommand then Some Manual else None)

-- the text that the subcommand has for an option
abbrev pub option_named : List ℕ → Option (List ℕ × List Row) → Option (List ℕ)
option_named id subcommand = option_and_then (λ x. one_of id x.1) subcommand

-- the texts by which it says which part it asks for
abbrev pub part_texts : Option (List ℕ × List Row) → PartTexts
part_texts subcommand = record {
  of = option_named (codes "of") subcommand;
  part = option_named (codes "part") subcommand;
  partitions = text_named (codes "partitions") subcommand;
  map = option_named (codes "map") subcommand;
}

-- the rows of its options
abbrev pub rows_named : Option (List ℕ × List Row) → List Row
rows_named subcommand = option_map_or (λ x. x.1) subcommand []

-- what it asks to be done
abbrev pub task_named : Option (List ℕ × List Row) → Task
task_named subcommand = if is_word drive_word subcommand then to_drive else (if is_word part_word subcommand then to_part (part_texts subcommand)
    else (if is_word watch_word subcommand then to_watch (option_named (codes "every") subcommand) else option_map_or to_describe (guide_named subcommand) (option_map_or (λ w. to_make w (rows_named subcommand)) (word_named subcommand) (to_do (job_named subcommand)))))

-- the text of the workers; but for `check` and `drive`, no subcommand names them
abbrev pub workers_named : Task → Option (List ℕ × List Row) → Option (List ℕ)
workers_named (to_do Check) subcommand = option_named (codes "workers") subcommand
workers_named to_drive subcommand = option_named (codes "workers") subcommand
workers_named task subcommand = None

abbrev pub format_named : Option (List ℕ × List Row) → Option (List ℕ)
format_named subcommand = but_text (option_and_then (λ x. first_of (codes "format") x.1) subcommand)

-- the text of the form; but for `drive`, `check` and `replay`, no subcommand names one
abbrev pub json_named : Task → Option (List ℕ × List Row) → Option (List ℕ)
json_named (to_do Check) subcommand = format_named subcommand
json_named (to_do Replay) subcommand = format_named subcommand
json_named to_drive subcommand = format_named subcommand
json_named task subcommand = None

-- what a line with these faults and this subcommand asks
abbrev pub asked_by : Kinds → Option (List ℕ × List Row) → Asked
asked_by faults subcommand = let task = task_named subcommand in
    record { faults = faults; task = task; workers = workers_named task subcommand; json = json_named task subcommand }

-- what these words ask
abbrev pub asked : List (List ℕ) → Asked
asked words = asked_by (fault_of ringplan words) (subcommand_of ringplan words)

-- just that job
abbrev pub only : Job → Asked
only job = record { faults = []; task = to_do job; workers = None; json = None }

-- a check by workers, of which the text tells how many
abbrev pub by_workers : List ℕ → Asked
by_workers text = record { faults = []; task = to_do Check; workers = Some text; json = None }

-- what is asked, with an answer as JSON
abbrev pub in_json : Asked → Asked
in_json asked = record asked { json = Some (codes "json") }

-- a drive, with those texts of workers and form, if they are named
abbrev pub by_drive : Option (List ℕ) → Option (List ℕ) → Asked
by_drive workers json = record { faults = []; task = to_drive; workers = workers; json = json }

abbrev pub IsWorkers : List ℕ → ℕ → Type 0
IsWorkers text k = IsNumberTo 64 text k

-- what is asked is a check by k workers
abbrev pub AsksBy : Asked → ℕ → Type 0
AsksBy asked k = (text : List ℕ) × (asked ≡ by_workers text) × IsWorkers text k

-- what is asked is that job; a check may be by workers
abbrev pub Asks : Asked → Job → Type 0
Asks asked job = (asked ≡ only job) ⊎ ((job ≡ Check) × ((k : ℕ) × AsksBy asked k))

-- what is asked is a check by k workers, with an answer as JSON
abbrev pub AsksJsonBy : Asked → ℕ → Type 0
AsksJsonBy asked k = (text : List ℕ) × (asked ≡ in_json (by_workers text)) × IsWorkers text k

-- what is asked is that job with an answer as JSON; a check may be by workers
abbrev pub AsksJson : Asked → Job → Type 0
AsksJson asked job = (asked ≡ in_json (only job)) ⊎ ((job ≡ Check) × ((k : ℕ) × AsksJsonBy asked k))

-- so many workers are meant: one where none are named
abbrev pub IsMany : Option (List ℕ) → ℕ → Type 0
IsMany workers k = IsCount 64 1 workers k

-- the form is the one that is named: a report for `json`, and a history if none is named
abbrev pub IsForm : Option (List ℕ) → Form → Type 0
IsForm json Report = json ≡ Some (codes "json")
IsForm json History = json ≡ None

-- what is asked is a drive by k workers, printed in that form
abbrev pub AsksDrive : Asked → ℕ → Form → Type 0
AsksDrive asked k form = (workers json : Option (List ℕ)) × (asked ≡ by_drive workers json) × IsMany workers k × IsForm json form

-- the faults ask for help, or for the version
abbrev pub WantsHelp : Kinds → Type 0
WantsHelp kinds = IsAmong DisplayHelp kinds ⊎ IsAmong DisplayVersion kinds

-- some fault is a mistake
abbrev pub IsMistaken : Kinds → Type 0
IsMistaken kinds = (k : ErrorKind) × (k ≢ DisplayHelp) × (k ≢ DisplayVersion) × IsAmong k kinds

-- a form of answers is named that there is not
abbrev pub HasNoFormat : Asked → Type 0
HasNoFormat asked = (text : List ℕ) × (asked.json ≡ Some text) × (text ≢ codes "json")

-- what was read of the text that names the form of answers
abbrev pub MeansFormat : Option (List ℕ) → Format → Type 0
MeansFormat json format.Text = json ≡ None
MeansFormat json format.Json = json ≡ Some (codes "json")
MeansFormat json format.Unknown = (text : List ℕ) × (json ≡ Some text) × (text ≢ codes "json")

-- just that, with no number of workers and no form
abbrev pub asks_just : Task → Asked
asks_just task = record { faults = []; task = task; workers = None; json = None }

-- what is asked is just what a command for people makes by these rows of options
abbrev pub AsksWord : Asked → Word → List Row → Type 0
AsksWord asked w rows = asked ≡ asks_just (to_make w rows)

-- what is asked is that making by these options: its command by its word, and all else by the options of the line
abbrev pub AsksMaking : Asked → Making → Options → Type 0
AsksMaking asked making options = (rows : List Row) × AsksWord asked (word_of_making making) rows × MeansMaking rows making options

-- what is asked is just that text about the program
abbrev pub AsksGuide : Asked → Guide → Type 0
AsksGuide asked guide = asked ≡ asks_just (to_describe guide)

-- what is asked is that part
abbrev pub AsksPart : Asked → PartWish → Type 0
AsksPart asked wish = (texts : PartTexts) × (asked ≡ asks_just (to_part texts)) × MeansPart texts wish

-- what is asked is a watch that says how far it is after each so many entries, or never, which is 0
abbrev pub AsksWatch : Asked → ℕ → Type 0
AsksWatch asked every = (text : Option (List ℕ)) × (asked ≡ asks_just (to_watch text)) × IsCount 4294967295 0 text every

-- the subcommand has an argument with a value that may be refused beside the words of the line. For a part, the
-- words mean no part
abbrev pub TakesValues : Task → Type 0
TakesValues (to_make people.Why rows) = ⊤
TakesValues (to_make people.Show rows) = ⊤
TakesValues (to_make people.Draw rows) = ⊤
TakesValues (to_make people.Goal rows) = ⊤
TakesValues (to_make people.Steps rows) = HasNoRacks rows
TakesValues (to_make people.Around rows) = HasNoRacks rows ⊎ (HasNoSlot (left_texts rows) ⊎ NamesNoDetour rows)
TakesValues (to_make people.Windows rows) = HasNoRacks rows ⊎ (HasNoNumber 1000000 (one_of (codes "rounds") rows) ⊎ HasNoNumber 1000000 (one_of (codes "only") rows))
TakesValues (to_describe Completions) = ⊤
TakesValues (to_part texts) = (wish : PartWish) → MeansPart texts wish → ⊥
TakesValues (to_watch text) = HasNoNumber 4294967295 text
TakesValues task = ⊥

-- the line is refused: for its words, its workers, the form of the answer, or such a value
abbrev pub IsRefused : Asked → Type 0
IsRefused asked = IsMistaken asked.faults ⊎ (HasNoNumber 64 asked.workers ⊎ (HasNoFormat asked ⊎ ((task : Task) × (asked ≡ asks_just task) × TakesValues task)))

-- what a command line that asks so is taken for, memory aside
abbrev pub Answers : Asked → Request → Type 0
Answers asked (Do job) = asked ≡ only job
Answers asked (CheckBy workers) = AsksBy asked workers
Answers asked (State job) = asked ≡ in_json (only job)
Answers asked (StateBy workers) = AsksJsonBy asked workers
Answers asked (Part wish) = AsksPart asked wish
Answers asked (Watch every) = AsksWatch asked every
Answers asked (Drive workers form) = AsksDrive asked workers form
Answers asked (Make making options) = AsksMaking asked making options
Answers asked (Describe text) = (guide : Guide) × AsksGuide asked guide
Answers asked (Help text) = WantsHelp asked.faults
Answers asked (Mistaken text) = IsRefused asked
Answers asked OutOfMemory = ⊤

-- a line that is refused
abbrev pub IsTurnedAway : Request → Type 0
IsTurnedAway (Mistaken text) = ⊤
IsTurnedAway _ = ⊥

-- of a request for text and another for JSON, the line is the one that the form names. Without a form it is
-- refused
abbrev pub IsInFormat : Format → Request → Request → Request → Type 0
IsInFormat format.Text plain stated line = line ≡ plain
IsInFormat format.Json plain stated line = line ≡ stated
IsInFormat format.Unknown plain stated line = IsTurnedAway line

-- what that command for people makes by its options, or a line that is refused for the value of one of them
abbrev pub IsOfWord : Word → List Row → Request → Type 0
IsOfWord w rows (Make making options) = (word_of_making making ≡ w) × MeansMaking rows making options
IsOfWord w rows (Mistaken text) = TakesValues (to_make w rows)
IsOfWord w rows _ = ⊥

-- a text about the program, or a line that is refused for the value of an argument of its subcommand
abbrev pub IsOfGuide : Guide → Request → Type 0
IsOfGuide guide (Describe text) = ⊤
IsOfGuide guide (Mistaken text) = TakesValues (to_describe guide)
IsOfGuide guide _ = ⊥
