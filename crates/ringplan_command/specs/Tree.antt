-- The commands and options of the program, as clap sees them.
use Rattle.std.specs.Prelude.{◌≡◌, ℕ, true, false, List, Some, pos, codes}
use Rattle.clap.specs.Words.{App, Rule, app_of, new_app, new_rule, with_rule, with_subcommand}
use Rattle.clap.specs.declared.builder.action.ArgAction.TheVariants.{Append, SetTrue}
use Rattle.clap.specs.declared.builder.command.Command.{Command}
use Rattle.clap.specs.declared.builder.command.Command.TheViews.{out-Command}
use Rattle.clap.specs.declared.builder.value_parser.ValueParser.TheVariants as parser
use Rattle.ringplan_request.specs.declared.job.Job.{Job}
use Rattle.ringplan_request.specs.declared.job.Job.TheVariants.{Check, Migrate, Plan, Play, Replay}

-- the word that asks for a job
abbrev pub word_of : Job → List ℕ
word_of Check = codes "check"
word_of Migrate = codes "migrate"
word_of Play = codes "play"
word_of Plan = codes "plan"
word_of Replay = codes "replay"

-- the word that asks for a drive
abbrev pub drive_word : List ℕ
drive_word = codes "drive"

-- the word that asks for a part
abbrev pub part_word : List ℕ
part_word = codes "part"

-- the word that asks for a watch
abbrev pub watch_word : List ℕ
watch_word = codes "watch"

-- the command is read by these rules, none of which goes for its subcommands too
abbrev pub IsApp : App → Command → Type 0
IsApp app command = (app_of command ≡ app) × ((out-Command command).has_globals ≡ false)

-- an option that is there or not
abbrev pub flag_option : List ℕ → Rule
flag_option word = record (new_rule word) { long = Some word; action = Some SetTrue }

-- an option with a value
abbrev pub text_option : List ℕ → Rule
text_option word = record (new_rule word) { long = Some word; value_names = 1 }

-- an option that may stand several times
abbrev pub list_option : List ℕ → Rule
list_option word = record (text_option word) { action = Some Append }

-- an option with a number from the one to the other
abbrev pub number_option : List ℕ → ℕ → ℕ → Rule
number_option word least most = record (text_option word) { parser = Some (parser.Signed (pos least) (pos most)) }

abbrev pub workers_option : Rule
workers_option = number_option (codes "workers") 1 64

abbrev pub cut_option : List ℕ → Rule
cut_option word = number_option word 1 1000000

abbrev pub rate_option : Rule
rate_option = number_option (codes "rate") 1 4294967295

-- the files that are read, one after the other
abbrev pub file_argument : Rule
file_argument = record (new_rule (codes "file")) { value_names = 1; action = Some Append }

-- `-o FILE`, the file that is written
abbrev pub output_option : Rule
output_option = record (text_option (codes "output")) { short = Some 111 }

-- a subcommand, which may name files
abbrev pub job_app : List ℕ → App
job_app word = with_rule (with_rule (new_app word) file_argument) output_option

-- a subcommand that reads nothing, and may name a file that is written
abbrev pub guide_app : List ℕ → App
guide_app word = with_rule (new_app word) output_option

-- an argument that must be given
abbrev pub needed_argument : List ℕ → Rule
needed_argument word = record (new_rule word) { value_names = 1; required = true }

abbrev pub completions_app : App
completions_app = with_rule (guide_app (codes "completions")) (needed_argument (codes "shell"))

abbrev pub check_app : App
check_app = with_rule (with_rule (job_app (codes "check")) workers_option) (text_option (codes "format"))

abbrev pub replay_app : App
replay_app = with_rule (job_app (codes "replay")) (text_option (codes "format"))

abbrev pub part_app : App
part_app = with_rule (with_rule (with_rule (with_rule (job_app part_word) (number_option (codes "of") 1 4096)) (number_option (codes "part") 0 4095)) (text_option (codes "partitions")))
    (number_option (codes "map") 0 999999)

-- a subcommand that names a file with a bundle, and never a file that is written
abbrev pub watch_app : App
watch_app = with_rule (with_rule (new_app watch_word) (needed_argument (codes "file"))) (number_option (codes "every") 1 4294967295)

abbrev pub drive_app : App
drive_app = with_rule (with_rule (job_app drive_word) workers_option) (text_option (codes "format"))

-- a subcommand with words for people, which may be in colours or JSON
abbrev pub words_app : List ℕ → App
words_app word = with_rule (with_rule (job_app word) (text_option (codes "format"))) (text_option (codes "color"))

abbrev pub why_app : App
why_app = words_app (codes "why")

-- a subcommand that is told of nodes and partitions
abbrev pub known_app : App → App
known_app app = with_rule (with_rule (with_rule app (text_option (codes "layout"))) (list_option (codes "dead"))) (text_option (codes "racks-behind"))

abbrev pub show_app : App
show_app = with_rule (with_rule (known_app (words_app (codes "show"))) (flag_option (codes "all"))) rate_option

abbrev pub draw_app : App
draw_app = with_rule (known_app (job_app (codes "draw"))) (flag_option (codes "map"))

abbrev pub steps_app : App
steps_app = with_rule (known_app (job_app (codes "steps"))) (flag_option (codes "moves"))

abbrev pub windows_app : App
windows_app = with_rule (with_rule (known_app (job_app (codes "windows"))) (record (cut_option (codes "rounds")) { required = true })) (cut_option (codes "only"))

abbrev pub goal_app : App
goal_app = with_rule (with_rule (with_rule (known_app (job_app (codes "goal"))) (flag_option (codes "partial"))) (flag_option (codes "exit-code"))) (text_option (codes "format"))

-- a subcommand that is told what changes in a plan that has begun
abbrev pub changed_app : App → App
changed_app app = with_rule (with_rule app (list_option (codes "leave"))) (flag_option (codes "rest"))

abbrev pub around_app : App
around_app = with_rule (with_rule (changed_app (known_app (job_app (codes "around")))) (flag_option (codes "back"))) (flag_option (codes "all"))

-- the program's name, which wants a subcommand, and its version
abbrev pub top_app : App
top_app = let app = new_app (codes "ringplan") in record app { top = record app.top { subcommand_required = true; has_version = true } }

-- a program with one subcommand more
abbrev pub with : App → App → App
with app sub = with_subcommand app sub.top

-- the first eight subcommands, then those with a bundle, and then all
abbrev pub first_commands : App
first_commands = with (with (with (with (with (with (with (with top_app goal_app) around_app) show_app) draw_app) check_app) why_app) steps_app) windows_app

abbrev pub bundle_commands : App
bundle_commands = with (with (with (with (with (with (with (with (with first_commands drive_app) (job_app (codes "play"))) replay_app) part_app) watch_app) (job_app (codes "after")))
    (job_app (codes "cert"))) (job_app (codes "plan"))) (job_app (codes "migrate"))

abbrev pub ringplan : App
ringplan = with (with bundle_commands completions_app) (guide_app (codes "man"))
