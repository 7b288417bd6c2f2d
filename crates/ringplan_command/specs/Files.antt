-- The files that a command line names.
use Rattle.std.specs.Prelude.{ℕ, Bool, List, [], Option, Some, None, codes, ⊤, if◌then◌else◌, map, option_and_then, option_map, string_bytes, unwrap_or}
use Rattle.std.specs.List.{list_all}
use Rattle.std.specs.Str.{bytes_eq}
use Rattle.clap.specs.Words.{Row, all_of, first_of, subcommand_of}
use Rattle.ringplan_command.specs.Tree.{ringplan}
use Rattle.ringplan_command.specs.declared.command.Request.{Request}
use Rattle.ringplan_command.specs.declared.command.Request.TheVariants.{Do, CheckBy, State, StateBy, Part, Watch, Drive, Make, Describe}
use Rattle.ringplan_command.specs.declared.files.Files.{Files}

-- the names of the files that are read one after the other, and of the file that is written. None if only the
-- standard streams are
pub record Names : Type 0 where
  pub inputs : List (List ℕ)
  pub output : Option (List ℕ)

abbrev pub no_files : Names
no_files = record { inputs = []; output = None }

-- `-` names no file
abbrev pub but_dash : Option (List ℕ) → Option (List ℕ)
but_dash None = None
but_dash (Some name) = if bytes_eq name (codes "-") then None else Some name

-- each of the names is `-`
abbrev pub are_dashes : List (List ℕ) → Bool
are_dashes names = list_all (λ name. bytes_eq name (codes "-")) names

-- the names of what is read; none if each is `-`, which is standard input
abbrev pub but_dashes : List (List ℕ) → List (List ℕ)
but_dashes names = if are_dashes names then [] else names

-- the text of an argument of the subcommand
abbrev pub text_named : List ℕ → Option (List ℕ × List Row) → Option (List ℕ)
text_named id subcommand = option_and_then (λ x. first_of id x.1) subcommand

-- the texts of an argument of the subcommand, in their order
abbrev pub texts_named : List ℕ → Option (List ℕ × List Row) → List (List ℕ)
texts_named id subcommand = unwrap_or (option_and_then (λ x. all_of id x.1) subcommand) []

-- the files of a subcommand
abbrev pub files_named : Option (List ℕ × List Row) → Names
files_named subcommand = record { inputs = but_dashes (texts_named (codes "file") subcommand); output = but_dash (text_named (codes "output") subcommand) }

-- the files that these words name
abbrev pub files_of : List (List ℕ) → Names
files_of words = files_named (subcommand_of ringplan words)

-- the names that were read
abbrev pub files_in : Files → Names
files_in files = record { inputs = map string_bytes files.inputs.items; output = option_map string_bytes files.output }

-- a job is asked for, or a text about the program: what may name files
abbrev pub IsJob : Request → Type 0
IsJob (Do job) = ⊤
IsJob (CheckBy workers) = ⊤
IsJob (State job) = ⊤
IsJob (StateBy workers) = ⊤
IsJob (Part wish) = ⊤
IsJob (Watch every) = ⊤
IsJob (Drive workers form) = ⊤
IsJob (Make making options) = ⊤
IsJob (Describe text) = ⊤
IsJob _ = ⊥
