-- What `clap` makes of the program's command lines.
use Rattle.std.proofs.Common.{◌≡◌, ◌≢◌, ◌⊎◌, MatchOption, ℕ, [], ◌∷◌, List, Result, Ok, Err, Option, Some, None, IfOk, true, false, codes, option_map, refl, sym, ap, ◌∙◌, subst, drop, inl, inr}
use Rattle.std.specs.Prelude.{unwrap_or}
use Rattle.std.specs.Str.{bytes_eq}
use Rattle.std.specs.Str.Parse.{ParsesUnsigned}
use Rattle.clap.specs.Words.{App, FailsBy, IsAmong, Kinds, Row, TriesOne, all_of, fault_of, is_simple, is_simple_and_free, built, first_of, first_value, one_of, one_text, rows_of, subcommand_of, subcommand_rows_of, HasMatchesOf}
use Rattle.clap.specs.Simple.{names_of, entered}
use Rattle.clap.specs.Walk.{stop_after}
use Rattle.clap.specs.Faults.{built_fault}
use Rattle.clap.specs.Walk.{nothing_held}
use Rattle.clap.specs.declared.error.Error.{Error}
use Rattle.clap.specs.declared.error.kind.ErrorKind.{ErrorKind}
use Rattle.clap.specs.declared.error.kind.ErrorKind.TheVariants.{DisplayHelp, DisplayVersion}
use Rattle.clap.specs.declared.error.kind.ErrorKind.TheVariants as kind
use Rattle.clap.specs.declared.parser.matches.ArgMatches.{ArgMatches}
use Rattle.clap.specs.declared.parser.matches.Found.{Found}
use Rattle.clap.proofs.WalkLemmas.{first_value-rows, one_text-rows}
use Rattle.clap.proofs.OnLiterals.{clap_on_literals}
use Rattle.ring_names.proofs.AtBytes.{same_bytes}
use Rattle.ringplan_command.specs.Tree.{ringplan, word_of}
use Rattle.ringplan_command.specs.Files.{IsJob, Names, files_named, files_of, no_files, text_named, texts_named}
use Rattle.ringplan_command.specs.declared.word.Guide.{Guide}
use Rattle.ringplan_command.specs.declared.word.Word.{Word}
use Rattle.ringplan_command.specs.declared.command.Format.{Format}
use Rattle.ringplan_command.specs.declared.command.Format.TheVariants as form
use Rattle.ringplan_command.specs.declared.command.Request.{Request}
use Rattle.ringplan_command.specs.declared.command.Request.TheVariants.{Do, CheckBy, State, StateBy, Part, Watch, Drive, Make, Describe, Help, Mistaken, OutOfMemory}
use Rattle.ringplan_request.specs.declared.job.Job.{Job}
use Rattle.ringplan_request.specs.declared.job.Job.TheVariants.{Check, Migrate, Plan, Play, Replay}
use Rattle.ringplan_command.specs.Command.{Answers, Asked, IsMistaken, IsRefused, AsksGuide, AsksWord, IsInFormat, IsOfGuide, IsOfWord, IsTurnedAway, MeansFormat, TakesValues, WantsHelp}
use Rattle.ringplan_command.specs.Command.{Task, asked, asked_by, by_drive, by_workers, format_named, in_json, only, option_named, part_texts, rows_named, json_named, task_named, to_describe, to_do, to_drive, to_make, to_part, to_watch, word_of_making, asks_just}
use Rattle.ringplan_command.specs.Makings.{but_text}
use Rattle.ringplan_command.specs.Parts.{IsShare, MeansChoice, PartTexts, texts_in}
use Rattle.ring_names.specs.declared.choice.Choice.{Choice}
use Rattle.ring_names.specs.declared.choice.Choice.TheVariants.{Range, Share}
use Rattle.ringplan_command.specs.Numbers.{HasNoNumber}

is_free : is_simple_and_free ringplan ≡ true
unfolding clap_on_literals
is_free = refl

is_plain : is_simple ringplan ≡ true
unfolding clap_on_literals
is_plain = refl

-- what is asked by the words behind the program's name
behind : List (List ℕ) → Asked
behind rest = asked_by (built_fault (built ringplan) nothing_held rest) (entered (built ringplan) (stop_after (built ringplan).top.rules (names_of (built ringplan)) rest))

by_word : (job : Job) → behind (word_of job ∷ []) ≡ only job
unfolding clap_on_literals behind
by_word Check = refl
by_word Migrate = refl
by_word Play = refl
by_word Plan = refl
by_word Replay = refl

-- a line of only a job's word asks for the job
pub asked_alone : (job : Job) (words : List (List ℕ)) → drop 1 words ≡ word_of job ∷ [] → asked words ≡ only job
unfolding behind
asked_alone job words e = ap behind e ∙ by_word job

-- what a parse by a command that is `ringplan` gives
pub parsed : {T : Type 0} (app : App) (words : List (List ℕ)) (r : Result T Error) → app ≡ ringplan → (is_simple_and_free app ≡ true → FailsBy (fault_of app words) r) → FailsBy (fault_of ringplan words) r
parsed app words r e h = let P : App → Type 0 = λ a. is_simple_and_free a ≡ true → FailsBy (fault_of a words) r in subst P e h is_free

-- the subcommand that such a parse entered
pub entered_by : (app : App) (words : List (List ℕ)) (m : ArgMatches) → app ≡ ringplan → HasMatchesOf app words m → subcommand_rows_of m ≡ subcommand_of ringplan words
entered_by app words m e h = (let P : App → Type 0 = λ a. HasMatchesOf a words m in subst P e h is_plain).1

-- what answers a line with no fault and the subcommand that was entered answers the words
pub answers_words : {T E : Type 0} (request_in : T → Request) (words : List (List ℕ)) (m : ArgMatches) (r : Result T E) → fault_of ringplan words ≡ []
    → subcommand_rows_of m ≡ subcommand_of ringplan words → IfOk r (λ x. Answers (asked_by [] (subcommand_rows_of m)) (request_in x)) → IfOk r (λ x. Answers (asked words) (request_in x))
answers_words request_in words m r none met h =
    let same : asked_by [] (subcommand_rows_of m) ≡ asked words = λ i. asked_by (sym none i) (met i) in
    subst (λ (a : Asked). IfOk r (λ x. Answers a (request_in x))) same h

-- ---- the options that `check` and `drive` name

-- no subcommand names none
pub none_named : (sub : Option (List ℕ × List Row)) → None ≡ option_map (λ p. p.1) sub → task_named sub ≡ to_do Check → asked_by [] sub ≡ only Check
none_named None e is = refl
none_named (Some x) e is = absurd cc

-- the text of an option is that of the subcommand that was entered
pub named_there : (sub : Option (List ℕ × List Row)) (rows : List Row) (id : List ℕ) → Some rows ≡ option_map (λ p. p.1) sub → option_named id sub ≡ one_of id rows
named_there None rows id e = absurd cc
named_there (Some x) rows id e = let same : rows ≡ x.1 = cc in rw same refl

-- the text of an argument likewise
pub text_there : (sub : Option (List ℕ × List Row)) (rows : List Row) (id : List ℕ) → Some rows ≡ option_map (λ p. p.1) sub → text_named id sub ≡ first_of id rows
text_there None rows id e = absurd cc
text_there (Some x) rows id e = let same : rows ≡ x.1 = cc in rw same refl

-- the texts of an argument likewise
pub texts_there : (sub : Option (List ℕ × List Row)) (rows : List Row) (id : List ℕ) → Some rows ≡ option_map (λ p. p.1) sub → texts_named id sub ≡ unwrap_or (all_of id rows) []
texts_there None rows id e = absurd cc
texts_there (Some x) rows id e = let same : rows ≡ x.1 = cc in rw same refl

-- one without the option names none
pub none_given : (sub : Option (List ℕ × List Row)) → task_named sub ≡ to_do Check → option_named (codes "workers") sub ≡ None → format_named sub ≡ None → asked_by [] sub ≡ only Check
none_given sub is none text = rw (is, none, text) refl

pub none_stated : (sub : Option (List ℕ × List Row)) → task_named sub ≡ to_do Check → option_named (codes "workers") sub ≡ None → format_named sub ≡ Some (codes "json")
    → asked_by [] sub ≡ in_json (only Check)
none_stated sub is none json = rw (is, none, json) refl

-- one with the option names its text
pub some_given : (sub : Option (List ℕ × List Row)) (text : List ℕ) → task_named sub ≡ to_do Check → option_named (codes "workers") sub ≡ Some text → format_named sub ≡ None
    → asked_by [] sub ≡ by_workers text
some_given sub text is some none = rw (is, some, none) refl

pub some_stated : (sub : Option (List ℕ × List Row)) (text : List ℕ) → task_named sub ≡ to_do Check → option_named (codes "workers") sub ≡ Some text → format_named sub ≡ Some (codes "json")
    → asked_by [] sub ≡ in_json (by_workers text)
some_stated sub text is some json = rw (is, some, json) refl

-- a replay names nothing but the form of its answer
pub replay_given : (sub : Option (List ℕ × List Row)) → task_named sub ≡ to_do Replay → format_named sub ≡ None → asked_by [] sub ≡ only Replay
replay_given sub is none = rw (is, none) refl

pub replay_stated : (sub : Option (List ℕ × List Row)) → task_named sub ≡ to_do Replay → format_named sub ≡ Some (codes "json") → asked_by [] sub ≡ in_json (only Replay)
replay_stated sub is json = rw (is, json) refl

-- one whose form is none that there is is refused
pub bad_form : (sub : Option (List ℕ × List Row)) (task : Task) (text : List ℕ) → task_named sub ≡ task → json_named task sub ≡ Some text → text ≢ codes "json" → IsRefused (asked_by [] sub)
bad_form sub task text is some other = inr (inr (inl (text, ap (λ (t : Task). json_named t sub) is ∙ some, other)))

-- a drive names what it names
pub drive_given : (sub : Option (List ℕ × List Row)) → task_named sub ≡ to_drive → asked_by [] sub ≡ by_drive (option_named (codes "workers") sub) (format_named sub)
drive_given sub is = rw is refl

-- one whose text is not a number is refused
pub bad_given : (sub : Option (List ℕ × List Row)) → task_named sub ≡ to_do Check → HasNoNumber 64 (option_named (codes "workers") sub) → IsRefused (asked_by [] sub)
bad_given sub is h = inr (inl (rw is h))

pub bad_driven : (sub : Option (List ℕ × List Row)) → task_named sub ≡ to_drive → HasNoNumber 64 (option_named (codes "workers") sub) → IsRefused (asked_by [] sub)
bad_driven sub is h = inr (inl (rw is h))

module _ {E : Type 0} (G : List ℕ → Result ℕ E → Type 0) (parses : (bs : List ℕ) (s : Result ℕ E) → G bs s → ParsesUnsigned 32 10 bs s) (o : Option (List ℕ)) (r : Result (Option ℕ) E)
    (none : o ≡ None → r ≡ Ok None) (value : (t : List ℕ) → o ≡ Some t → TriesOne G t r) where
  -- nothing is read if there is no text
  pub nothing_read : r ≡ Ok None → o ≡ None
  nothing_read is = by o refl
    where
      by : (p : Option (List ℕ)) → o ≡ p → o ≡ None
      by None e = e
      by (Some t) e = let bad = rw is at (value t e) in absurd bad

pub helped : (kinds : Kinds) (k : ErrorKind) → (k ≡ DisplayHelp) ⊎ (k ≡ DisplayVersion) → (k ≡ kind.OutOfMemory) ⊎ IsAmong k kinds → WantsHelp kinds
helped kinds k (inl e) (inl h) = let bad : DisplayHelp ≡ kind.OutOfMemory = cc in absurd cc
helped kinds k (inr e) (inl h) = let bad : DisplayVersion ≡ kind.OutOfMemory = cc in absurd cc
helped kinds k (inl e) (inr h) = let P : ErrorKind → Type 0 = λ k. IsAmong k kinds in inl (subst P e h)
helped kinds k (inr e) (inr h) = let P : ErrorKind → Type 0 = λ k. IsAmong k kinds in inr (subst P e h)

-- another name of the same kind
pub asks_help : (j k : ErrorKind) → j ≡ k → (j ≡ DisplayHelp) ⊎ (j ≡ DisplayVersion) → (k ≡ DisplayHelp) ⊎ (k ≡ DisplayVersion)
asks_help j k e (inl is) = inl (sym e ∙ is)
asks_help j k e (inr is) = inr (sym e ∙ is)

pub mistaken : (kinds : Kinds) (k : ErrorKind) → k ≢ DisplayHelp → k ≢ DisplayVersion → k ≢ kind.OutOfMemory → (k ≡ kind.OutOfMemory) ⊎ IsAmong k kinds → IsMistaken kinds
mistaken kinds k n v m (inl h) = absurd (m h)
mistaken kinds k n v m (inr h) = (k, n, v, h)

none_mistaken : (kinds : Kinds) → kinds ≡ [] → IsMistaken kinds → ⊥
none_mistaken kinds e (k, n, v, h) = let P : Kinds → Type 0 = IsAmong k in subst P e h

none_helped : (kinds : Kinds) → kinds ≡ [] → WantsHelp kinds → ⊥
none_helped kinds e (inl h) = let P : Kinds → Type 0 = IsAmong DisplayHelp in subst P e h
none_helped kinds e (inr h) = let P : Kinds → Type 0 = IsAmong DisplayVersion in subst P e h

-- a line that asks only for a job is not refused
none_refused : (job : Job) (asked : Asked) → asked ≡ only job → IsRefused asked → ⊥
none_refused job asked e (inl h) = none_mistaken _ (ap (λ x. x.faults) e) h
none_refused job asked e (inr (inl (t, is, h))) = let none : Some t ≡ None = sym is ∙ ap (λ x. x.workers) e in absurd cc
none_refused job asked e (inr (inr (inl (text, is, other)))) = let none : Some text ≡ None = sym is ∙ ap (λ x. x.json) e in absurd cc
none_refused job asked e (inr (inr (inr (task, is, values)))) =
    let same : task ≡ to_do job = ap (λ x. x.task) (sym is ∙ e) in
    absurd (subst (λ (t : Task). TakesValues t) same values)

-- a refused line answers whatever is refused
pub turned_away : (asked : Asked) (r : Request) → IsRefused asked → IsTurnedAway r → Answers asked r
turned_away asked (Mistaken text) h is = h
turned_away asked (Do _) h is = absurd is
turned_away asked (CheckBy _) h is = absurd is
turned_away asked (State _) h is = absurd is
turned_away asked (StateBy _) h is = absurd is
turned_away asked (Part _) h is = absurd is
turned_away asked (Watch _) h is = absurd is
turned_away asked (Drive _ _) h is = absurd is
turned_away asked (Make _ _) h is = absurd is
turned_away asked (Describe _) h is = absurd is
turned_away asked (Help _) h is = absurd is
turned_away asked OutOfMemory h is = absurd is

pub refused_line : {E : Type 0} → (asked : Asked) (r : Result Request E) → IsRefused asked → IfOk r IsTurnedAway → IfOk r (Answers asked)
refused_line asked (Ok line) is h = turned_away asked line is h
refused_line asked (Err e) is h = tt

-- ---- the form of an answer

-- the form that is named is that of the subcommand that was entered
pub format_there : (sub : Option (List ℕ × List Row)) (rows : List Row) → Some rows ≡ option_map (λ p. p.1) sub → format_named sub ≡ but_text (first_of (codes "format") rows)
format_there None rows e = absurd cc
format_there (Some x) rows e = let same : rows ≡ x.1 = cc in rw same refl

-- texts that differ are not the same
pub texts_differ : (a b : List ℕ) → bytes_eq a b ≡ false → a ≢ b
texts_differ a b differs e = let bad : bytes_eq b b ≡ false = subst (λ (x : List ℕ). bytes_eq x b ≡ false) e differs in let worse : true ≡ false = sym (same_bytes b) ∙ bad in absurd cc

-- what is asked for in a form that was read answers the line
pub formed : {E : Type 0} (asked : Asked) (json : Option (List ℕ)) (format : Format) (plain stated : Request) (r : Result Request E) → MeansFormat json format
    → (json ≡ None → Answers asked plain) → (json ≡ Some (codes "json") → Answers asked stated) → ((text : List ℕ) → json ≡ Some text → text ≢ codes "json" → IsRefused asked)
    → IfOk r (IsInFormat format plain stated) → IfOk r (Answers asked)
formed asked json form.Text plain stated (Ok line) means none some bad is = rw is (none means)
formed asked json form.Json plain stated (Ok line) means none some bad is = rw is (some means)
formed asked json form.Unknown plain stated (Ok line) (text, named, other) none some bad is = turned_away asked line (bad text named other) is
formed asked json format plain stated (Err e) means none some bad is = tt

-- what a command for people makes answers a line that asks for it, and so does its refusal
pub of_word : {E : Type 0} (asked : Asked) (w : Word) (rows : List Row) (r : Result Request E) → AsksWord asked w rows → IfOk r (IsOfWord w rows) → IfOk r (Answers asked)
of_word asked w rows (Ok (Make making options)) e h = (rows, e ∙ ap (λ (v : Word). asks_just (to_make v rows)) (sym h.0), h.1)
of_word asked w rows (Ok (Mistaken text)) e h = inr (inr (inr (to_make w rows, e, h)))
of_word asked w rows (Ok (Do _)) e h = absurd h
of_word asked w rows (Ok (CheckBy _)) e h = absurd h
of_word asked w rows (Ok (State _)) e h = absurd h
of_word asked w rows (Ok (StateBy _)) e h = absurd h
of_word asked w rows (Ok (Part _)) e h = absurd h
of_word asked w rows (Ok (Watch _)) e h = absurd h
of_word asked w rows (Ok (Drive _ _)) e h = absurd h
of_word asked w rows (Ok (Describe _)) e h = absurd h
of_word asked w rows (Ok (Help _)) e h = absurd h
of_word asked w rows (Ok OutOfMemory) e h = absurd h
of_word asked w rows (Err x) e h = tt

-- the words of a command for people ask for what it makes
pub word_asked : (sub : Option (List ℕ × List Row)) (w : Word) (rows : List Row) → task_named sub ≡ to_make w rows → AsksWord (asked_by [] sub) w rows
word_asked sub w rows is = rw is refl

-- the rows that were found are the subcommand's
pub rows_there : (sub : Option (List ℕ × List Row)) (rows : List Row) → Some rows ≡ option_map (λ p. p.1) sub → rows_named sub ≡ rows
rows_there None rows e = absurd cc
rows_there (Some x) rows e = let same : rows ≡ x.1 = cc in sym same

-- a text about the program answers a line that asks for it, and so does its refusal
pub of_guide : {E : Type 0} (asked : Asked) (guide : Guide) (r : Result Request E) → AsksGuide asked guide → IfOk r (IsOfGuide guide) → IfOk r (Answers asked)
of_guide asked guide (Ok (Describe text)) e h = (guide, e)
of_guide asked guide (Ok (Mistaken text)) e h = inr (inr (inr (to_describe guide, e, h)))
of_guide asked guide (Ok (Make _ _)) e h = absurd h
of_guide asked guide (Ok (Do _)) e h = absurd h
of_guide asked guide (Ok (CheckBy _)) e h = absurd h
of_guide asked guide (Ok (State _)) e h = absurd h
of_guide asked guide (Ok (StateBy _)) e h = absurd h
of_guide asked guide (Ok (Part _)) e h = absurd h
of_guide asked guide (Ok (Watch _)) e h = absurd h
of_guide asked guide (Ok (Drive _ _)) e h = absurd h
of_guide asked guide (Ok (Help _)) e h = absurd h
of_guide asked guide (Ok OutOfMemory) e h = absurd h
of_guide asked guide (Err x) e h = tt

-- the words of a subcommand for a text about the program ask for that
pub guide_asked : (sub : Option (List ℕ × List Row)) (guide : Guide) → task_named sub ≡ to_describe guide → AsksGuide (asked_by [] sub) guide
guide_asked sub guide is = rw is refl

-- ---- parts

-- without a named range, what is meant is a share or nothing
pub share_means : (t : PartTexts) (o : Option Choice) → t.partitions ≡ None
    → MatchOption o ((of part : ℕ) → IsShare t.of t.part of part → ⊥) (λ choice. (of : ℕ) × (part : ℕ) × (choice ≡ Share of part) × IsShare t.of t.part of part)
    → MatchOption o ((choice : Choice) → MeansChoice t choice → ⊥) (λ choice. MeansChoice t choice)
share_means t (Some x) none (of, part, is, share) = subst (λ (choice : Choice). MeansChoice t choice) (sym is) (share, none)
share_means t None none bad = by
  where
    by : (choice : Choice) → MeansChoice t choice → ⊥
    by (Share of part) means = bad of part means.0
    by (Range first last) means = let worse : Some means.0 ≡ None = sym means.1 ∙ none in absurd cc

-- what was found are the subcommand's texts
pub texts_same : (sub : Option (List ℕ × List Row)) (found : Found) → Some (rows_of found) ≡ option_map (λ p. p.1) sub → texts_in found ≡ part_texts sub
texts_same sub found rows =
    let one : (id : List ℕ) → one_text found id ≡ option_named id sub = λ id. one_text-rows found id ∙ sym (named_there sub (rows_of found) id rows) in
    let first : (id : List ℕ) → first_value found id ≡ text_named id sub = λ id. first_value-rows found id ∙ sym (text_there sub (rows_of found) id rows) in
    λ i. record { of = one (codes "of") i; part = one (codes "part") i; partitions = first (codes "partitions") i; map = one (codes "map") i }

-- the words of `part` ask for that
pub part_asked : (sub : Option (List ℕ × List Row)) → task_named sub ≡ to_part (part_texts sub) → asked_by [] sub ≡ asks_just (to_part (part_texts sub))
part_asked sub is = rw is refl

-- the words of `watch` ask for that
pub watch_asked : (sub : Option (List ℕ × List Row)) (text : Option (List ℕ)) → task_named sub ≡ to_watch text → asked_by [] sub ≡ asks_just (to_watch text)
watch_asked sub text is = rw is refl

-- a line that is turned away asks for no job
pub no_job : (r : Request) → IsTurnedAway r → IsJob r → ⊥
no_job (Mistaken text) is job = job
no_job (Do _) is job = is
no_job (CheckBy _) is job = is
no_job (State _) is job = is
no_job (StateBy _) is job = is
no_job (Part _) is job = is
no_job (Watch _) is job = is
no_job (Drive _ _) is job = is
no_job (Make _ _) is job = is
no_job (Describe _) is job = is
no_job (Help _) is job = job
no_job OutOfMemory is job = job

-- a line that asks only for a job is taken for that
pub job_asked : (job : Job) (asked : Asked) (r : Request) → asked ≡ only job → Answers asked r → (r ≡ Do job) ⊎ (r ≡ OutOfMemory)
job_asked job asked (Do other) e h =
    let same : only other ≡ only job = sym h ∙ e in
    let task : to_do other ≡ to_do job = ap (λ x. x.task) same in
    let jobs : other ≡ job = cc in
    inl (ap Do jobs)
job_asked job asked (CheckBy k) e (text, is, h) = let same : by_workers text ≡ only job = sym is ∙ e in let none : Some text ≡ None = ap (λ x. x.workers) same in absurd cc
job_asked job asked (State other) e h = let none : Some (codes "json") ≡ None = ap (λ x. x.json) (sym h ∙ e) in absurd cc
job_asked job asked (StateBy k) e (text, is, h) = let none : Some (codes "json") ≡ None = ap (λ x. x.json) (sym is ∙ e) in absurd cc
job_asked job asked (Part wish) e (texts, is, h) = let task : to_part texts ≡ to_do job = ap (λ x. x.task) (sym is ∙ e) in absurd cc
job_asked job asked (Watch every) e (text, is, h) = let task : to_watch text ≡ to_do job = ap (λ x. x.task) (sym is ∙ e) in absurd cc
job_asked job asked (Drive k form) e h =
    let same : by_drive h.0 h.1 ≡ only job = sym h.2 ∙ e in
    let task : to_drive ≡ to_do job = ap (λ x. x.task) same in
    absurd cc
job_asked job asked (Make making options) e h = let task : to_make (word_of_making making) h.0 ≡ to_do job = ap (λ x. x.task) (sym h.1 ∙ e) in absurd cc
job_asked job asked (Describe text) e h = let task : to_describe h.0 ≡ to_do job = ap (λ x. x.task) (sym h.1 ∙ e) in absurd cc
job_asked job asked (Help text) e h = absurd (none_helped _ (ap (λ x. x.faults) e) h)
job_asked job asked (Mistaken text) e h = absurd (none_refused job asked e h)
job_asked job asked OutOfMemory e h = inr refl

-- a line of only a job's word names no files
files_behind : List (List ℕ) → Names
files_behind rest = files_named (entered (built ringplan) (stop_after (built ringplan).top.rules (names_of (built ringplan)) rest))

none_by_word : (job : Job) → files_behind (word_of job ∷ []) ≡ no_files
unfolding clap_on_literals files_behind
none_by_word Check = refl
none_by_word Migrate = refl
none_by_word Play = refl
none_by_word Plan = refl
none_by_word Replay = refl

pub no_files_alone : (job : Job) (words : List (List ℕ)) → drop 1 words ≡ word_of job ∷ [] → files_of words ≡ no_files
unfolding files_behind
no_files_alone job words e = ap files_behind e ∙ none_by_word job
