-- What is printed, or written to a file.
use Rattle.std.proofs.Common.{◌≡◌, ◌≢◌, ◌⊎◌, inl, inr, ℕ, true, false, List, [], ◌∷◌, ◌++◌, map, length, Option, Some, None, drop, refl, sym, ap, ◌∙◌, subst}
use Rattle.std.proofs.lemmas.List.{append_assoc, append-nil}
use Rattle.std.specs.Prelude.{IsSome, ◌==◌}
use Rattle.ringplan_command.specs.declared.files.Files.{Files}
use Rattle.ringplan_request.specs.declared.job.Job.{Job}
use Rattle.ringplan_request.specs.declared.making.Making.{Making}
use Rattle.change_text.specs.declared.options.Options.{Options}
use Rattle.ringplan_answers.specs.Io.{Prints, AppendsPart, Tells}
use Rattle.ringplan_command.specs.Command.{Asked, asked, only}
use Rattle.ringplan_command.specs.Files.{Names, files_in, files_of, no_files}
use Rattle.ringplan_command.specs.Tree.{word_of}
use Rattle.ringplan_command.proofs.Commands.{asked_alone, no_files_alone}
use Rattle.ringplan_run.specs.Run.{Delivers, IsWritten, Reports, Runs, RunsTo, Shows, failed, filed, no_layout, printed, told_by, told_unless}

-- nothing is printed, with any status
pub prints_nothing : (old : Option (List ℕ)) (status : ℕ) → Prints old old [] status status
prints_nothing None status = inl (tt, refl)
prints_nothing (Some xs) status = inl (sym (append-nil xs), refl)

-- a first part that was printed is one of the whole
prints_part : (old new : Option (List ℕ)) (text front rest : List ℕ) (result : ℕ) → text ≡ front ++ rest → Prints old new front 3 result → AppendsPart old new text × (result ≡ 3)
prints_part old new text front rest result e (inl (appends, is)) = ((front, rest, e, appends), is)
prints_part old new text front rest result e (inr ((first, more, same, appends), is)) =
    ((first, more ++ rest, e ∙ (ap (λ (xs : List ℕ). xs ++ rest) same ∙ append_assoc first more rest), appends), is)

-- what was said to a list of bytes is printed
pub handed_on : (asked : Asked) (bytes shown : List ℕ) (old new : Option (List ℕ)) (status result : ℕ) → Shows asked bytes (Some []) (Some shown) status → Prints old new shown status result
    → Shows asked bytes old new result
handed_on asked bytes shown old new status result (text, wanted, says, inl (appends, is)) prints =
    (text, wanted, says, subst (λ (s : ℕ). Prints old new text s result) is (subst (λ (xs : List ℕ). Prints old new xs status result) appends prints))
handed_on asked bytes shown old new status result (text, wanted, says, inr ((front, rest, e, appends), three)) prints =
    let part = subst (λ (s : ℕ). Prints old new front s result) three (subst (λ (xs : List ℕ). Prints old new xs status result) appends prints) in
    (text, wanted, says, inr (prints_part old new text front rest result e part))

-- what is printed is delivered
pub delivers : (asked : Asked) (target : Option (List ℕ)) (bytes : List ℕ) (old new : Option (List ℕ)) (result : ℕ) → Shows asked bytes old new result → RunsTo asked target bytes old new result
delivers asked target bytes old new result (text, status, says, prints) = (text, status, says, printed prints)

not_written : (status : ℕ) → IsWritten status → status ≡ 3 → ⊥
not_written status (inl zero) three = let bad : 0 ≡ 3 = sym zero ∙ three in absurd cc
not_written status (inr four) three = let bad : 4 ≡ 3 = sym four ∙ three in absurd cc

-- what was said with such a status to a list of bytes is written to a file
pub saved : (asked : Asked) (target : Option (List ℕ)) (bytes shown : List ℕ) (old : Option (List ℕ)) (status result : ℕ) → IsSome target → IsWritten status
    → Shows asked bytes (Some []) (Some shown) status → (result ≡ status) ⊎ (result ≡ 3) → RunsTo asked target bytes old old result
saved asked target bytes shown old status result some written (text, wanted, says, inl (appends, is)) h =
    (text, wanted, says, filed some refl (subst (λ (s : ℕ). IsWritten s) is written) (subst (λ (s : ℕ). (result ≡ s) ⊎ (result ≡ 3)) is h))
saved asked target bytes shown old status result some written (text, wanted, says, inr (part, three)) h = absurd (not_written status written three)

-- if no file is written, all is printed
only_printed : (target : Option (List ℕ)) (old new : Option (List ℕ)) (text : List ℕ) (status result : ℕ) → Delivers None old new text status result → Delivers target old new text status result
only_printed target old new text status result (printed p) = printed p
only_printed target old new text status result (filed some e zero r) = absurd cc

-- ---- the files of a line

-- the names that were read are those of the line, or none
pub named_in : {X : Type 0} (found : Files) (files : Names) → (files_in found ≡ files) ⊎ ((files_in found ≡ no_files) × X) → (files_in found ≡ files) ⊎ (files_in found ≡ no_files)
named_in found files (inl h) = inl h
named_in found files (inr h) = inr h.0

-- where some are counted, some are named
pub some_named : {X : Type 0} (name : X → List ℕ) (xs : List X) {n : ℕ} → n ≡ length xs → (n == 0) ≡ false → map name xs ≢ []
some_named name [] same e none = (let h : true ≡ false = subst (λ (k : ℕ). (k == 0) ≡ false) same e in cc)
some_named name (x ∷ xs) same e none = (let h : name x ∷ map name xs ≡ [] = none in cc)

-- a run by a line that names these files
abbrev pub RanBy : Asked → Names → Option (List ℕ) → Option (List ℕ) → Option (List ℕ) → ℕ → Type 0
RanBy asked files told old new result = (bytes : List ℕ) × Tells (told_by files told) bytes × Runs asked files bytes old new result

-- what was read from the input, if no file is named or none is used
tells_less : (files : Names) (told : Option (List ℕ)) (bytes : List ℕ) → Tells told bytes → Tells (told_by files told) bytes
tells_less files told bytes h = by files.inputs
  where
    by : (names : List (List ℕ)) → Tells (told_unless names told) bytes
    by [] = h
    by (name ∷ more) = tt

-- nothing is told of what is read from files
tells_nothing : (names : List (List ℕ)) (told : Option (List ℕ)) (bytes : List ℕ) → names ≢ [] → Tells (told_unless names told) bytes
tells_nothing [] told bytes some = absurd (some refl)
tells_nothing (name ∷ more) told bytes some = tt

-- the input was read
pub ran_input : (asked : Asked) (files found : Names) (told old new : Option (List ℕ)) (result : ℕ) → (found ≡ files) ⊎ (found ≡ no_files)
    → (bytes : List ℕ) × Tells told bytes × RunsTo asked found.output bytes old new result → RanBy asked files told old new result
ran_input asked files found told old new result (inl e) (bytes, tells, runs) =
    subst (λ (f : Names). RanBy asked f told old new result) e (bytes, tells_less found told bytes tells, inl runs)
ran_input asked files found told old new result (inr e) (bytes, tells, runs) =
    let none = subst (λ (t : Option (List ℕ)). RunsTo asked t bytes old new result) (ap (λ (f : Names). f.output) e) runs in
    (bytes, tells_less files told bytes tells, inl (none.0, none.1, none.2, only_printed files.output old new none.0 none.1 result none.3))

-- files were read
pub ran_files : {AreRead : List ℕ → Type 0} (asked : Asked) (files found : Names) (told old new : Option (List ℕ)) (result : ℕ) → found.inputs ≢ []
    → (found ≡ files) ⊎ (found ≡ no_files) → (bytes : List ℕ) × AreRead bytes × RunsTo asked found.output bytes old new result → RanBy asked files told old new result
ran_files asked files found told old new result some (inl e) (bytes, tells, runs) =
    subst (λ (f : Names). RanBy asked f told old new result) e (bytes, tells_nothing found.inputs told bytes some, inl runs)
ran_files asked files found told old new result some (inr e) h = absurd (some (ap (λ (f : Names). f.inputs) e))

-- a file could not be read
pub ran_unopened : (asked : Asked) (files found : Names) (told old : Option (List ℕ)) (result : ℕ) → found.inputs ≢ [] → (found ≡ files) ⊎ (found ≡ no_files)
    → (result ≡ 2) ⊎ (result ≡ 3) → RanBy asked files told old old result
ran_unopened asked files found told old result some (inl e) h =
    subst (λ (f : Names). RanBy asked f told old old result) e ([], tells_nothing found.inputs told [] some, inr (some, refl, h))
ran_unopened asked files found told old result some (inr e) h = absurd (some (ap (λ (f : Names). f.inputs) e))

-- a line of only a job's word asks for just that job, and names no file
pub ran_alone : (job : Job) (words : List (List ℕ)) (told old new : Option (List ℕ)) (result : ℕ) → drop 1 words ≡ word_of job ∷ [] → RanBy (asked words) (files_of words) told old new result
    → RanBy (only job) no_files told old new result
ran_alone job words told old new result e h =
    let named = subst (λ (f : Names). RanBy (asked words) f told old new result) (no_files_alone job words e) h in
    subst (λ (a : Asked). RanBy a no_files told old new result) (asked_alone job words e) named

-- ---- reports of what was not read

-- nothing is made, whatever the bytes
pub reports_none : (making : Making) (options : Options) (bytes : List ℕ) (status : ℕ) → (status ≡ 2) ⊎ (status ≡ 3) → Reports making options bytes [] status
reports_none making options bytes status (inl two) = no_layout refl two
reports_none making options bytes status (inr three) = failed refl three

-- whatever the reader tells, some bytes are what it tells
pub told_bytes : (told : Option (List ℕ)) → (bytes : List ℕ) × Tells told bytes
told_bytes None = ([], tt)
told_bytes (Some xs) = (xs, refl)
