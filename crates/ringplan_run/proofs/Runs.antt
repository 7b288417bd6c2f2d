-- How the parts of a run make up its end.
use Rattle.std.specs.Option.{is_some, unwrap_or}
use Rattle.std.proofs.Common.{◌≡◌, ◌≢◌, inl, inr, true, false, ℕ, ◌<◌, ◌≤◌, arith, List, [], ◌∷◌, ◌++◌, Option, Some, None, Result, Ok, Err, codes, refl, sym, ◌∙◌, subst}
use Rattle.std.specs.Fmt.{digits}
use Rattle.ring_names.specs.declared.refusal.Refusal.{Refusal}
use Rattle.ring_names.specs.declared.refusal.Refusal.TheVariants.{OutOfMemory, ReadFailed}
use Rattle.ring_names.specs.Refusals.{line_of, number_of}
use Rattle.ringplan_command.specs.declared.form.Form.{Form}
use Rattle.ringplan_request.specs.declared.job.Job.{Job}
use Rattle.ringplan_request.specs.declared.job.Job.TheVariants.{Check}
use Rattle.ringplan_answers.specs.Answers.{output_of, refused_status, status_of}
use Rattle.ring_names.specs.declared.choice.Choice.{Choice}
use Rattle.ring_names.specs.declared.choice.Choice.TheVariants.{Range, Share}
use Rattle.history_laws.specs.Choices.{IsChoice}
use Rattle.history_text.specs.declared.cutting.Part.{Part}
use Rattle.history_text.specs.declared.cutting.NoPart.{NoPart}
use Rattle.history_text.specs.Cutting.{IsCut, refusal_of}
use Rattle.ringplan_run.proofs.Deliveries.{prints_nothing}
use Rattle.ringplan_command.specs.declared.parts.PartWish.{PartWish}
use Rattle.ringplan_command.specs.Parts.{MeansChoice, PartTexts}
use Rattle.ringplan_command.specs.Command.{Asked, Asks, AsksBy, AsksDrive, AsksJson, AsksMaking, AsksPart, IsMany, only}
use Rattle.ringplan_answers.specs.Io.{Prints, Tells}
use Rattle.ringplan_answers.specs.Outcomes.{Finds}
use Rattle.ringplan_answers.specs.Stated.{json_of}
use Rattle.ringplan_run.specs.Part.{IsCutShown, IsWanted, ShowsCut, ShowsPart, cut, failed}
use Rattle.ringplan_run.specs.Run.{FindsDrive, PrintsFound, PrintsStated, Says, Shows, ShowsReport, answered, driven, stated, unread, unstated, undriven, parted, reported, out_of_memory}
use Rattle.ringplan_request.specs.declared.making.Making.{Making}
use Rattle.change_text.specs.declared.options.Options.{Options}

pub no_memory_line : line_of OutOfMemory ≡ codes "no 60" ++ 10 ∷ []
unfolding digits
no_memory_line = refl

pub prints_no_memory : (old new : Option (List ℕ)) (result : ℕ) → Prints old new (codes "no 60" ++ 10 ∷ []) 3 result → Prints old new (line_of OutOfMemory) 3 result
prints_no_memory old new result h = let P : List ℕ → Type 0 = λ l. Prints old new l 3 result in subst P (sym no_memory_line) h

-- a saying over some bytes that the reader tells
abbrev pub Said : Asked → Option (List ℕ) → List ℕ → ℕ → Type 0
Said asked told text status = (bytes : List ℕ) × Tells told bytes × Says asked bytes text status

-- and what was said was printed
abbrev pub Ran : Asked → Option (List ℕ) → Option (List ℕ) → Option (List ℕ) → ℕ → Type 0
Ran asked told old new result = (bytes : List ℕ) × Tells told bytes × Shows asked bytes old new result

-- what is said whatever the bytes
pub said : (asked : Asked) (told : Option (List ℕ)) (text : List ℕ) (status : ℕ) → ((bytes : List ℕ) → Says asked bytes text status) → Said asked told text status
said asked None text status h = ([], tt, h [])
said asked (Some xs) text status h = (xs, refl, h xs)

says_found : (asked : Asked) (job : Job) (bytes : List ℕ) (found : Result (List ℕ) Refusal) (text : List ℕ) (status : ℕ) → Asks asked job → Finds job bytes found
    → text ≡ output_of found → status ≡ status_of found → Says asked bytes text status
says_found asked job bytes (Ok x) text status e h p q = answered job (Ok x) e h p q
says_found asked job bytes (Err OutOfMemory) text status e h p q = out_of_memory p q
says_found asked job bytes (Err ReadFailed) text status e h p q = unread job e p q
says_found asked job bytes (Err r) text status e h p q =
    let is = h (λ same. absurd cc) (λ same. absurd cc) in
    answered job (Err r) e is p q

-- what was said was printed
pub ran : (asked : Asked) (told old new : Option (List ℕ)) (text shown : List ℕ) (status result : ℕ) → Said asked told text status → shown ≡ text → Prints old new shown status result → Ran asked told old new result
ran asked told old new text shown status result (bytes, tells, says) e h =
    let P : List ℕ → Type 0 = λ l. Prints old new l status result in
    (bytes, tells, (text, status, says, subst P e h))

-- and so if memory was refused
pub ran_out : (asked : Asked) (told old new : Option (List ℕ)) (result : ℕ) → Prints old new (line_of OutOfMemory) 3 result → Ran asked told old new result
ran_out asked told old new result h =
    ran asked told old new _ _ 3 result (said asked told _ 3 (λ bytes. out_of_memory refl refl)) refl h

-- what a job found is printed
pub ran_found : (asked : Asked) (job : Job) (told old new : Option (List ℕ)) (found : Result (List ℕ) Refusal) (result : ℕ) → Asks asked job
    → (bytes : List ℕ) × Tells told bytes × Finds job bytes found → PrintsFound old new found result → Ran asked told old new result
ran_found asked job told old new found result e (bytes, tells, h) (inl prints) =
    (bytes, tells, (output_of found, status_of found, says_found asked job bytes found _ _ e h refl refl, prints))
ran_found asked job told old new found result e h (inr prints) = ran_out asked told old new result prints

-- what was found is printed, where its answer is
pub prints_answer : (old new : Option (List ℕ)) (found : Result (List ℕ) Refusal) (text shown : List ℕ) (status result : ℕ) → shown ≡ text → text ≡ output_of found → status ≡ status_of found
    → Prints old new shown status result → PrintsFound old new found result
prints_answer old new found text shown status result same e f prints =
    inl (subst (λ (l : List ℕ). Prints old new l (status_of found) result) (same ∙ e) (subst (λ (s : ℕ). Prints old new shown s result) f prints))

-- what is asked just so
pub ran_asked : (job : Job) (asked : Asked) (told old new : Option (List ℕ)) (result : ℕ) → asked ≡ only job → Ran (only job) told old new result → Ran asked told old new result
ran_asked job asked told old new result e h = let P : Asked → Type 0 = λ k. Ran k told old new result in subst P (sym e) h

-- a check by workers
pub ran_by : (asked : Asked) (k : ℕ) (told old new : Option (List ℕ)) (found : Result (List ℕ) Refusal) (result : ℕ) → AsksBy asked k
    → (bytes : List ℕ) × Tells told bytes × Finds Check bytes found → PrintsFound old new found result → Ran asked told old new result
ran_by asked k told old new found result e h prints = ran_found asked Check told old new found result (inr (refl, (k, e))) h prints

-- what is made for people is printed
pub ran_report : (asked : Asked) (making : Making) (options : Options) (told old new : Option (List ℕ)) (result : ℕ) → AsksMaking asked making options
    → (bytes : List ℕ) × Tells told bytes × ShowsReport making options bytes old new result → Ran asked told old new result
ran_report asked making options told old new result e (bytes, tells, (text, status, reports, prints)) = (bytes, tells, (text, status, reported making options e reports, prints))

-- ---- drives

says_driven : (asked : Asked) (workers : ℕ) (form : Form) (bytes : List ℕ) (found : Result (List ℕ) Refusal) (text : List ℕ) (status : ℕ) → AsksDrive asked workers form → FindsDrive workers form bytes found
    → text ≡ output_of found → status ≡ status_of found → Says asked bytes text status
says_driven asked workers form bytes (Ok x) text status e h p q = driven workers form (Ok x) e h p q
says_driven asked workers form bytes (Err OutOfMemory) text status e h p q = out_of_memory p q
says_driven asked workers form bytes (Err ReadFailed) text status e h p q = undriven workers form e p q
says_driven asked workers form bytes (Err r) text status e h p q =
    let is = h (λ same. absurd cc) (λ same. absurd cc) in
    driven workers form (Err r) e is p q

-- what a drive came to is printed
pub ran_driven : (asked : Asked) (workers : ℕ) (form : Form) (told old new : Option (List ℕ)) (found : Result (List ℕ) Refusal) (result : ℕ) → AsksDrive asked workers form
    → (bytes : List ℕ) × Tells told bytes × FindsDrive workers form bytes found → PrintsFound old new found result → Ran asked told old new result
ran_driven asked workers form told old new found result e (bytes, tells, h) (inl prints) =
    (bytes, tells, (output_of found, status_of found, says_driven asked workers form bytes found _ _ e h refl refl, prints))
ran_driven asked workers form told old new found result e h (inr prints) = ran_out asked told old new result prints

-- so many workers are 1 to 64
pub many_few : (o : Option (List ℕ)) (k : ℕ) → IsMany o k → (0 < k) × (k ≤ 64)
many_few None k is = (omega arith, omega arith)
many_few (Some text) k is = (let low = is.2 in omega arith, is.3)

-- ---- answers as JSON

says_stated : (asked : Asked) (job : Job) (bytes : List ℕ) (found : Result (List ℕ) Refusal) → AsksJson asked job → Finds job bytes found → found ≢ Err OutOfMemory
    → Says asked bytes (json_of found) (status_of found)
says_stated asked job bytes (Ok x) e h other = stated job (Ok x) e h refl refl
says_stated asked job bytes (Err OutOfMemory) e h other = absurd (other refl)
says_stated asked job bytes (Err ReadFailed) e h other = unstated job e refl refl
says_stated asked job bytes (Err r) e h other =
    let is = h (λ same. absurd cc) (λ same. absurd cc) in
    stated job (Err r) e is refl refl

-- what a job found is printed as JSON
pub ran_stated : (asked : Asked) (job : Job) (told old new : Option (List ℕ)) (found : Result (List ℕ) Refusal) (result : ℕ) → AsksJson asked job
    → (bytes : List ℕ) × Tells told bytes × Finds job bytes found → PrintsStated old new found result → Ran asked told old new result
ran_stated asked job told old new found result e (bytes, tells, h) (inl (other, prints)) =
    (bytes, tells, (json_of found, status_of found, says_stated asked job bytes found e h other, prints))
ran_stated asked job told old new found result e h (inr prints) = ran_out asked told old new result prints

-- what was found is printed so, where its answer is
pub prints_stated : (old new : Option (List ℕ)) (found : Result (List ℕ) Refusal) (text shown : List ℕ) (status result : ℕ) → found ≢ Err OutOfMemory → shown ≡ text → text ≡ json_of found
    → status ≡ status_of found → Prints old new shown status result → PrintsStated old new found result
prints_stated old new found text shown status result other same e f prints =
    inl (other, subst (λ (l : List ℕ). Prints old new l (status_of found) result) (same ∙ e) (subst (λ (s : ℕ). Prints old new shown s result) f prints))

-- ---- parts

means_choice : (t : PartTexts) (choice : Choice) → MeansChoice t choice → IsChoice choice
means_choice t (Share of part) ((a, b, is_a, is_b, of_is, part_is, less), none) = omega arith
means_choice t (Range first last) means = tt

-- the choice of a part that is asked for is one
pub asked_choice : (asked : Asked) (wish : PartWish) → AsksPart asked wish → IsChoice wish.choice
asked_choice asked wish (t, e, means) = means_choice t wish.choice means.0

-- nothing is printed of an entry that the part has not
pub no_place : (entry : Option ℕ) (part : Part) → is_some entry ≡ true → part.place ≡ None → IsCutShown entry part [] 2
no_place None part some none = (let bad : false ≡ true = some in absurd cc)
no_place (Some n) part some none = rw none (refl, refl)

-- if a part was cut, what is printed is that of a part of the bytes
pub parts_shown : (wish : PartWish) (wanted : ℕ) (bytes : List ℕ) (part : Part) (old new : Option (List ℕ)) (result : ℕ) → IsWanted wish.entry wanted → IsCut wish.choice wanted bytes (Ok part)
    → ShowsCut wish.entry part old new result → ShowsPart wish bytes old new result
parts_shown wish wanted bytes part old new result w is (text, status, inl shown, prints) = (text, status, cut wanted (Ok part) w is shown, prints)
parts_shown wish wanted bytes part old new result w is (text, status, inr (none, three), prints) = (text, status, failed none three, prints)

-- nothing is printed if there is no part
pub none_shown : (wish : PartWish) (wanted : ℕ) (bytes : List ℕ) (e : NoPart) (old : Option (List ℕ)) (status : ℕ) → IsWanted wish.entry wanted → IsCut wish.choice wanted bytes (Err e) → status ≡ refused_status (number_of (refusal_of e))
    → ShowsPart wish bytes old old status
none_shown wish wanted bytes e old status w is s = ([], status, cut wanted (Err e) w is (refl, s), prints_nothing old status)

pub wanted_entry : (entry : Option ℕ) (wanted : ℕ) → wanted ≡ unwrap_or entry 0 → IsWanted entry wanted
wanted_entry None wanted e = tt
wanted_entry (Some n) wanted e = sym e

-- a part is printed
pub ran_part : (asked : Asked) (wish : PartWish) (told old new : Option (List ℕ)) (result : ℕ) → AsksPart asked wish → (bytes : List ℕ) × Tells told bytes × ShowsPart wish bytes old new result → Ran asked told old new result
ran_part asked wish told old new result asks (bytes, tells, (text, status, parts, prints)) = (bytes, tells, (text, status, parted wish asks parts, prints))
