-- What a watch of an input prints.
use Rattle.std.specs.Prelude.{◌≡◌, ◌≢◌, ◌⊎◌, ◌==◌, ◌&&◌, ◌%◌, ℕ, zero, suc, ◌≤◌, Bool, cond, List, [], ◌++◌, length, nat_lt, codes, Option, Result, Ok, Err}
use Rattle.std.specs.Fmt.{decimal}
use Rattle.std.specs.Global.{Vec}
use Rattle.std.specs.Io.KnownBytes.{Appends, Consumes, IsAtEnd}
use Rattle.ring_names.specs.declared.refusal.Refusal.{Refusal}
use Rattle.ring_names.specs.declared.refusal.Refusal.TheVariants.{OutOfMemory, ReadFailed, WriteFailed}
use Rattle.ringplan_answers.specs.Io.{AppendsPart}
use Rattle.ring_table.specs.Value.{RingValue}
use Rattle.plan_text.specs.declared.step.Planned.{Planned}
use Rattle.history_text.specs.Said.{SaidEntry}
use Rattle.history_text.specs.declared.reader.Stage.TheVariants.{Over}
use Rattle.history_text.specs.StreamReading.{Point}
use Rattle.history_text.specs.State.{IsRun as HasNoEnd}
use Rattle.ring_core.specs.Replays.{IsHistory}
use Rattle.ring_script.specs.Replay.{IsReplayed}
use Rattle.history_watch.specs.Watching.{Begins, HasEnded, IsCutOff, IsJudged, IsRefused, entries_of, history_at}

-- whether a line is printed after so many entries: each so many, and never for 0
abbrev pub is_shown : ℕ → ℕ → Bool
is_shown every count = nat_lt 0 every && (count % every == 0)

-- the line that is printed after so many entries
abbrev pub so_far_line : ℕ → List ℕ
so_far_line count = codes "so far " ++ (decimal count ++ codes " entries\n")

-- the line after so many entries, if there is one
abbrev pub shown_at : ℕ → ℕ → List ℕ
shown_at every count = cond {A = List ℕ} (is_shown every count) (so_far_line count) []

-- all lines after so many entries
abbrev pub so_far : ℕ → ℕ → List ℕ
so_far every zero = []
so_far every (suc count) = so_far every count ++ shown_at every (suc count)

-- memory, reading or writing failed
abbrev pub IsOutside : Refusal → Type 0
IsOutside e = (e ≡ OutOfMemory) ⊎ ((e ≡ ReadFailed) ⊎ (e ≡ WriteFailed))

-- if the lines after `before` entries had been printed, the lines after all entries now are
abbrev pub Shows : ℕ → ℕ → ℕ → Option (List ℕ) → Option (List ℕ) → Type 0
Shows every before after old new = (start : Option (List ℕ)) → Appends start old (so_far every before) → Appends start new (so_far every after)

-- if the lines after `before` entries had been printed, a first part of the lines after all entries now is
abbrev pub ShowsPart : ℕ → ℕ → ℕ → Option (List ℕ) → Option (List ℕ) → Type 0
ShowsPart every before after old new = (start : Option (List ℕ)) → Appends start old (so_far every before) → AppendsPart start new (so_far every after)

-- the bytes do not decide an answer: their whole lines say entries that are a run, and not the last line
pub record IsUndecided (ring : RingValue) (plan : List Planned) (bytes : List ℕ) : Type 0 where
  pub to : Point
  pub begins : Begins ring bytes to
  pub run : HasNoEnd begins.rest
  pub goes_on : to.stage ≢ Over
  pub history : IsHistory ring plan (entries_of to.said)

-- the last read, of at most 65,536 bytes, decided the answer
pub record IsPrompt (ring : RingValue) (plan : List Planned) (bytes : List ℕ) : Type 0 where
  pub before : List ℕ
  pub last : List ℕ
  pub whole : bytes ≡ before ++ last
  pub few : length last ≤ 65536
  pub undecided : IsUndecided ring plan before

-- the history is whole by its last line, or the input is at its end after a whole line
abbrev pub IsWhole : RingValue → List ℕ → List SaidEntry → Option (List ℕ) → Type 0
IsWhole ring bytes said left = HasEnded ring bytes said ⊎ (IsAtEnd left × (history_at ring (bytes ++ codes "end\n") ≡ Ok said))

-- some first bytes of the input were read. Their entries are a run, and a first part of the lines for them was printed
pub record PrintsPart (ring : RingValue) (plan : List Planned) (every : ℕ) (input old new : Option (List ℕ)) : Type 0 where
  pub bytes : List ℕ
  pub left : Option (List ℕ)
  pub taken : Consumes input left bytes
  pub count : ℕ
  pub judged : IsJudged ring plan bytes count
  pub part : AppendsPart old new (so_far every count)

-- what a watch of an input answers, and what it printed before
abbrev pub Watches : RingValue → List Planned → ℕ → Option (List ℕ) → Option (List ℕ) → Option (List ℕ) → Option (List ℕ) → Result (Vec ℕ) Refusal → Type 0
Watches ring plan every input left old new (Ok text) = (bytes : List ℕ) × Consumes input left bytes × IsPrompt ring plan bytes × ((said : List SaidEntry)
    × IsWhole ring bytes said left × IsReplayed ring plan (entries_of said) text.items × Appends old new (so_far every (length said)))
Watches ring plan every input left old new (Err e) = PrintsPart ring plan every input old new × ((IsOutside e → ⊥) → (bytes : List ℕ) × Consumes input left bytes × IsPrompt ring plan bytes
    × (IsRefused ring plan bytes e ⊎ (IsAtEnd left × IsCutOff ring plan bytes e)) × ((n : ℕ) × IsJudged ring plan bytes n × Appends old new (so_far every n)))
