-- What a report may be refused for.
use Rattle.std.specs.Prelude.{◌≡◌, ◌⊎◌, ℕ, List, IsUtf8}
use Rattle.std.specs.List.{AllByRecursion}
use Rattle.ring_names.specs.declared.refusal.Refusal.{Refusal}
use Rattle.ring_names.specs.declared.refusal.Refusal.TheVariants.{OutOfMemory, Disagree}
use Rattle.ring_table.specs.Value.{RingValue, names_of}
use Rattle.plan_runs.specs.declared.event.Entry.{Entry}
use Rattle.history_text.specs.Spelling.{event_words}

-- memory ran out, or the words are not UTF-8
abbrev pub IsRefusedWord : List ℕ → Refusal → Type 0
IsRefusedWord words e = (e ≡ OutOfMemory) ⊎ ((e ≡ Disagree) × (¬ (IsUtf8 words)))

-- the texts of all events are UTF-8
abbrev pub AreTexts : RingValue → List (List ℕ) → List Entry → Type 0
AreTexts ring names history = AllByRecursion (λ x. IsUtf8 (event_words (names_of ring) names x.event)) history

-- memory ran out, or the text of some event is not UTF-8
abbrev pub IsRefused : RingValue → List (List ℕ) → List Entry → Refusal → Type 0
IsRefused ring names history e = (e ≡ OutOfMemory) ⊎ ((e ≡ Disagree) × (¬ (AreTexts ring names history)))
