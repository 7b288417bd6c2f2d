-- Whom a history names.
use Rattle.std.specs.Prelude.{ℕ, List, length}
use Rattle.std.specs.List.{AllByRecursion}
use Rattle.ring_table.specs.Value.{RingValue, names_of}
use Rattle.plan_runs.specs.declared.event.Entry.{Entry}
use Rattle.script_text.specs.Valid.{IsKnown}

-- all events' writers are among the names, and their nodes are the ring's
abbrev pub AreKnownEntries : RingValue → List (List ℕ) → List Entry → Type 0
AreKnownEntries ring names history = AllByRecursion (λ x. IsKnown (length (names_of ring)) (length names) x.event) history
