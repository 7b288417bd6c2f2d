-- A report has no float.
use Rattle.std.proofs.Common.{◌≡◌, ℕ, false, List, [], ◌∷◌, map, refl}
use Rattle.serde_json.specs.View.{items_of}
use Rattle.serde_json.specs.Written.{has_float, items_have_float}
use Rattle.ring_table.specs.Value.{RingValue, names_of}
use Rattle.plan_runs.specs.declared.event.Entry.{Entry}
use Rattle.ring_work.specs.Report.{entry_data, step_data, report_value}

entries-plain : (nodes names : List (List ℕ)) (history : List Entry) → items_have_float (items_of (map (entry_data nodes names) history)) ≡ false
entries-plain nodes names [] = refl
entries-plain nodes names (x ∷ xs) = entries-plain nodes names xs

steps-plain : (finishers : List ℕ) → items_have_float (items_of (map step_data finishers)) ≡ false
steps-plain [] = refl
steps-plain (x ∷ xs) = steps-plain xs

pub report-plain : (ring : RingValue) (names : List (List ℕ)) (history : List Entry) (finishers : List ℕ) (workers : ℕ)
    → has_float (report_value ring names history finishers workers) ≡ false
report-plain ring names history finishers workers = rw (entries-plain (names_of ring) names history, steps-plain finishers) refl
