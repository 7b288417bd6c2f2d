-- The steps of a plan that a running store follows, by number.
use Rattle.std.specs.Prelude.{ℕ, Bool, false, not, List, Some, None, slice_get, count_by}
use Rattle.store_parts.specs.declared.steps.StepNow.{StepNow}
use Rattle.store_parts.specs.declared.marks.Marks.{Marks}
use Rattle.store_parts.specs.Marks.{no_marks, has_mark}

-- a step before any is done
abbrev pub step_at_start : StepNow
step_at_start = record { done = false; is_open = false; marks = no_marks }

-- whether the step is done
abbrev pub is_done_at : List StepNow → ℕ → Bool
is_done_at steps n = elim (slice_get steps n) [ Some now ↦ now.done | None ↦ false ]

-- whether it is a copy that is open
abbrev pub is_open_at : List StepNow → ℕ → Bool
is_open_at steps n = elim (slice_get steps n) [ Some now ↦ now.is_open | None ↦ false ]

-- whether that chunk of a copy is marked
abbrev pub is_marked : StepNow → ℕ → Bool
is_marked now c = has_mark now.marks c

-- whether that chunk of the copy of that number is marked
abbrev pub is_marked_at : List StepNow → ℕ → ℕ → Bool
is_marked_at steps n c = elim (slice_get steps n) [ Some now ↦ is_marked now c | None ↦ false ]

-- the chunks of that copy that are marked
abbrev pub marks_at : List StepNow → ℕ → Marks
marks_at steps n = elim (slice_get steps n) [ Some now ↦ now.marks | None ↦ no_marks ]

-- how many steps are not done
abbrev pub steps_left : List StepNow → ℕ
steps_left steps = count_by (λ now. not now.done) steps
