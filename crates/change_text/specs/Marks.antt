-- Which nodes are marked.
use Rattle.std.specs.Prelude.{ℕ, Bool, false, slice_get, Some, None}
use Rattle.change_text.specs.declared.marks.Marks.{Marks}

-- whether the node of that number is
abbrev pub is_marked : Marks → ℕ → Bool
is_marked a x = elim (slice_get a.flags x) [ Some flag ↦ flag | None ↦ false ]
