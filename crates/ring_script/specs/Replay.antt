-- What a replay of a history prints.
use Rattle.std.specs.Prelude.{◌≡◌, ℕ, List, ◌∷◌, ◌++◌, codes}
use Rattle.ring_names.specs.declared.ids.NodeId.{NodeId}
use Rattle.ring_table.specs.Value.{RingValue}
use Rattle.plan_text.specs.declared.step.Planned.{Planned}
use Rattle.plan_runs.specs.declared.event.Entry.{Entry}
use Rattle.plan_runs.specs.Runs.{IsRun}
use Rattle.plan_runs.specs.World.{World}
use Rattle.ring_core.specs.Tables.{owners_now}
use Rattle.ring_script.specs.Play.{table_text}

-- `yes`, and these owners
abbrev pub rows_text : RingValue → List (List NodeId) → List ℕ
rows_text ring rows = codes "yes" ++ 10 ∷ table_text ring rows

-- `yes`, and the owners in a world
abbrev pub ending_text : RingValue → List Planned → World → List ℕ
ending_text ring plan w = rows_text ring (owners_now ring plan w)

-- the history is a run of the plan, and the text is that of the world to which it leads
abbrev pub IsReplayed : RingValue → List Planned → List Entry → List ℕ → Type 0
IsReplayed ring plan history text = ∥ ((w : World) × IsRun ring plan history w × (text ≡ ending_text ring plan w)) ∥₁
