-- The moves that a plan begins.
use Rattle.std.specs.Prelude.{ℕ, ◌+◌, List, [], ◌∷◌, ◌++◌, Some, None}
use Rattle.ring_names.specs.declared.ids.Slot.{Slot}
use Rattle.ring_table.specs.Value.{RingValue}
use Rattle.plan_text.specs.declared.step.Step.{Step}
use Rattle.plan_text.specs.declared.step.Planned.{Planned}
use Rattle.plan_text.specs.Steps.{mirror_of}
use Rattle.plan_stage.specs.Parties.{stage_before}
use Rattle.plan_cover.specs.declared.present.Serving.{Serving}
use Rattle.plan_cover.specs.Looking.Serving.{serving_of}
use Rattle.plan_moves.specs.declared.movement.Move.{Move}

-- what step n begins, where the slots are served so: a mirror takes its slot from the owner
abbrev pub moved_by : (Slot → Serving) → ℕ → Step → List Move
moved_by serve n s = elim (mirror_of s) [
  | Some m ↦ record { slot = m.0; from = (serve m.0).owner; to = m.1; mirror = n } ∷ []
  | None ↦ []
]

-- who serves the slots before step n
abbrev pub served_before : RingValue → List Planned → ℕ → Slot → Serving
served_before ring plan n slot = serving_of (stage_before ring plan slot n)

-- those of the steps from number n on
abbrev pub moves_from : RingValue → List Planned → ℕ → List Planned → List Move
moves_from ring plan n [] = []
moves_from ring plan n (x ∷ xs) = moved_by (served_before ring plan n) n x.step ++ moves_from ring plan (n + 1) xs

-- the moves of a plan, in the order of its steps
abbrev pub moves : RingValue → List Planned → List Move
moves ring plan = moves_from ring plan 0 plan
