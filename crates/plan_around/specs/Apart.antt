-- What the steps that are to come ask of nodes.
use Rattle.std.specs.Prelude.{◌≡◌, ℕ, Bool, true, ◌&&◌, ◌||◌, ◌==◌, List, [], ◌∷◌, ◌++◌, map, Option, Some, None}
use Rattle.ring_names.specs.declared.ids.NodeId.{NodeId}
use Rattle.ring_names.specs.declared.ids.Slot.{Slot}
use Rattle.ring_table.specs.Value.{RingValue}
use Rattle.plan_text.specs.declared.step.Step.{Step}
use Rattle.plan_text.specs.declared.step.Step.TheVariants.{Join, Mirror, Copy, Switch, Drop, Retire}
use Rattle.plan_text.specs.declared.step.Planned.{Planned}
use Rattle.plan_stage.specs.Each.{step_at}
use Rattle.plan_stage.specs.Parties.{source_slots}
use Rattle.plan_runs.specs.World.{World}
use Rattle.plan_runs.specs.Guards.{chunks_left}
use Rattle.plan_cover.specs.declared.present.Serving.{Serving}
use Rattle.plan_moves.specs.Moves.{served_before}
use Rattle.plan_goal.specs.Reached.{are_spared}

-- the mirror, if there is one
abbrev pub mirrors : Option NodeId → List NodeId
mirrors None = []
mirrors (Some x) = x ∷ []

-- the nodes of which a step asks anything, if the slots are served so. They join, mirror, drop or retire, or a
-- copy goes to them or reads from them
abbrev pub asked : (Slot → Serving) → Step → List NodeId
asked serve (Join x) = x ∷ []
asked serve (Mirror s x) = x ∷ []
asked serve (Copy s from) = mirrors (serve s).mirror ++ map (λ t. (serve t).owner) (source_slots s from)
asked serve (Switch s) = []
asked serve (Drop s x) = x ∷ []
asked serve (Retire x) = x ∷ []

-- whether step n is an open copy whose chunks are all marked, so that no node is asked when it is closed
abbrev pub is_whole : World → ℕ → Bool
is_whole w n = w.is_open n && (chunks_left w n == 0)

-- whether step n is done, or such a copy, or asks nothing of the dead
abbrev pub is_apart : RingValue → List Planned → List NodeId → World → ℕ → Step → Bool
is_apart ring plan dead w n s = w.done n || is_whole w n || are_spared dead (asked (served_before ring plan n) s)

-- so is each step of the plan: none that is to come asks anything of the dead
abbrev pub AreApart : RingValue → List Planned → List NodeId → World → Type 0
AreApart ring plan dead w = (n : ℕ) (s : Step) → step_at plan n ≡ Some s → is_apart ring plan dead w n s ≡ true
