-- Runs of a plan.
use Rattle.std.specs.Prelude.{◌≡◌, ◌↔◌, List, [], ◌∷◌, ◌++◌, Ok}
use Rattle.ring_table.specs.Value.{RingValue}
use Rattle.plan_text.specs.declared.step.Planned.{Planned}
use Rattle.plan_runs.specs.declared.event.Entry.{Entry}
use Rattle.plan_runs.specs.World.{World, opening_world}
use Rattle.plan_runs.specs.Answers.{answer}

-- the events, each answered so where it stands, lead from one world to another
abbrev pub Leads : RingValue → List Planned → World → List Entry → World → Type 0
Leads ring plan w [] v = v ≡ w
Leads ring plan w (x ∷ xs) v = (u : World) × (answer ring plan w x.event ≡ Ok (u, x.reply)) × Leads ring plan u xs v

-- a run of the plan, and the world in which it ends
abbrev pub IsRun : RingValue → List Planned → List Entry → World → Type 0
IsRun ring plan run w = Leads ring plan (opening_world ring) run w

-- at every moment of every run the store is so. A moment is what some first events of a run lead to, so the end
-- of a run too
abbrev pub Always : RingValue → List Planned → (World → Type 0) → Type 0
Always ring plan Holds = (run : List Entry) (w : World) → IsRun ring plan run w → Holds w

-- two parts lead to a world exactly if the first leads to one from which the second leads there
abbrev pub SplitAnywhere : RingValue → List Planned → Type 0
SplitAnywhere ring plan = (w v : World) (first second : List Entry)
    → Leads ring plan w (first ++ second) v ↔ ((u : World) × Leads ring plan w first u × Leads ring plan u second v)
