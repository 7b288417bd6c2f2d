-- The clauses of a partition: for its slots, and then for the plan's steps.
use Rattle.std.proofs.Common.{◌≡◌, ℕ, ◌-◌, List, [], ◌∷◌, ◌++◌, length, Some, None, sym, ◌∙◌}
use Rattle.std.specs.Prelude.{◌||◌, ◌==◌, slice_index, Result, Ok, Err}
use Rattle.ring_names.specs.declared.ids.Slot.{Slot}
use Rattle.ring_names.specs.declared.refusal.Refusal.{Refusal}
use Rattle.ring_names.specs.declared.refusal.Refusal.TheVariants.{WrongStage, UnorderedSlot, OutOfMemory}
use Rattle.ring_table.specs.Value.{RingValue}
use Rattle.plan_text.specs.declared.step.Planned.{Planned}
use Rattle.plan_text.specs.Steps.{steps_of}
use Rattle.plan_stage.specs.Stage.{stage}
use Rattle.plan_stage.specs.Clauses.{Guard, Gives, first_failing, below, is_staged, IsStagedIn}
use Rattle.plan_stage.specs.Partition.{Test, slot_step_clauses, slot_clauses}
use Rattle.plan_stage.proofs.Below.{met, first-then, first-kept, below-met}

-- the steps of slots without a failing clause fit their stages
pub staged-from : (ring : RingValue) (plan : List Planned) (O : Test) (p : ℕ) → first_failing (below (λ i. slot_clauses ring plan O (record { partition = p; index = i })) ring.n) ≡ None → IsStagedIn ring plan p
staged-from ring plan O p h i l k within =
    let slot : Slot = record { partition = p; index = i } in
    let own = below-met (λ j. slot_clauses ring plan O (record { partition = p; index = j })) ring.n h i l in
    let here = below-met (slot_step_clauses ring plan O slot) (length (steps_of plan slot)) own k within in
    (met (is_staged plan (stage ring plan slot k) (steps_of plan slot) k) (WrongStage (slice_index (steps_of plan slot) k)) (first_failing (((k == 0) || O (slice_index (steps_of plan slot) (k - 1)) (slice_index (steps_of plan slot) k), UnorderedSlot (slice_index (steps_of plan slot) k)) ∷ [])) here).0

-- a result for the clauses behind others that hold is one for all
pub gives-behind : (r : Result (Unit {0}) Refusal) (cs ds : List Guard) → first_failing cs ≡ None → Gives r ds → Gives r (cs ++ ds)
gives-behind (Ok u) cs ds h g = first-then cs ds h ∙ g
gives-behind (Err e) cs ds h g = λ ne. first-then cs ds h ∙ g ne

-- a result for clauses that fail first alike
pub gives-same : (r : Result (Unit {0}) Refusal) (cs ds : List Guard) → first_failing cs ≡ first_failing ds → Gives r cs → Gives r ds
gives-same (Ok u) cs ds h g = sym h ∙ g
gives-same (Err e) cs ds h g = λ ne. sym h ∙ g ne

-- a refusal among clauses in front of others is one among all
pub gives-front : (e : Refusal) (cs ds : List Guard) → ((e ≡ OutOfMemory → ⊥) → first_failing cs ≡ Some e) → Gives (Err e) (cs ++ ds)
gives-front e cs ds g = λ ne. first-kept cs ds e (g ne)
