-- The steps of a plan that suits a ring, one by one.
use Rattle.std.proofs.Common.{◌≡◌, ℕ, ◌<◌, true, not, List, length, ltb-true}
use Rattle.std.specs.Prelude.{Some}
use Rattle.std.proofs.lemmas.Bool.{and_parts}
use Rattle.ring_names.specs.declared.ids.NodeId.{NodeId}
use Rattle.ring_names.specs.declared.ids.Slot.{Slot}
use Rattle.ring_table.specs.Value.{RingValue, is_member}
use Rattle.plan_text.specs.declared.step.Step.{Step}
use Rattle.plan_text.specs.declared.step.Step.TheVariants.{Join, Mirror}
use Rattle.plan_text.specs.declared.step.Planned.{Planned}
use Rattle.plan_text.specs.Valid.{Suits, step_suits, is_ring_slot, is_declared}
use Rattle.plan_stage.specs.Each.{step_at}
use Rattle.plan_stage.proofs.Enough.{suits-at}

-- each step suits the ring
pub step_suiting : (ring : RingValue) (plan : List Planned) → Suits ring plan → (m : ℕ) (s : Step) → step_at plan m ≡ Some s → step_suits ring s ≡ true
step_suiting ring plan suits m s at = suits-at ring plan suits.steps m s at

-- a node that joins is declared
pub joins_within : (ring : RingValue) (plan : List Planned) → Suits ring plan → (m : ℕ) (x : NodeId) → step_at plan m ≡ Some (Join x) → x.0 < length ring.nodes
joins_within ring plan suits m x at = ltb-true x.0 (length ring.nodes) (and_parts (is_declared ring x) (not (is_member ring.nodes x)) (step_suiting ring plan suits m (Join x) at)).0

-- so is one that is mirrored
pub mirrors_within : (ring : RingValue) (plan : List Planned) → Suits ring plan → (m : ℕ) (s : Slot) (x : NodeId) → step_at plan m ≡ Some (Mirror s x) → x.0 < length ring.nodes
mirrors_within ring plan suits m s x at = ltb-true x.0 (length ring.nodes) (and_parts (is_ring_slot ring s) (is_declared ring x) (step_suiting ring plan suits m (Mirror s x) at)).1
