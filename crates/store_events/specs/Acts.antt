-- What doing a step changes of what a store keeps, beside that the step is finished.
use Rattle.std.specs.Prelude.{◌≡◌, ℕ, Bool, true, ◌&&◌, ◌==◌, List, [], if◌then◌else◌}
use Rattle.ring_names.specs.declared.ids.Slot.{Slot}
use Rattle.ring_versions.specs.declared.version.Version.{Version}
use Rattle.plan_text.specs.declared.step.Step.{Step}
use Rattle.plan_text.specs.declared.step.Step.TheVariants as step
use Rattle.plan_text.specs.Steps.{is_slot}
use Rattle.plan_runs.specs.Effects.{changed}
use Rattle.store_parts.specs.SlotsStepped.{StepsSlots}
use Rattle.store_parts.specs.Kept.{Kept}

-- versions by node, slot and key: those that pass the test are gone, and all others are as before
abbrev pub Forgets : {K : Type 0} → (ℕ → Slot → Bool) → (ℕ → Slot → K → List Version) → (ℕ → Slot → K → List Version) → Type 0
Forgets {K} gone old new = (y : ℕ) (t : Slot) (key : K) → new y t key ≡ (if gone y t then [] else old y t key)

-- a join and a retirement change the node, and a mirror and a switch the slot. A drop takes what the node
-- stores for the slot
abbrev pub Acts : Kept → Kept → Step → Type 0
Acts old new (step.Join x) = new ≡ record old { nodes = changed old.nodes x.0 (λ a. record a { up = true; joined = true }) }
Acts old new (step.Mirror s x) = (new ≡ record old { rows = new.rows }) × StepsSlots old.rows new.rows (step.Mirror s x)
Acts old new (step.Copy s from) = Unit {0}
Acts old new (step.Switch s) = (new ≡ record old { rows = new.rows }) × StepsSlots old.rows new.rows (step.Switch s)
Acts old new (step.Drop s x) = (new ≡ record old { stored = new.stored }) × Forgets (λ y t. (y == x.0) && is_slot s t) old.stored new.stored
Acts old new (step.Retire x) = new ≡ record old { nodes = changed old.nodes x.0 (λ a. record a { retired = true }) }
