-- Nodes go down, come up and lose what they have, and what a store keeps tells of the next world.
use Rattle.std.proofs.Common.{◌≡◌, ◌∙◌, ℕ, ◌+◌, Bool, true, false, List, refl, sym, ap, subst}
use Rattle.std.specs.Prelude.{◌==◌, ◌||◌, Option, None, option_map, if◌then◌else◌}
use Rattle.ring_names.specs.declared.ids.NodeId.{NodeId}
use Rattle.ring_names.specs.declared.ids.Slot.{Slot}
use Rattle.ring_table.specs.Value.{RingValue}
use Rattle.ring_versions.specs.declared.version.Version.{Version}
use Rattle.plan_text.specs.declared.step.Planned.{Planned}
use Rattle.plan_text.specs.Valid.{is_ring_slot}
use Rattle.plan_stage.specs.Clauses.{first_failing}
use Rattle.plan_runs.specs.declared.event.Event.TheVariants.{Down, Up, Lose}
use Rattle.plan_runs.specs.declared.event.Reply.TheVariants.{Plain}
use Rattle.plan_runs.specs.World.{World, keeps}
use Rattle.plan_runs.specs.Guards.{guards}
use Rattle.plan_runs.specs.Effects.{changed, effect}
use Rattle.store_parts.specs.declared.nodes.NodeNow.{NodeNow}
use Rattle.store_parts.specs.declared.slots.SlotNow.{SlotNow}
use Rattle.store_parts.specs.Slots.{slot_now}
use Rattle.store_parts.specs.GuardsKept.{is_served_kept}
use Rattle.store_parts.proofs.NodesNow as now
use Rattle.store_parts.proofs.StepsNow.{steps_stay}
use Rattle.store_parts.proofs.SlotsNow.{slots_stay}
use Rattle.store_parts.proofs.SlotsGuards.{slots_lose_kept}
use Rattle.store_parts.specs.Kept.{Kept, Tells}
use Rattle.store_parts.proofs.StoreInWorld.{reached_of}
use Rattle.store_parts.proofs.WhoKeepsHints.{both_tell, keeps_tells}
use Rattle.store_events.specs.Acts.{Forgets}
use Rattle.store_events.specs.Groups.{raised, RaisesGroups}
use Rattle.store_events.proofs.TellsOnSteps.{LeadsOn, leads_on, stored_on, hinted_on, stored_left, hinted_left}

module _ (ring : RingValue) (plan : List Planned) (k : Kept) (w : World) (x : NodeId) (m : Tells ring plan k w) where
  pub down_on : (nodes : List NodeNow) → first_failing (guards ring plan w (Down x)) ≡ None → nodes ≡ changed k.nodes x.0 (λ a. record a { up = false }) → LeadsOn ring plan w (Down x) Plain (record k { nodes = nodes })
  unfolding effect
  down_on nodes passes e = leads_on ring plan k w (Down x) nodes k.steps k.rows k.losses k.stored k.hinted m passes refl refl (record {
    nodes = now.nodes_down ring plan w x k.nodes nodes m.nodes e;
    steps = steps_stay ring plan k.steps w (Down x) refl m.steps;
    slots = slots_stay ring plan k.rows w (Down x) m.is_ring m.is_plan m.approved.sound (reached_of ring plan k w m) refl passes m.slots;
    losses = m.losses;
    stored = stored_on ring plan k w (Down x) m passes refl;
    hinted = hinted_on ring plan k w (Down x) m passes refl;
  })

  pub up_on : (nodes : List NodeNow) → first_failing (guards ring plan w (Up x)) ≡ None → nodes ≡ changed k.nodes x.0 (λ a. record a { up = true }) → LeadsOn ring plan w (Up x) Plain (record k { nodes = nodes })
  unfolding effect
  up_on nodes passes e = leads_on ring plan k w (Up x) nodes k.steps k.rows k.losses k.stored k.hinted m passes refl refl (record {
    nodes = now.nodes_up ring plan w x k.nodes nodes m.nodes passes e;
    steps = steps_stay ring plan k.steps w (Up x) refl m.steps;
    slots = slots_stay ring plan k.rows w (Up x) m.is_ring m.is_plan m.approved.sound (reached_of ring plan k w m) refl passes m.slots;
    losses = m.losses;
    stored = stored_on ring plan k w (Up x) m passes refl;
    hinted = hinted_on ring plan k w (Up x) m passes refl;
  })

  -- a slot that the ring has not is none, raised or not
  none_is : (b : Bool) (o : Option SlotNow) → o ≡ None → o ≡ (if b then option_map raised o else o)
  none_is true o e = e ∙ ap (option_map raised) (sym e)
  none_is false o e = refl

  -- who keeps hints for a slot is known, so each slot of the ring is raised where the node is in its group
  raised_by : (rows : List (List SlotNow)) → RaisesGroups k.hinted x.0 (λ t. is_ring_slot ring t) k.rows rows
      → (t : Slot) → slot_now rows t ≡ (if is_served_kept k.rows t x.0 || keeps w x.0 t then option_map raised (slot_now k.rows t) else slot_now k.rows t)
  raised_by rows r t = by (is_ring_slot ring t) refl
    where
      by : (b : Bool) → is_ring_slot ring t ≡ b → slot_now rows t ≡ (if is_served_kept k.rows t x.0 || keeps w x.0 t then option_map raised (slot_now k.rows t) else slot_now k.rows t)
      by true e =
          let at = r.each t e in
          let is : at.0 ≡ keeps w x.0 t = both_tell at.0 (keeps w x.0 t) at.1 (keeps_tells ring plan k w m x.0 t) in
          subst (λ (b : Bool). slot_now rows t ≡ (if is_served_kept k.rows t x.0 || b then option_map raised (slot_now k.rows t) else slot_now k.rows t)) is at.2
      by false e = r.others t e ∙ none_is (is_served_kept k.rows t x.0 || keeps w x.0 t) (slot_now k.rows t) (m.slots.others t e)

  pub lose_on : (rows : List (List SlotNow)) (stored hinted : ℕ → Slot → List ℕ → List Version) → first_failing (guards ring plan w (Lose x)) ≡ None
      → RaisesGroups k.hinted x.0 (λ t. is_ring_slot ring t) k.rows rows → Forgets (λ y t. y == x.0) k.stored stored → Forgets (λ y t. y == x.0) k.hinted hinted
      → LeadsOn ring plan w (Lose x) Plain (record k { rows = rows; losses = k.losses + 1; stored = stored; hinted = hinted })
  unfolding effect
  lose_on rows stored hinted passes raises clears drops = leads_on ring plan k w (Lose x) k.nodes k.steps rows (k.losses + 1) stored hinted m passes refl refl (record {
    nodes = now.nodes_stay ring plan k.nodes w (Lose x) refl passes m.nodes;
    steps = steps_stay ring plan k.steps w (Lose x) refl m.steps;
    slots = slots_lose_kept ring plan w x k.rows rows (λ t. keeps w x.0 t) m.slots (λ t e. refl) (raised_by rows raises);
    losses = ap (λ (n : ℕ). n + 1) m.losses;
    stored = stored_left ring plan k w (Lose x) (λ y t. y == x.0) stored m passes refl clears;
    hinted = hinted_left ring plan k w (Lose x) (λ y t. y == x.0) hinted m passes refl drops;
  })
