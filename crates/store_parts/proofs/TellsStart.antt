-- What a store keeps before the first event.
use Rattle.std.proofs.Common.{◌≡◌, ℕ, false, List, [], length, refl, sym, subst}
use Rattle.std.specs.Prelude.{None, option_map, map, replicate}
use Rattle.ring_names.specs.declared.ids.Slot.{Slot}
use Rattle.ring_table.specs.Value.{RingValue, owner_of}
use Rattle.ring_table.specs.Valid.{IsRing}
use Rattle.ring_versions.specs.declared.version.Version.{Version}
use Rattle.plan_text.specs.declared.step.Planned.{Planned}
use Rattle.plan_text.specs.Valid.{IsPlan}
use Rattle.plan_check.specs.Approval.{IsApproved}
use Rattle.plan_runs.specs.World.{opening_world}
use Rattle.store_parts.specs.Nodes.{node_at_start}
use Rattle.store_parts.specs.Slots.{slot_now, slot_at_start}
use Rattle.store_parts.specs.Steps.{step_at_start}
use Rattle.store_parts.specs.Shows.{Shows, value_of}
use Rattle.store_parts.specs.Stored.{ShowAll}
use Rattle.store_parts.proofs.ShownSets.{none}
use Rattle.ring_clock.specs.declared.entry.Entry.{Entry}
use Rattle.store_parts.specs.PutsMeet.{clock_at}
use Rattle.store_parts.proofs.NodesNow.{nodes_start}
use Rattle.store_parts.proofs.StepsNow.{steps_start}
use Rattle.store_parts.proofs.SlotsNow.{slots_start}
use Rattle.store_parts.proofs.SlotsFit.{losses_start}
use Rattle.store_parts.proofs.PutsLists.{none_numbered}
use Rattle.store_parts.proofs.PutsFrames.{puts_open}
use Rattle.store_parts.proofs.GetsFrames.{gets_open}
use Rattle.store_parts.proofs.GetsTests.{reads_open}
use Rattle.store_parts.specs.Kept.{Kept, Tells}
use Rattle.store_parts.proofs.HintsFit.{hints_open}

-- no versions show no puts
nothing : (ring : RingValue) (clock : ℕ → List Entry) (held : ℕ → Slot → List ℕ → List Version) → ((x : ℕ) (s : Slot) (key : List ℕ) → held x s key ≡ []) → ShowAll (opening_world ring) clock held (λ x s v. false)
nothing ring clock held e x s key = subst (λ (vs : List Version). Shows clock (value_of (opening_world ring)) vs (λ v. false)) (sym (e x s key)) (none clock (value_of (opening_world ring)))

pub tells_start : (ring : RingValue) (plan : List Planned) (k : Kept) → IsRing ring → IsPlan plan → IsApproved ring plan
    → k.nodes ≡ map node_at_start ring.nodes → k.steps ≡ replicate (length plan) step_at_start → ((t : Slot) → slot_now k.rows t ≡ option_map slot_at_start (owner_of ring t))
    → k.keys ≡ [] → ((j writer : ℕ) → k.last j writer ≡ None) → k.puts ≡ [] → k.gets ≡ [] → k.losses ≡ 0
    → ((x : ℕ) (s : Slot) (key : List ℕ) → k.stored x s key ≡ []) → ((x : ℕ) (s : Slot) (key : List ℕ) → k.hinted x s key ≡ [])
    → Tells ring plan k (opening_world ring)
tells_start ring plan k is_ring is_plan approved nodes steps rows keys last puts gets losses stored hinted = record {
  is_ring = is_ring;
  is_plan = is_plan;
  approved = approved;
  run = ([], refl);
  nodes = nodes_start ring plan k.nodes nodes;
  steps = steps_start ring plan k.steps steps;
  slots = slots_start ring plan k.rows is_ring rows;
  lost = losses_start ring;
  losses = losses;
  numbered = rw keys none_numbered;
  placed = rw keys (λ j key at. absurd cc);
  behind = λ j writer l. last j writer;
  puts = rw puts (puts_open ring k.keys k.last last);
  reads = reads_open ring;
  gets = rw gets (gets_open ring (clock_at k.puts) k.keys);
  stored = nothing ring (clock_at k.puts) k.stored stored;
  hints = hints_open ring;
  hinted = nothing ring (clock_at k.puts) k.hinted hinted;
}
