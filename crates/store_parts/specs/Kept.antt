-- What a running store keeps, without how, and what it says of a world.
use Rattle.std.specs.Prelude.{◌≡◌, ℕ, List, length, Option}
use Rattle.ring_names.specs.declared.ids.Slot.{Slot}
use Rattle.ring_table.specs.Value.{RingValue}
use Rattle.ring_table.specs.Valid.{IsRing}
use Rattle.ring_versions.specs.declared.version.Version.{Version}
use Rattle.plan_text.specs.declared.step.Planned.{Planned}
use Rattle.plan_text.specs.Valid.{IsPlan}
use Rattle.plan_runs.specs.declared.event.Entry.{Entry}
use Rattle.plan_check.specs.Approval.{IsApproved}
use Rattle.plan_runs.specs.Runs.{IsRun}
use Rattle.plan_runs.specs.World.{World}
use Rattle.store_parts.specs.declared.gets.GetNow.{GetNow}
use Rattle.store_parts.specs.declared.nodes.NodeNow.{NodeNow}
use Rattle.store_parts.specs.declared.puts.PutNow.{PutNow}
use Rattle.store_parts.specs.declared.slots.SlotNow.{SlotNow}
use Rattle.store_parts.specs.declared.steps.StepNow.{StepNow}
use Rattle.store_parts.specs.Stored.{ShowAll}
use Rattle.store_parts.specs.NodesTold.{NodesTell}
use Rattle.store_parts.specs.StepsMeet.{StepsMeet}
use Rattle.store_parts.specs.SlotsMeet.{SlotsMeet}
use Rattle.store_parts.specs.SlotsLost.{LossesFit}
use Rattle.store_parts.specs.PutsMeet.{PutsMeet, clock_at, AreNumbered, NoneBehind}
use Rattle.store_parts.specs.GetsMeet.{GetsMeet}
use Rattle.store_parts.specs.GetsTests.{ReadsFit}
use Rattle.store_parts.specs.HintsFit.{HintsFit, KeysFit}

-- nodes, steps, slots by partition, keys by number, each writer's last put on each key, puts, gets, and the
-- number of losses. Also the versions that nodes store and those that they keep as hints, by node, slot and key
pub record Kept : Type 0 where
  pub nodes : List NodeNow
  pub steps : List StepNow
  pub rows : List (List SlotNow)
  pub keys : List (List ℕ)
  pub last : ℕ → ℕ → Option ℕ
  pub puts : List PutNow
  pub gets : List GetNow
  pub losses : ℕ
  pub stored : ℕ → Slot → List ℕ → List Version
  pub hinted : ℕ → Slot → List ℕ → List Version

-- a run of the approved plan leads to the world, and this is what a store keeps that has done that run. It is
-- all that the world tells, with versions that show puts
pub record Tells (ring : RingValue) (plan : List Planned) (k : Kept) (w : World) : Type 0 where
  pub is_ring : IsRing ring
  pub is_plan : IsPlan plan
  pub approved : IsApproved ring plan
  pub run : (run : List Entry) × IsRun ring plan run w
  pub nodes : NodesTell ring plan k.nodes w
  pub steps : StepsMeet plan k.steps w
  pub slots : SlotsMeet ring plan k.rows w
  pub lost : LossesFit w
  pub losses : k.losses ≡ w.losses
  pub numbered : AreNumbered k.keys
  pub placed : KeysFit ring k.keys
  pub behind : NoneBehind k.last (length k.keys)
  pub puts : PutsMeet k.keys k.last k.puts w
  pub reads : ReadsFit ring w
  pub gets : GetsMeet ring (clock_at k.puts) k.keys k.gets w
  pub stored : ShowAll w (clock_at k.puts) k.stored w.stored
  pub hints : HintsFit ring w
  pub hinted : ShowAll w (clock_at k.puts) k.hinted w.hinted
