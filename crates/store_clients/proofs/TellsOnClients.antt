-- What a store keeps tells of the next world if an event of a client changes only keys, puts and gets.
use Rattle.std.proofs.Common.{◌≡◌, ◌∙◌, ℕ, Bool, true, false, List, length, refl, sym, subst}
use Rattle.std.specs.Prelude.{Option, Ok}
use Rattle.ring_names.specs.declared.ids.Slot.{Slot}
use Rattle.ring_table.specs.Value.{RingValue}
use Rattle.plan_text.specs.declared.step.Planned.{Planned}
use Rattle.plan_runs.specs.declared.event.Event.{Event}
use Rattle.plan_runs.specs.declared.event.Event.TheVariants.{StartPut, Ack, StartGet, Read, EndGet}
use Rattle.plan_runs.specs.declared.event.Reply.{Reply}
use Rattle.plan_runs.specs.World.{World}
use Rattle.plan_runs.specs.Effects.{effect}
use Rattle.plan_runs.specs.Answers.{answer}
use Rattle.plan_runs.specs.Reached.{Reached}
use Rattle.plan_runs.proofs.Answered.{answered}
use Rattle.ring_clock.specs.declared.entry.Entry.{Entry}
use Rattle.store_parts.specs.Stored.{ShowAll}
use Rattle.store_parts.proofs.StoredLasts.{all_stay}
use Rattle.store_parts.specs.declared.gets.GetNow.{GetNow}
use Rattle.store_parts.specs.declared.puts.PutNow.{PutNow}
use Rattle.store_parts.specs.GetsMeet.{GetsMeet}
use Rattle.store_parts.specs.NodesTold.{NodesTell, leaves_nodes}
use Rattle.store_parts.specs.PutsMeet.{PutsMeet, clock_at, AreNumbered, NoneBehind}
use Rattle.store_parts.specs.SlotsMeet.{SlotsMeet}
use Rattle.store_parts.specs.SlotsLost.{LossesFit}
use Rattle.store_parts.specs.SlotsStepped.{leaves_slots}
use Rattle.store_parts.specs.StepsMeet.{StepsMeet}
use Rattle.plan_runs.specs.Leaves.{leaves_steps}
use Rattle.store_parts.proofs.GetsTests.{reads_stay}
use Rattle.store_parts.proofs.NodesNow.{nodes_stay}
use Rattle.store_parts.proofs.SlotsFit.{losses_stay}
use Rattle.store_parts.proofs.SlotsNow.{slots_stay}
use Rattle.store_parts.proofs.StepsNow.{steps_stay}
use Rattle.store_parts.specs.HintsFit.{KeysFit}
use Rattle.store_parts.specs.Kept.{Kept, Tells}
use Rattle.store_parts.proofs.HintsFit.{hints_stay}
use Rattle.store_parts.proofs.StoreInWorld.{reached_of, run_on}

-- whether the event is one of a client that writes no version
abbrev pub is_of_client : Event → Bool
is_of_client (StartPut writer key value seen) = true
is_of_client (Ack v) = true
is_of_client (StartGet key) = true
is_of_client (Read g i) = true
is_of_client (EndGet g) = true
is_of_client e = false

-- the event leaves nodes, steps and slots as they are, and what nodes store and keep
pub record LeavesRest (plan : List Planned) (w u : World) (e : Event) : Type 0 where
  pub nodes : leaves_nodes plan e ≡ true
  pub steps : leaves_steps e ≡ true
  pub slots : leaves_slots plan e ≡ true
  pub losses : u.losses ≡ w.losses
  pub stored : u.stored ≡ w.stored
  pub hinted : u.hinted ≡ w.hinted

leaves_rest : (ring : RingValue) (plan : List Planned) (w : World) (e : Event) → is_of_client e ≡ true → LeavesRest plan w (effect ring plan w e) e
unfolding effect
leaves_rest ring plan w (StartPut writer key value seen) h = record { nodes = refl; steps = refl; slots = refl; losses = refl; stored = refl; hinted = refl }
leaves_rest ring plan w (Ack v) h = record { nodes = refl; steps = refl; slots = refl; losses = refl; stored = refl; hinted = refl }
leaves_rest ring plan w (StartGet key) h = record { nodes = refl; steps = refl; slots = refl; losses = refl; stored = refl; hinted = refl }
leaves_rest ring plan w (Read g i) h = record { nodes = refl; steps = refl; slots = refl; losses = refl; stored = refl; hinted = refl }
leaves_rest ring plan w (EndGet g) h = record { nodes = refl; steps = refl; slots = refl; losses = refl; stored = refl; hinted = refl }
leaves_rest ring plan w e h = absurd cc

module _ (ring : RingValue) (plan : List Planned) (k : Kept) (w u : World) (e : Event) (r : Reply) (m : Tells ring plan k w) (client : is_of_client e ≡ true) (h : answer ring plan w e ≡ Ok (u, r)) where
  rest : LeavesRest plan w u e
  rest = subst (λ (z : World). LeavesRest plan w z e) (answered ring plan w u e r h).1 (leaves_rest ring plan w e client)

  reached : Reached ring plan w
  reached = reached_of ring plan k w m

  -- what nodes store shows what is stored in the next world
  pub stored_on : ShowAll u (clock_at k.puts) k.stored u.stored
  stored_on = subst (λ (test : ℕ → Slot → ℕ → Bool). ShowAll u (clock_at k.puts) k.stored test) (sym rest.stored)
      (all_stay ring plan w u e r (clock_at k.puts) k.stored w.stored h (λ x s v t. (reached.stored x s v t).0) m.stored)

  -- and so does what they keep as hints
  pub hinted_on : ShowAll u (clock_at k.puts) k.hinted u.hinted
  hinted_on = subst (λ (test : ℕ → Slot → ℕ → Bool). ShowAll u (clock_at k.puts) k.hinted test) (sym rest.hinted)
      (all_stay ring plan w u e r (clock_at k.puts) k.hinted w.hinted h (λ x s v t. (reached.hinted x s v t).0) m.hinted)

  -- versions that show what is stored and kept in this world by other clocks show it in the next one
  pub stored_too : (clock : ℕ → List Entry) → ShowAll u clock k.stored w.stored → ShowAll u clock k.stored u.stored
  stored_too clock shown = subst (λ (test : ℕ → Slot → ℕ → Bool). ShowAll u clock k.stored test) (sym rest.stored) shown

  pub hinted_too : (clock : ℕ → List Entry) → ShowAll u clock k.hinted w.hinted → ShowAll u clock k.hinted u.hinted
  hinted_too clock shown = subst (λ (test : ℕ → Slot → ℕ → Bool). ShowAll u clock k.hinted test) (sym rest.hinted) shown

  -- where keys, puts and gets tell of the next world, all does
  pub tells_next : (keys : List (List ℕ)) (last : ℕ → ℕ → Option ℕ) (puts : List PutNow) (gets : List GetNow)
      → AreNumbered keys → KeysFit ring keys → NoneBehind last (length keys) → PutsMeet keys last puts u → GetsMeet ring (clock_at puts) keys gets u
      → ShowAll u (clock_at puts) k.stored u.stored → ShowAll u (clock_at puts) k.hinted u.hinted
      → Tells ring plan (record k { keys = keys; last = last; puts = puts; gets = gets }) u
  tells_next keys last puts gets numbered placed behind puts_meet gets_meet stored hinted =
      let a = answered ring plan w u e r h in
      record {
        is_ring = m.is_ring;
        is_plan = m.is_plan;
        approved = m.approved;
        run = run_on ring plan k w m u e r h;
        nodes = subst (λ (z : World). NodesTell ring plan k.nodes z) a.1 (nodes_stay ring plan k.nodes w e rest.nodes a.0 m.nodes);
        steps = subst (λ (z : World). StepsMeet plan k.steps z) a.1 (steps_stay ring plan k.steps w e rest.steps m.steps);
        slots = subst (λ (z : World). SlotsMeet ring plan k.rows z) a.1 (slots_stay ring plan k.rows w e m.is_ring m.is_plan m.approved.sound reached rest.slots a.0 m.slots);
        lost = subst (λ (z : World). LossesFit z) a.1 (losses_stay ring plan w e m.lost);
        losses = m.losses ∙ sym rest.losses;
        numbered = numbered;
        placed = placed;
        behind = behind;
        puts = puts_meet;
        reads = reads_stay ring plan w u e r h m.reads;
        gets = gets_meet;
        stored = stored;
        hints = hints_stay ring plan w u e r h m.hints;
        hinted = hinted;
      }
