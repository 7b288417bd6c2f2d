-- What a store keeps that tells of a world tells of the next one, where each part does.
use Rattle.std.proofs.Common.{◌≡◌, ℕ, Bool, false, not, List, sym, subst}
use Rattle.std.specs.Prelude.{None, Ok}
use Rattle.std.proofs.lemmas.Bool.{and_parts}
use Rattle.ring_names.specs.declared.ids.Slot.{Slot}
use Rattle.ring_table.specs.Value.{RingValue}
use Rattle.ring_versions.specs.declared.version.Version.{Version}
use Rattle.plan_text.specs.declared.step.Planned.{Planned}
use Rattle.plan_stage.specs.Clauses.{first_failing}
use Rattle.plan_runs.specs.declared.event.Event.{Event}
use Rattle.plan_runs.specs.declared.event.Reply.{Reply}
use Rattle.plan_runs.specs.World.{World}
use Rattle.plan_runs.specs.Guards.{guards}
use Rattle.plan_runs.specs.Effects.{effect}
use Rattle.plan_runs.specs.Answers.{reply_to, answer}
use Rattle.plan_runs.proofs.Answered.{allowed}
use Rattle.store_parts.specs.declared.nodes.NodeNow.{NodeNow}
use Rattle.store_parts.specs.declared.slots.SlotNow.{SlotNow}
use Rattle.store_parts.specs.declared.steps.StepNow.{StepNow}
use Rattle.store_parts.specs.Shows.{ArePutsOf}
use Rattle.store_parts.specs.Stored.{ShowAll}
use Rattle.store_parts.specs.NodesTold.{NodesTell}
use Rattle.store_parts.specs.StepsMeet.{StepsMeet}
use Rattle.store_parts.specs.SlotsMeet.{SlotsMeet}
use Rattle.store_parts.specs.PutsMeet.{clock_at}
use Rattle.plan_runs.specs.Leaves.{changes_puts, changes_gets}
use Rattle.store_parts.proofs.SlotsFit.{losses_stay}
use Rattle.store_parts.proofs.PutsFrames.{puts_stay}
use Rattle.store_parts.proofs.GetsFrames.{gets_stay}
use Rattle.store_parts.proofs.GetsTests.{reads_stay}
use Rattle.store_parts.specs.Kept.{Kept, Tells}
use Rattle.store_parts.proofs.StoreInWorld.{reached_of, run_on}
use Rattle.store_parts.proofs.HintsFit.{hints_stay}
use Rattle.store_events.specs.Acts.{Forgets}
use Rattle.store_events.proofs.TellsOnVersions.{lasts}
use Rattle.store_events.proofs.ShownLeft.{left, forgotten}

-- the event is answered so, and what is kept tells of the world to which it leads
abbrev pub LeadsOn : RingValue → List Planned → World → Event → Reply → Kept → Type 0
LeadsOn ring plan w e r new = (u : World) × (answer ring plan w e ≡ Ok (u, r)) × Tells ring plan new u

-- what is kept of the next world that events of steps and nodes change: nodes, steps, slots, the number of losses, and versions
pub record Told (ring : RingValue) (plan : List Planned) (k : Kept) (u : World) : Type 0 where
  pub nodes : NodesTell ring plan k.nodes u
  pub steps : StepsMeet plan k.steps u
  pub slots : SlotsMeet ring plan k.rows u
  pub losses : k.losses ≡ u.losses
  pub stored : ShowAll u (clock_at k.puts) k.stored u.stored
  pub hinted : ShowAll u (clock_at k.puts) k.hinted u.hinted

-- what is kept with these parts changed
abbrev pub with_parts : Kept → List NodeNow → List StepNow → List (List SlotNow) → ℕ → (ℕ → Slot → List ℕ → List Version) → (ℕ → Slot → List ℕ → List Version) → Kept
with_parts k nodes steps rows losses stored hinted = record k { nodes = nodes; steps = steps; rows = rows; losses = losses; stored = stored; hinted = hinted }

module _ (ring : RingValue) (plan : List Planned) (k : Kept) (w : World) (e : Event) where
  pub leads_on : (nodes : List NodeNow) (steps : List StepNow) (rows : List (List SlotNow)) (losses : ℕ) (stored hinted : ℕ → Slot → List ℕ → List Version)
      → Tells ring plan k w → first_failing (guards ring plan w e) ≡ None → changes_puts e ≡ false → changes_gets e ≡ false
      → Told ring plan (with_parts k nodes steps rows losses stored hinted) (effect ring plan w e)
      → LeadsOn ring plan w e (reply_to ring plan w e) (with_parts k nodes steps rows losses stored hinted)
  leads_on nodes steps rows losses stored hinted m passes no_put no_get t =
      let u = effect ring plan w e in
      let r = reply_to ring plan w e in
      let h = allowed ring plan w e passes in
      let reached = reached_of ring plan k w m in (
        u,
        h,
        record {
          is_ring = m.is_ring;
          is_plan = m.is_plan;
          approved = m.approved;
          run = run_on ring plan k w m u e r h;
          nodes = t.nodes;
          steps = t.steps;
          slots = t.slots;
          lost = losses_stay ring plan w e m.lost;
          losses = t.losses;
          numbered = m.numbered;
          placed = m.placed;
          behind = m.behind;
          puts = puts_stay ring plan w u e r k.keys k.last k.puts reached h no_put m.puts;
          reads = reads_stay ring plan w u e r h m.reads;
          gets = gets_stay ring plan w u e r (clock_at k.puts) k.keys k.gets reached h no_get m.gets;
          stored = t.stored;
          hints = hints_stay ring plan w u e r h m.hints;
          hinted = t.hinted;
        },
      )

  -- versions that show puts of the world show them in the next one
  shown_on : (held : ℕ → Slot → List ℕ → List Version) (test after : ℕ → Slot → ℕ → Bool) → first_failing (guards ring plan w e) ≡ None
      → ((x : ℕ) (s : Slot) → ArePutsOf w (test x s)) → after ≡ test → ShowAll w (clock_at k.puts) held test → ShowAll (effect ring plan w e) (clock_at k.puts) held after
  shown_on held test after passes are same shows =
      subst (λ (f : ℕ → Slot → ℕ → Bool). ShowAll (effect ring plan w e) (clock_at k.puts) held f) (sym same) (lasts ring plan w e passes (clock_at k.puts) held test are shows)

  -- what nodes store shows what it showed, where the event leaves it
  pub stored_on : Tells ring plan k w → first_failing (guards ring plan w e) ≡ None → (effect ring plan w e).stored ≡ w.stored → ShowAll (effect ring plan w e) (clock_at k.puts) k.stored (effect ring plan w e).stored
  stored_on m passes same = shown_on k.stored w.stored (effect ring plan w e).stored passes (λ x s v at. ((reached_of ring plan k w m).stored x s v at).0) same m.stored

  -- so does what they keep as hints
  pub hinted_on : Tells ring plan k w → first_failing (guards ring plan w e) ≡ None → (effect ring plan w e).hinted ≡ w.hinted → ShowAll (effect ring plan w e) (clock_at k.puts) k.hinted (effect ring plan w e).hinted
  hinted_on m passes same = shown_on k.hinted w.hinted (effect ring plan w e).hinted passes (λ x s v at. ((reached_of ring plan k w m).hinted x s v at).0) same m.hinted

  -- ---- where the event takes versions

  -- versions of which some are gone show the puts that are left
  left_on : (gone : ℕ → Slot → Bool) (held new : ℕ → Slot → List ℕ → List Version) (test after : ℕ → Slot → ℕ → Bool) → first_failing (guards ring plan w e) ≡ None
      → ((x : ℕ) (s : Slot) → ArePutsOf w (test x s)) → after ≡ left gone test → Forgets gone held new → ShowAll w (clock_at k.puts) held test → ShowAll (effect ring plan w e) (clock_at k.puts) new after
  left_on gone held new test after passes are same forgets shows =
      shown_on new (left gone test) after passes (λ x s v at. are x s v ((and_parts (not (gone x s)) (test x s v) at).1)) same (forgotten w (clock_at k.puts) gone held new test forgets shows)

  pub stored_left : (gone : ℕ → Slot → Bool) (new : ℕ → Slot → List ℕ → List Version) → Tells ring plan k w → first_failing (guards ring plan w e) ≡ None → (effect ring plan w e).stored ≡ left gone w.stored → Forgets gone k.stored new
      → ShowAll (effect ring plan w e) (clock_at k.puts) new (effect ring plan w e).stored
  stored_left gone new m passes same forgets = left_on gone k.stored new w.stored (effect ring plan w e).stored passes (λ x s v at. ((reached_of ring plan k w m).stored x s v at).0) same forgets m.stored

  pub hinted_left : (gone : ℕ → Slot → Bool) (new : ℕ → Slot → List ℕ → List Version) → Tells ring plan k w → first_failing (guards ring plan w e) ≡ None → (effect ring plan w e).hinted ≡ left gone w.hinted → Forgets gone k.hinted new
      → ShowAll (effect ring plan w e) (clock_at k.puts) new (effect ring plan w e).hinted
  hinted_left gone new m passes same forgets = left_on gone k.hinted new w.hinted (effect ring plan w e).hinted passes (λ x s v at. ((reached_of ring plan k w m).hinted x s v at).0) same forgets m.hinted
