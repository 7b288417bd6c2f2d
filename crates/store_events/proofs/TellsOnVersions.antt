-- What a store keeps goes on to tell of the world through an event. This event changes at most marks, puts, and
-- what nodes store and keep.
use Rattle.std.proofs.Common.{◌≡◌, inl, inr, ◌∙◌, ℕ, Bool, true, false, List, sym, subst}
use Rattle.std.specs.Prelude.{◌||◌, None, Ok}
use Rattle.std.proofs.Math.Path.{fun_ext}
use Rattle.std.proofs.lemmas.Bool.{or_cases}
use Rattle.ring_names.specs.declared.ids.Slot.{Slot}
use Rattle.ring_table.specs.Value.{RingValue}
use Rattle.ring_clock.specs.declared.entry.Entry.{Entry}
use Rattle.ring_versions.specs.declared.version.Version.{Version}
use Rattle.plan_text.specs.declared.step.Planned.{Planned}
use Rattle.plan_stage.specs.Clauses.{first_failing}
use Rattle.plan_runs.specs.declared.event.Event.{Event}
use Rattle.plan_runs.specs.declared.event.Reply.{Reply}
use Rattle.plan_runs.specs.World.{World}
use Rattle.plan_runs.specs.Guards.{guards}
use Rattle.plan_runs.specs.Effects.{effect}
use Rattle.plan_runs.specs.Answers.{answer, reply_to}
use Rattle.plan_runs.proofs.Answered.{allowed}
use Rattle.store_parts.specs.declared.puts.PutNow.{PutNow}
use Rattle.store_parts.specs.declared.steps.StepNow.{StepNow}
use Rattle.store_parts.specs.Shows.{ArePutsOf}
use Rattle.store_parts.specs.Stored.{ShowAll, MergeAll}
use Rattle.store_parts.proofs.StoredGrows.{grown}
use Rattle.store_parts.proofs.StoredLasts.{all_stay}
use Rattle.plan_runs.specs.Leaves.{changes_gets}
use Rattle.store_parts.specs.GetsMeet.{GetsMeet}
use Rattle.store_parts.specs.NodesTold.{leaves_nodes}
use Rattle.store_parts.specs.PutsMeet.{clock_at, PutsMeet}
use Rattle.store_parts.specs.SlotsStepped.{leaves_slots}
use Rattle.store_parts.specs.StepsMeet.{StepsMeet}
use Rattle.store_parts.proofs.GetsFrames.{gets_stay}
use Rattle.store_parts.proofs.GetsTests.{reads_stay}
use Rattle.store_parts.proofs.NodesNow.{nodes_stay}
use Rattle.store_parts.proofs.SlotsFit.{losses_stay}
use Rattle.store_parts.proofs.SlotsNow.{slots_stay}
use Rattle.store_parts.specs.Kept.{Kept, Tells}
use Rattle.store_parts.proofs.HintsFit.{hints_stay}
use Rattle.store_parts.proofs.StoreInWorld.{reached_of, run_on}

module _ (ring : RingValue) (plan : List Planned) (w : World) (e : Event) (passes : first_failing (guards ring plan w e) ≡ None) where
  -- what comes to versions that show puts shows what comes in the next world
  pub comes : (clock : ℕ → List Entry) (old more new : ℕ → Slot → List ℕ → List Version) (test extra next : ℕ → Slot → ℕ → Bool)
      → ((x : ℕ) (s : Slot) → ArePutsOf w (test x s)) → ((x : ℕ) (s : Slot) → ArePutsOf w (extra x s)) → ((x : ℕ) (s : Slot) (v : ℕ) → next x s v ≡ (extra x s v || test x s v))
      → ShowAll w clock old test → ShowAll w clock more extra → MergeAll old more new → ShowAll (effect ring plan w e) clock new next
  comes clock old more new test extra next are come is shows brings merge =
      let same : next ≡ (λ (x : ℕ) (s : Slot) (v : ℕ). extra x s v || test x s v) = fun_ext (λ x. fun_ext (λ s. fun_ext (λ v. is x s v))) in
      subst (λ (f : ℕ → Slot → ℕ → Bool). ShowAll (effect ring plan w e) clock new f) (sym same)
      (all_stay ring plan w (effect ring plan w e) e (reply_to ring plan w e) clock new (λ x s v. extra x s v || test x s v) (allowed ring plan w e passes)
      (λ x s v h. elim (or_cases (extra x s v) (test x s v) h) [ inl a ↦ come x s v a | inr b ↦ are x s v b ])
      (grown w clock old more new test extra shows brings merge))

  -- what shows puts that are there shows them in the next world
  pub lasts : (clock : ℕ → List Entry) (held : ℕ → Slot → List ℕ → List Version) (test : ℕ → Slot → ℕ → Bool) → ((x : ℕ) (s : Slot) → ArePutsOf w (test x s)) → ShowAll w clock held test
      → ShowAll (effect ring plan w e) clock held test
  lasts clock held test are shows = all_stay ring plan w (effect ring plan w e) e (reply_to ring plan w e) clock held test (allowed ring plan w e passes) are shows

  -- the rest goes on
  pub goes_on : (k : Kept) → Tells ring plan k w → leaves_nodes plan e ≡ true → leaves_slots plan e ≡ true → changes_gets e ≡ false → (effect ring plan w e).losses ≡ w.losses
      → (steps : List StepNow) (puts : List PutNow) (stored hinted : ℕ → Slot → List ℕ → List Version)
      → StepsMeet plan steps (effect ring plan w e) → ((v : ℕ) → clock_at puts v ≡ clock_at k.puts v) → PutsMeet k.keys k.last puts (effect ring plan w e)
      → ShowAll (effect ring plan w e) (clock_at k.puts) stored (effect ring plan w e).stored → ShowAll (effect ring plan w e) (clock_at k.puts) hinted (effect ring plan w e).hinted
      → Tells ring plan (record k { steps = steps; puts = puts; stored = stored; hinted = hinted }) (effect ring plan w e)
  goes_on k m nodes slots gets losses steps puts stored hinted steps_meet clocks puts_meet shown kept =
      let u : World = effect ring plan w e in
      let r : Reply = reply_to ring plan w e in
      let h : answer ring plan w e ≡ Ok (u, r) = allowed ring plan w e passes in
      let same : clock_at puts ≡ clock_at k.puts = fun_ext clocks in
      record {
        is_ring = m.is_ring;
        is_plan = m.is_plan;
        approved = m.approved;
        run = run_on ring plan k w m u e r h;
        nodes = nodes_stay ring plan k.nodes w e nodes passes m.nodes;
        steps = steps_meet;
        slots = slots_stay ring plan k.rows w e m.is_ring m.is_plan m.approved.sound (reached_of ring plan k w m) slots passes m.slots;
        lost = losses_stay ring plan w e m.lost;
        losses = m.losses ∙ sym losses;
        numbered = m.numbered;
        placed = m.placed;
        behind = m.behind;
        puts = puts_meet;
        reads = reads_stay ring plan w u e r h m.reads;
        gets = subst (λ (f : ℕ → List Entry). GetsMeet ring f k.keys k.gets u) (sym same) (gets_stay ring plan w u e r (clock_at k.puts) k.keys k.gets (reached_of ring plan k w m) h gets m.gets);
        stored = subst (λ (f : ℕ → List Entry). ShowAll u f stored u.stored) (sym same) shown;
        hints = hints_stay ring plan w u e r h m.hints;
        hinted = subst (λ (f : ℕ → List Entry). ShowAll u f hinted u.hinted) (sym same) kept;
      }
