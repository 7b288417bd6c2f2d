-- A store that hands hints over is in the next world.
use Rattle.std.proofs.Common.{◌≡◌, ◌∙◌, ℕ, Bool, true, cond, List, [], refl, sym, ap, subst}
use Rattle.std.specs.Prelude.{◌&&◌, ◌||◌, ◌==◌, not, Some, None, Ok}
use Rattle.std.proofs.lemmas.Bool.{and_parts}
use Rattle.ring_names.specs.declared.ids.NodeId.{NodeId}
use Rattle.ring_names.specs.declared.ids.Slot.{Slot}
use Rattle.ring_table.specs.Value.{RingValue}
use Rattle.ring_versions.specs.declared.version.Version.{Version}
use Rattle.ring_store.specs.Nodes.{at_nodes}
use Rattle.ring_store.specs.Slots.{at_slot}
use Rattle.ring_hints.specs.Views.{is_of, pair_of}
use Rattle.plan_text.specs.declared.step.Planned.{Planned}
use Rattle.plan_text.specs.Steps.{is_slot}
use Rattle.plan_text.specs.Valid.{is_ring_slot}
use Rattle.plan_stage.specs.Clauses.{first_failing}
use Rattle.plan_runs.specs.declared.event.Event.{Event}
use Rattle.plan_runs.specs.declared.event.Event.TheVariants.{Handoff}
use Rattle.plan_runs.specs.declared.event.Reply.TheVariants as reply
use Rattle.plan_runs.specs.World.{World, is_of_key}
use Rattle.plan_runs.specs.Guards.{guards}
use Rattle.plan_runs.specs.Effects.{effect, without_puts}
use Rattle.plan_runs.specs.Answers.{answer, reply_to}
use Rattle.plan_runs.specs.Reached.{Reached}
use Rattle.plan_runs.proofs.Answered.{allowed}
use Rattle.plan_runs.proofs.Passed.{all_met}
use Rattle.store_parts.specs.declared.slots.SlotNow.{SlotNow}
use Rattle.store_parts.specs.Slots.{slot_now}
use Rattle.store_parts.specs.Shows.{Shows, value_of}
use Rattle.store_parts.specs.Stored.{MergeAll, at_mirror}
use Rattle.store_parts.specs.Stored as stored
use Rattle.store_parts.proofs.StoredGrows.{served_more}
use Rattle.store_parts.specs.PutsMeet.{clock_at}
use Rattle.store_parts.specs.SlotsMeet.{IsNow}
use Rattle.store_parts.proofs.PutsFrames.{puts_stay}
use Rattle.store_parts.proofs.SlotsFit.{kept_is}
use Rattle.store_parts.proofs.StepsNow.{steps_stay}
use Rattle.store_parts.specs.Kept.{Kept, Tells}
use Rattle.store_parts.proofs.WhoKeepsHints.{keeps_tells}
use Rattle.store_parts.proofs.StoreInWorld.{reached_of}
use Rattle.store_events.proofs.TellsOnVersions.{comes, lasts, goes_on}
use Rattle.store_events.proofs.ShownBrought.{served_shows, served_come, rest_shows}
use Rattle.store_events.proofs.Writes.{served_is}

module _ (ring : RingValue) (plan : List Planned) (k : Kept) (w : World) (m : Tells ring plan k w) (x : NodeId) (s : Slot) (passes : first_failing (guards ring plan w (Handoff x s)) ≡ None) where
  pub handoff_slot : is_ring_slot ring s ≡ true
  unfolding guards
  handoff_slot = (all_met (guards ring plan w (Handoff x s)) passes).0

  -- the node keeps something for the slot
  pub handoff_keeps : ((bs : List ℕ) → k.hinted x.0 s bs ≡ []) → ⊥
  unfolding guards
  handoff_keeps none = (let kept = (all_met (guards ring plan w (Handoff x s)) passes).1.0 in let not_kept = (keeps_tells ring plan k w m x.0 s).1 none in cc)

  -- the slot's owner and mirror have what the node kept for the slot, and the node keeps nothing for it
  pub handed : (served : SlotNow) (versions : List ℕ → List Version) (new hints : ℕ → Slot → List ℕ → List Version) → slot_now k.rows s ≡ Some served → ((bs : List ℕ) → versions bs ≡ k.hinted x.0 s bs)
      → MergeAll k.stored (at_nodes served.owner served.mirror (at_slot s versions)) new → ((y : ℕ) (t : Slot) (bs : List ℕ) → hints y t bs ≡ cond (is_of (pair_of x.0 s) y t) [] (k.hinted y t bs))
      → (u : World) × (answer ring plan w (Handoff x s) ≡ Ok (u, reply.Plain)) × Tells ring plan (record k { stored = new; hinted = hints }) u
  unfolding effect
  handed served versions new hints kept reads merges gone =
      let e : Event = Handoff x s in
      let reached : Reached ring plan w = reached_of ring plan k w m in
      let now : IsNow ring plan w s served = kept_is ring plan k.rows w s served m.slots kept in
      let h = allowed ring plan w e passes in (
        effect ring plan w e,
        h,
        goes_on ring plan w e passes k m refl refl refl refl k.steps k.puts new hints
            (steps_stay ring plan k.steps w e refl m.steps)
            (λ v. refl)
            (puts_stay ring plan w (effect ring plan w e) e (reply_to ring plan w e) k.keys k.last k.puts reached h refl m.puts)
            (comes ring plan w e passes (clock_at k.puts) k.stored (at_nodes served.owner served.mirror (at_slot s versions)) new w.stored
            (λ y t u. at_mirror served.mirror s (w.hinted x.0 s) y t u || stored.at_node served.owner s (w.hinted x.0 s) y t u) (effect ring plan w e).stored
            (λ y t u b. (reached.stored y t u b).0)
            (λ y t u b. (reached.hinted x.0 s u (served_come served.owner served.mirror s (w.hinted x.0 s) y t u b)).0)
            (λ y t u. served_more ring plan w s (w.hinted x.0 s) y t u ∙ ap (λ (b : Bool). b || w.stored y t u) (served_is ring plan w s served (w.hinted x.0 s) y t u now))
            m.stored
            (served_shows w (clock_at k.puts) served.owner served.mirror s versions (w.hinted x.0 s)
            (λ bs. subst (λ (vs : List Version). Shows (clock_at k.puts) (value_of w) vs (λ v. w.hinted x.0 s v && is_of_key w bs v)) (sym (reads bs)) (m.hinted x.0 s bs)))
            merges)
            (lasts ring plan w e passes (clock_at k.puts) hints (without_puts w.hinted x s)
            (λ y t u b. (reached.hinted y t u (and_parts (not ((y == x.0) && is_slot s t)) (w.hinted y t u) b).1).0)
            (rest_shows w (clock_at k.puts) x s k.hinted hints w.hinted gone m.hinted)),
      )
