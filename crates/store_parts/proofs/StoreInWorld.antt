-- What is known of a store that is in some world.
use Rattle.std.proofs.Common.{◌≡◌, ◌∙◌, ℕ, true, false, List, [], ◌∷◌, ◌++◌, refl, sym, ap, subst}
use Rattle.std.specs.Prelude.{◌≢◌, ◌==◌, Option, Some, Ok}
use Rattle.std.proofs.Math.Logic.{∥∥₁_elim}
use Rattle.ring_names.specs.declared.ids.NodeId.{NodeId}
use Rattle.ring_names.specs.declared.ids.Slot.{Slot}
use Rattle.ring_table.specs.Value.{RingValue}
use Rattle.plan_text.specs.declared.step.Planned.{Planned}
use Rattle.plan_text.specs.Steps.{steps_of}
use Rattle.plan_text.specs.Valid.{Suits, is_ring_slot}
use Rattle.plan_stage.proofs.Truth.{same}
use Rattle.plan_runs.specs.declared.event.Event.{Event}
use Rattle.plan_runs.specs.declared.event.Reply.{Reply}
use Rattle.plan_runs.specs.declared.event.Entry.{Entry}
use Rattle.plan_runs.specs.Answers.{answer}
use Rattle.plan_check.specs.Occupies.{IsGoodMirror}
use Rattle.plan_runs.specs.Reached.{Reached}
use Rattle.plan_runs.specs.Runs.{IsRun}
use Rattle.plan_runs.specs.World.{World, opening_world, count, stage_now}
use Rattle.plan_check.proofs.Good.{good-stages}
use Rattle.plan_runs.proofs.Reached.{reached}
use Rattle.plan_runs.proofs.Split.{joined}
use Rattle.store_parts.specs.declared.slots.SlotNow.{SlotNow}
use Rattle.store_parts.specs.Slots.{slot_now}
use Rattle.store_parts.specs.SlotsMeet.{IsNow}
use Rattle.store_parts.proofs.StageCounts.{count_within}
use Rattle.store_parts.proofs.SlotsFit.{kept_within, kept_is}
use Rattle.store_parts.specs.declared.parts.Parts.{Parts}
use Rattle.store_parts.specs.Kept.{Kept, Tells}
use Rattle.store_parts.specs.Parts.{Meets, IsSound}
use Rattle.plan_runs.proofs.Suited.{within as within_ring}

-- what follows from any world in which it may be, and can be so in only one way, is so
pub holds : (a : Parts) {P : Type 0} → IsSound a → IsProp P → ((w : World) → Meets a w → P) → P
holds a s p f = ∥∥₁_elim s.met p (λ m. f m.0 m.1)

module _ (ring : RingValue) (plan : List Planned) (k : Kept) (w : World) (m : Tells ring plan k w) where
  -- the world is one of a run
  pub reached_of : Reached ring plan w
  reached_of = reached ring plan m.run.0 w m.run.1

  -- the plan suits the ring
  pub suits_of : Suits ring plan
  suits_of = m.approved.sound.1.in_turn.suits

  -- an event that is answered prolongs the run
  pub run_on : (u : World) (e : Event) (r : Reply) → answer ring plan w e ≡ Ok (u, r) → (run : List Entry) × IsRun ring plan run u
  run_on u e r h =
      let entry : Entry = record { event = e; reply = r } in
      (m.run.0 ++ entry ∷ [], joined ring plan (opening_world ring) w u m.run.0 (entry ∷ []) m.run.1 (u, h, refl))

  -- ---- slots

  -- each slot of the ring is kept
  pub slot_there : (s : Slot) → is_ring_slot ring s ≡ true → (x : SlotNow) × (slot_now k.rows s ≡ Some x) × IsNow ring plan w s x
  slot_there = m.slots.each

  -- and is another node than the owner
  pub mirror_apart : (s : Slot) (x : SlotNow) (y : NodeId) → slot_now k.rows s ≡ Some x → x.mirror ≡ Some y → y.0 ≢ x.owner.0
  mirror_apart s x y e of same_node =
      let within = within_ring ring s (kept_within ring plan k.rows w s x m.slots e) in
      let now = kept_is ring plan k.rows w s x m.slots e in
      let good = good-stages ring plan s (λ t q j. m.approved.sound.1.in_turn.staged t) within.0 within.1 (count w.done (steps_of plan s)) (count_within w.done (steps_of plan s)) in
      let mirrored : IsGoodMirror (stage_now ring plan w s) (Some y) = subst (λ (o : Option NodeId). IsGoodMirror (stage_now ring plan w s) o) (sym now.mirror ∙ of) good.1 in
      let apart : (y.0 == (stage_now ring plan w s).owner.0) ≡ false = mirrored.0 in
      let one : y.0 ≡ (stage_now ring plan w s).owner.0 = same_node ∙ ap (λ (z : NodeId). z.0) now.owner in
      let yes_it_is : (y.0 == (stage_now ring plan w s).owner.0) ≡ true = subst (λ (z : ℕ). (y.0 == z) ≡ true) one (same y.0) in
      absurd cc
