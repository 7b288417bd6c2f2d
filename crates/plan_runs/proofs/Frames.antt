-- What each event leaves as it is, one part of a world after the other.
use Rattle.std.proofs.Common.{◌≡◌, ◌⊎◌, inl, inr, ◌∙◌, ℕ, ◌+◌, true, false, List, [], ◌∷◌, length, length-append, refl, sym, ap, arith, eqb-true}
use Rattle.std.specs.Prelude.{◌==◌, Option, Some, None, if◌then◌else◌}
use Rattle.ring_names.specs.declared.ids.NodeId.{NodeId}
use Rattle.ring_names.specs.declared.ids.Slot.{Slot}
use Rattle.ring_table.specs.Value.{RingValue}
use Rattle.plan_text.specs.declared.step.Step.{Step}
use Rattle.plan_text.specs.declared.step.Step.TheVariants.{Join}
use Rattle.plan_text.specs.declared.step.Planned.{Planned}
use Rattle.plan_stage.specs.Each.{step_at}
use Rattle.plan_runs.specs.declared.event.Event.{Event}
use Rattle.plan_runs.specs.declared.event.Event.TheVariants.{Do, OpenCopy, ChunkCopy, CloseCopy, AbortCopy, StartPut, Write, Hint, Ack, StartGet, Read, EndGet, Handoff, Lose}
use Rattle.plan_runs.specs.World.{PutRecord, GetRecord, World, generation}
use Rattle.plan_runs.specs.Versions.{put_slot}
use Rattle.plan_runs.specs.Effects.{with_number, with_value, step_effect, do_effect, finds, answers, effect}
use Rattle.plan_runs.specs.Leaves.{leaves_steps, starts_put, changes_puts, starts_get, changes_gets, loses}
use Rattle.plan_runs.proofs.Changed.{length_changed}
use Rattle.plan_runs.proofs.Storing.{with_puts_is, without_puts_was, lose_hinted}

-- a step changes at most which nodes are up and what is stored
pub step_is : (w : World) (s : Step) → step_effect w s ≡ record w { up = (step_effect w s).up; stored = (step_effect w s).stored }
step_is w (Join x) = refl
step_is w s = refl

-- done, it is finished as well
pub do_is : (plan : List Planned) (w : World) (n : ℕ) → do_effect plan w n ≡ record w { done = (do_effect plan w n).done; up = (do_effect plan w n).up; stored = (do_effect plan w n).stored }
do_is plan w n = by (step_at plan n)
  where
    after : Option Step → World
    after o = elim o [ Some s ↦ step_effect (record w { done = with_number w.done n }) s | None ↦ w ]

    by : (o : Option Step) → after o ≡ record w { done = (after o).done; up = (after o).up; stored = (after o).stored }
    by (Some (Join x)) = refl
    by o = refl

-- if there is that step, this is all that is done
pub done_is : (ring : RingValue) (plan : List Planned) (w : World) (n : ℕ) (s : Step) → step_at plan n ≡ Some s → effect ring plan w (Do n) ≡ step_effect (record w { done = with_number w.done n }) s
unfolding effect
done_is ring plan w n s at = ap (λ (o : Option Step). elim o as (λ _. World) [ Some t ↦ step_effect (record w { done = with_number w.done n }) t | None ↦ w ]) at

-- steps, open copies and marks
pub same_steps : (ring : RingValue) (plan : List Planned) (w : World) (e : Event) → leaves_steps e ≡ true
    → ((effect ring plan w e).done ≡ w.done) × ((effect ring plan w e).is_open ≡ w.is_open) × ((effect ring plan w e).marked ≡ w.marked)
unfolding effect
same_steps ring plan w (Do n) h = absurd cc
same_steps ring plan w (OpenCopy n) h = absurd cc
same_steps ring plan w (ChunkCopy n c) h = absurd cc
same_steps ring plan w (CloseCopy n) h = absurd cc
same_steps ring plan w (AbortCopy n) h = absurd cc
same_steps ring plan w e h = (refl, refl, refl)

-- puts
pub same_puts : (ring : RingValue) (plan : List Planned) (w : World) (e : Event) → changes_puts e ≡ false → (effect ring plan w e).puts ≡ w.puts
unfolding effect
same_puts ring plan w (Do n) h = ap (λ (u : World). u.puts) (do_is plan w n)
same_puts ring plan w (StartPut writer key value seen) h = absurd cc
same_puts ring plan w (Write v i) h = absurd cc
same_puts ring plan w (Hint v i x) h = absurd cc
same_puts ring plan w (Ack v) h = absurd cc
same_puts ring plan w e h = refl

-- how many puts there are, but for one that starts
pub puts_many : (ring : RingValue) (plan : List Planned) (w : World) (e : Event) → length (effect ring plan w e).puts ≡ length w.puts + (if starts_put e then 1 else 0)
unfolding effect
puts_many ring plan w (StartPut writer key value seen) = length-append w.puts (_ ∷ [])
puts_many ring plan w (Write v i) = (let l = length_changed w.puts v (λ x. record x { ticket = with_value x.ticket i (generation plan w (put_slot ring w v i)) }) in omega arith)
puts_many ring plan w (Hint v i x) = (let l = length_changed w.puts v (λ y. record y { ticket = with_value y.ticket i (generation plan w (put_slot ring w v i)) }) in omega arith)
puts_many ring plan w (Ack v) = (let l = length_changed w.puts v (λ x. record x { acked = true }) in omega arith)
puts_many ring plan w e = (let l = ap (λ (xs : List PutRecord). length xs) (same_puts ring plan w e refl) in omega arith)

-- gets
pub same_gets : (ring : RingValue) (plan : List Planned) (w : World) (e : Event) → changes_gets e ≡ false → (effect ring plan w e).gets ≡ w.gets
unfolding effect
same_gets ring plan w (Do n) h = ap (λ (u : World). u.gets) (do_is plan w n)
same_gets ring plan w (StartGet key) h = absurd cc
same_gets ring plan w (Read g i) h = absurd cc
same_gets ring plan w (EndGet g) h = absurd cc
same_gets ring plan w e h = refl

-- how many gets there are, but for one that starts
pub gets_many : (ring : RingValue) (plan : List Planned) (w : World) (e : Event) → length (effect ring plan w e).gets ≡ length w.gets + (if starts_get e then 1 else 0)
unfolding effect
gets_many ring plan w (StartGet key) = length-append w.gets (_ ∷ [])
gets_many ring plan w (Read g i) = (let l = length_changed w.gets g (λ x. record x { found = with_value x.found i (finds ring plan w g i) }) in omega arith)
gets_many ring plan w (EndGet g) = (let l = length_changed w.gets g (λ x. record x { reply = Some (answers ring w g) }) in omega arith)
gets_many ring plan w e = (let l = ap (λ (xs : List GetRecord). length xs) (same_gets ring plan w e refl) in omega arith)

-- hints, but for one that the event leaves with a node: each other one that is kept was kept before
pub hinted_was : (ring : RingValue) (plan : List Planned) (w : World) (e : Event) (x : ℕ) (slot : Slot) (v : ℕ) → (effect ring plan w e).hinted x slot v ≡ true
    → (w.hinted x slot v ≡ true) ⊎ ((i : ℕ) × (y : NodeId) × (e ≡ Hint v i y) × (x ≡ y.0) × (slot ≡ put_slot ring w v i))
unfolding effect
hinted_was ring plan w (Do n) x slot v h = inl (ap (λ (u : World). u.hinted x slot v) (sym (do_is plan w n)) ∙ h)
hinted_was ring plan w (Hint u i y) x slot v h = elim (with_puts_is w.hinted y (put_slot ring w u i) (λ z. z == u) x slot v h) [
  | inl f ↦ (let same = sym (eqb-true v u f.2) in inr (i, y, ap (λ (z : ℕ). Hint z i y) same, f.0, f.1 ∙ ap (λ (z : ℕ). put_slot ring w z i) same))
  | inr f ↦ inl f
]
hinted_was ring plan w (Handoff y s) x slot v h = inl (without_puts_was w.hinted y s x slot v h)
hinted_was ring plan w (Lose y) x slot v h = inl (lose_hinted ring plan w y x slot v h)
hinted_was ring plan w e x slot v h = inl h

-- losses
pub same_losses : (ring : RingValue) (plan : List Planned) (w : World) (e : Event) → loses e ≡ false
    → ((effect ring plan w e).losses ≡ w.losses) × ((effect ring plan w e).lost ≡ w.lost)
unfolding effect
same_losses ring plan w (Do n) h = (ap (λ (u : World). u.losses) (do_is plan w n), ap (λ (u : World). u.lost) (do_is plan w n))
same_losses ring plan w (Lose x) h = absurd cc
same_losses ring plan w e h = (refl, refl)
