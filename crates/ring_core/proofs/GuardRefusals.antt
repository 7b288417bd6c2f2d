-- No guard's refusal is out of memory, or that a history is full.
use Rattle.std.proofs.Common.{◌≡◌, ℕ, Bool, true, false, not, cond, List, [], ◌∷◌, ◌++◌, length, map, refl, ap, subst}
use Rattle.std.specs.Prelude.{◌≢◌, ◌==◌, ◌&&◌, Option, Some, None}
use Rattle.std.specs.List.{list_all}
use Rattle.std.proofs.lemmas.Bool.{and_parts, and_from}
use Rattle.ring_names.specs.declared.ids.NodeId.{NodeId}
use Rattle.ring_names.specs.declared.ids.Slot.{Slot}
use Rattle.ring_names.specs.declared.refusal.Refusal.{Refusal}
use Rattle.ring_names.specs.declared.refusal.Refusal.TheVariants.{OutOfMemory, HistoryFull, NodeDown}
use Rattle.ring_names.specs.Refusals.{number_of}
use Rattle.ring_table.specs.Value.{RingValue}
use Rattle.plan_text.specs.declared.step.Source.{Source}
use Rattle.plan_text.specs.declared.step.Step.{Step}
use Rattle.plan_text.specs.declared.step.Step.TheVariants as step
use Rattle.plan_text.specs.declared.step.Planned.{Planned}
use Rattle.plan_stage.specs.Clauses.{Guard, first_failing}
use Rattle.plan_stage.specs.Each.{step_at}
use Rattle.plan_stage.specs.Parties.{parties}
use Rattle.plan_runs.specs.declared.event.Event.{Event}
use Rattle.plan_runs.specs.declared.event.Event.TheVariants.{Do, OpenCopy, ChunkCopy, Write, Read, Handoff}
use Rattle.plan_runs.specs.World.{World, copy_at, passing_below, stage_now, key_of_get}
use Rattle.plan_runs.specs.Versions.{put_slot, get_slot}
use Rattle.plan_runs.specs.Guards.{guards, step_guards, parties_up, keepers_up, mirror_up, nodes_up, keeps_source, keeps_of_key, up_guard}

-- the refusal is another one
is_other : Refusal → Bool
is_other e = not (number_of e == 60) && not (number_of e == 51)

-- each of these refusals is
spare : List Guard → Bool
spare gs = list_all (λ g. is_other g.1) gs

first_spared : (gs : List Guard) (e : Refusal) → spare gs ≡ true → first_failing gs ≡ Some e → is_other e ≡ true
unfolding spare
first_spared [] e h f = absurd cc
first_spared (g ∷ gs) e h f = by (and_parts (is_other g.1) (list_all (λ x. is_other x.1) gs) h).0 (first_spared gs e (and_parts (is_other g.1) (list_all (λ x. is_other x.1) gs) h).1) g.0 f
  where
    by : is_other g.1 ≡ true → (first_failing gs ≡ Some e → is_other e ≡ true) → (t : Bool) → cond t (first_failing gs) (Some g.1) ≡ Some e → is_other e ≡ true
    by mine others true k = others k
    by mine others false k = (let is : g.1 ≡ e = cc in subst (λ (x : Refusal). is_other x ≡ true) is mine)

both_spare : (gs hs : List Guard) → spare gs ≡ true → spare hs ≡ true → spare (gs ++ hs) ≡ true
unfolding spare
both_spare [] hs a b = b
both_spare (g ∷ gs) hs a b =
    let p = and_parts (is_other g.1) (list_all (λ x. is_other x.1) gs) a in
    and_from (is_other g.1) (list_all (λ x. is_other x.1) (gs ++ hs)) p.0 (both_spare gs hs p.1 b)

nodes_spare : (up : ℕ → Bool) (xs : List NodeId) → spare (map (up_guard up) xs) ≡ true
unfolding spare is_other
nodes_spare up [] = refl
nodes_spare up (x ∷ xs) = nodes_spare up xs

numbers_spare : (up : ℕ → Bool) (xs : List ℕ) → spare (map (λ x. (up x, NodeDown x)) xs) ≡ true
unfolding spare is_other
numbers_spare up [] = refl
numbers_spare up (x ∷ xs) = numbers_spare up xs

step_spare : (ring : RingValue) (w : World) (o : Option Step) → spare (elim o [ Some s ↦ step_guards ring w s | None ↦ [] ]) ≡ true
unfolding spare is_other
step_spare ring w None = refl
step_spare ring w (Some (step.Mirror s x)) = refl
step_spare ring w (Some s) = refl

mirror_spare : (up : ℕ → Bool) (o : Option NodeId) → spare (mirror_up up o) ≡ true
unfolding spare is_other
mirror_spare up None = refl
mirror_spare up (Some x) = refl

keepers_spare : (ring : RingValue) (plan : List Planned) (w : World) (n c : ℕ) → spare (keepers_up ring plan w n c) ≡ true
unfolding spare is_other
keepers_spare ring plan w n c = by (copy_at plan n)
  where
    by : (o : Option (Slot × Source)) → spare (elim o [ Some k ↦ nodes_up w.up (length ring.nodes) (keeps_source ring w k.0 k.1 c) | None ↦ [] ]) ≡ true
    by None = refl
    by (Some k) = numbers_spare w.up (passing_below (length ring.nodes) (keeps_source ring w k.0 k.1 c))

all_spare : (ring : RingValue) (plan : List Planned) (w : World) (e : Event) → spare (guards ring plan w e) ≡ true
unfolding guards spare is_other
all_spare ring plan w (Do n) = step_spare ring w (step_at plan n)
all_spare ring plan w (OpenCopy n) = nodes_spare w.up (parties ring plan n)
all_spare ring plan w (ChunkCopy n c) = both_spare (parties_up ring plan w n) (keepers_up ring plan w n c) (nodes_spare w.up (parties ring plan n)) (keepers_spare ring plan w n c)
all_spare ring plan w (Write v i) = mirror_spare w.up (stage_now ring plan w (put_slot ring w v i)).mirror
all_spare ring plan w (Read g i) = numbers_spare w.up (passing_below (length ring.nodes) (keeps_of_key w (key_of_get w g) (get_slot ring w g i)))
all_spare ring plan w (Handoff x s) = mirror_spare w.up (stage_now ring plan w s).mirror
all_spare ring plan w e = refl

-- a refusal by a guard is not out of memory
pub never_memory : (ring : RingValue) (plan : List Planned) (w : World) (e : Event) (refusal : Refusal) → first_failing (guards ring plan w e) ≡ Some refusal → refusal ≢ OutOfMemory
unfolding is_other
never_memory ring plan w e refusal h is = absurd (let o = first_spared (guards ring plan w e) refusal (all_spare ring plan w e) h in let f = ap is_other is in cc)

-- nor is the history full for it
pub never_full : (ring : RingValue) (plan : List Planned) (w : World) (e : Event) (refusal : Refusal) → first_failing (guards ring plan w e) ≡ Some refusal → refusal ≢ HistoryFull
unfolding is_other
never_full ring plan w e refusal h is = absurd (let o = first_spared (guards ring plan w e) refusal (all_spare ring plan w e) h in let f = ap is_other is in cc)
