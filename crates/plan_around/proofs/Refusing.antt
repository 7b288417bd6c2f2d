-- Why a store refuses events of steps that are over.
use Rattle.std.proofs.Common.{◌≡◌, ℕ, Bool, true, false, List, [], ◌∷◌, map, Option, Some, None, Result, Ok, Err, refl, ap}
use Rattle.std.specs.Prelude.{not, ◌&&◌, ◌||◌, ◌==◌}
use Rattle.ring_names.specs.declared.ids.NodeId.{NodeId}
use Rattle.ring_names.specs.declared.refusal.Refusal.{Refusal}
use Rattle.ring_names.specs.declared.refusal.Refusal.TheVariants.{NotReady, AlreadyDone, NodeDown, UnknownNumber, HintsLeft, NotOpen, ChunksLeft}
use Rattle.ring_table.specs.Value.{RingValue}
use Rattle.plan_text.specs.declared.step.Step.{Step}
use Rattle.plan_text.specs.declared.step.Step.TheVariants.{Join, Mirror, Copy, Switch, Drop, Retire}
use Rattle.plan_text.specs.declared.step.Planned.{Planned}
use Rattle.plan_stage.specs.Each.{step_at}
use Rattle.plan_stage.specs.Parties.{parties}
use Rattle.plan_stage.specs.Clauses.{Guard, first_failing}
use Rattle.plan_runs.specs.declared.event.Event.TheVariants.{Do, OpenCopy, CloseCopy, AbortCopy}
use Rattle.plan_runs.specs.declared.event.Reply.{Reply}
use Rattle.plan_runs.specs.World.{World, keeps_any, keeps_other}
use Rattle.plan_runs.specs.Guards.{guards, up_guard, parties_up, step_guards, has_other, has_copy, is_ready, chunks_left}
use Rattle.plan_runs.specs.Answers.{answer}
use Rattle.plan_around.specs.Apart.{is_whole}

-- an event that is refused for a cause fails that guard first
first-of : (o : Option Refusal) (x : World × Reply) (e : Refusal) → ◌≡◌ {A = Result (World × Reply) Refusal} (elim o [ Some refusal ↦ Err refusal | None ↦ Ok x ]) (Err e) → o ≡ Some e
first-of (Some r) x e h = (let q : r ≡ e = cc in ap (λ (y : Refusal). Some y) q)
first-of None x e h = absurd cc

-- ---- guards that say something else

others : (b : Bool) (r : Refusal) (more : List Guard) → (r ≡ AlreadyDone → ⊥) → (first_failing more ≡ Some AlreadyDone → ⊥) → first_failing ((b, r) ∷ more) ≡ Some AlreadyDone → ⊥
others true r more differs rest h = rest h
others false r more differs rest h = differs (let q : r ≡ AlreadyDone = cc in q)

none : first_failing [] ≡ Some AlreadyDone → ⊥
none h = cc

nodes-up : (up : ℕ → Bool) (xs : List NodeId) → first_failing (map (up_guard up) xs) ≡ Some AlreadyDone → ⊥
nodes-up up [] h = none h
nodes-up up (x ∷ xs) h = others (up x.0) (NodeDown x.0) (map (up_guard up) xs) (λ e. cc) (nodes-up up xs) h

by-step : (ring : RingValue) (w : World) (s : Step) → first_failing (step_guards ring w s) ≡ Some AlreadyDone → ⊥
by-step ring w (Join x) h = none h
by-step ring w (Mirror s x) h = others (w.up x.0) (NodeDown x.0) ((not (keeps_other ring w x.0 s), HintsLeft) ∷ []) (λ e. cc) (others (not (keeps_other ring w x.0 s)) HintsLeft [] (λ e. cc) none) h
by-step ring w (Copy s from) h = none h
by-step ring w (Switch s) h = none h
by-step ring w (Drop s x) h = others (w.up x.0) (NodeDown x.0) [] (λ e. cc) none h
by-step ring w (Retire x) h = others (not (keeps_any ring w x.0)) HintsLeft [] (λ e. cc) none h

by-some : (ring : RingValue) (w : World) (o : Option Step) → first_failing (elim o [ Some s ↦ step_guards ring w s | None ↦ [] ]) ≡ Some AlreadyDone → ⊥
by-some ring w (Some s) h = by-step ring w s h
by-some ring w None h = none h

-- the second guard is the one that fails
second : (a b c : Bool) (more : List Guard) → (first_failing more ≡ Some AlreadyDone → ⊥) → first_failing ((a, UnknownNumber) ∷ (not b, AlreadyDone) ∷ (c, NotReady) ∷ more) ≡ Some AlreadyDone → b ≡ true
second a true c more other h = refl
second true false true more other h = absurd (other h)
second true false false more other h = absurd cc
second false false c more other h = absurd cc

-- the third guard is the one that fails, or none does
waiting : (a b c : Bool) (more : List Guard) → first_failing ((a, UnknownNumber) ∷ (not b, AlreadyDone) ∷ (c, NotReady) ∷ more) ≡ Some NotReady → b ≡ false
waiting true false c more h = refl
waiting true true c more h = absurd cc
waiting false b c more h = absurd cc

free : (a b c : Bool) (more : List Guard) → None ≡ first_failing ((a, UnknownNumber) ∷ (not b, AlreadyDone) ∷ (c, NotReady) ∷ more) → b ≡ false
free true false c more h = refl
free true true c more h = absurd cc
free false b c more h = absurd cc

shut : (a b : Bool) → first_failing ((a, UnknownNumber) ∷ (b, NotOpen) ∷ []) ≡ Some NotOpen → b ≡ false
shut true true h = absurd cc
shut true false h = refl
shut false b h = absurd cc

all-pass : (a b c : Bool) (k : ℕ) → None ≡ first_failing ((a, UnknownNumber) ∷ (b, NotOpen) ∷ (c, ChunksLeft k) ∷ []) → (b && c) ≡ true
all-pass true true true k h = refl
all-pass true true false k h = absurd cc
all-pass true false c k h = absurd cc
all-pass false b c k h = absurd cc

not-open : (a b : Bool) → (a || b) ≡ true → b ≡ false → a ≡ true
not-open true b h e = refl
not-open false true h e = absurd cc
not-open false false h e = absurd cc

-- ---- events

-- a step that is done already is done
pub told-done : (ring : RingValue) (plan : List Planned) (w : World) (n : ℕ) → answer ring plan w (Do n) ≡ Err AlreadyDone → w.done n ≡ true
unfolding guards
told-done ring plan w n h = second (has_other plan n) (w.done n) (is_ready plan w n) (elim (step_at plan n) [ Some s ↦ step_guards ring w s | None ↦ [] ]) (by-some ring w (step_at plan n))
    (first-of (first_failing (guards ring plan w (Do n))) _ AlreadyDone h)

-- a step that waits for another is to come, and so is one that may be done
pub told-waiting : (ring : RingValue) (plan : List Planned) (w : World) (n : ℕ) → answer ring plan w (Do n) ≡ Err NotReady → w.done n ≡ false
unfolding guards
told-waiting ring plan w n h =
    waiting (has_other plan n) (w.done n) (is_ready plan w n) (elim (step_at plan n) [ Some s ↦ step_guards ring w s | None ↦ [] ]) (first-of (first_failing (guards ring plan w (Do n))) _ NotReady h)

pub told-free : (ring : RingValue) (plan : List Planned) (w : World) (n : ℕ) → None ≡ first_failing (guards ring plan w (Do n)) → w.done n ≡ false
unfolding guards
told-free ring plan w n h = free (has_other plan n) (w.done n) (is_ready plan w n) (elim (step_at plan n) [ Some s ↦ step_guards ring w s | None ↦ [] ]) h

-- a copy that neither can be opened nor is open is done
pub told-copied : (ring : RingValue) (plan : List Planned) (w : World) (n : ℕ) → answer ring plan w (OpenCopy n) ≡ Err AlreadyDone → answer ring plan w (AbortCopy n) ≡ Err NotOpen → w.done n ≡ true
unfolding guards
told-copied ring plan w n h g = not-open (w.done n) (w.is_open n)
    (second (has_copy plan n) (w.done n || w.is_open n) (is_ready plan w n) (parties_up ring plan w n) (nodes-up w.up (parties ring plan n)) (first-of (first_failing (guards ring plan w (OpenCopy n))) _ AlreadyDone h))
    (shut (has_copy plan n) (w.is_open n) (first-of (first_failing (guards ring plan w (AbortCopy n))) _ NotOpen g))

-- a copy that can be closed is open, and all its chunks are marked
pub told-whole : (ring : RingValue) (plan : List Planned) (w : World) (n : ℕ) → None ≡ first_failing (guards ring plan w (CloseCopy n)) → is_whole w n ≡ true
unfolding guards
told-whole ring plan w n h = all-pass (has_copy plan n) (w.is_open n) (chunks_left w n == 0) (chunks_left w n) h

-- ---- one of three
