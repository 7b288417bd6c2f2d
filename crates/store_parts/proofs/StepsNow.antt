-- The steps that are kept go on to tell the steps of a world.
use Rattle.std.proofs.Common.{◌≡◌, inl, inr, ◌∙◌, ℕ, zero, suc, ◌<◌, Bool, true, false, not, List, length, replicate, refl, sym, ap, arith}
use Rattle.std.specs.Prelude.{◌==◌, ◌&&◌, ◌||◌, nat_lt, Option, Some, None, slice_get, is_some, option_and_then}
use Rattle.std.specs.Int.{bit_at}
use Rattle.std.proofs.lemmas.Bool.Decides.{eqb_tells}
use Rattle.std.proofs.lemmas.List.{length-replicate}
use Rattle.std.proofs.lemmas.Nat.Bits.{bit_at-zero}
use Rattle.std.proofs.lemmas.Option.{slice_get_within}
use Rattle.ring_table.specs.Value.{RingValue}
use Rattle.plan_text.specs.declared.step.Step.{Step}
use Rattle.plan_text.specs.declared.step.Planned.{Planned}
use Rattle.plan_text.specs.Steps.{copy_of}
use Rattle.plan_stage.specs.Each.{step_at}
use Rattle.plan_stage.specs.Clauses.{first_failing}
use Rattle.plan_runs.specs.declared.event.Event.{Event}
use Rattle.plan_runs.specs.declared.event.Event.TheVariants.{Do, OpenCopy, ChunkCopy, CloseCopy, AbortCopy}
use Rattle.plan_runs.specs.World.{World, opening_world}
use Rattle.plan_runs.specs.Guards.{has_copy, has_other, guards}
use Rattle.plan_runs.specs.Effects.{changed, with_number, without_number, with_mark as with_chunk, effect}
use Rattle.plan_runs.specs.Reached.{Reached}
use Rattle.plan_runs.proofs.Changed.{read_at, length_changed, part_changed}
use Rattle.plan_runs.proofs.Copying.{other_is_no_copy}
use Rattle.plan_runs.proofs.Frames.{step_is, done_is, same_steps}
use Rattle.plan_runs.proofs.Passed.{all_met}
use Rattle.store_parts.specs.declared.steps.StepNow.{StepNow}
use Rattle.store_parts.specs.Marks.{with_mark}
use Rattle.store_parts.specs.Steps.{step_at_start, is_marked, is_marked_at}
use Rattle.store_parts.specs.StepsMeet.{StepsMeet}
use Rattle.plan_runs.specs.Leaves.{leaves_steps}
use Rattle.store_parts.proofs.NodesRead.{read_within, read_with, read_without}

-- ---- the start

read_same : (read : StepNow → Bool) (n : ℕ) (x : StepNow) (k : ℕ) → read x ≡ false → read_at read false (replicate n x) k ≡ false
read_same read zero x k off = refl
read_same read (suc n) x zero off = off
read_same read (suc n) x (suc k) off = read_same read n x k off

none_marked : (c : ℕ) → is_marked step_at_start c ≡ false
none_marked c = by (nat_lt c 16)
  where
    by : (b : Bool) → (b && (bit_at 0 c == 1)) ≡ false
    by false = refl
    by true = rw (bit_at-zero c) refl

-- before the first step the steps that start tell the steps of the opening world
pub steps_start : (ring : RingValue) (plan : List Planned) (steps : List StepNow) → steps ≡ replicate (length plan) step_at_start → StepsMeet plan steps (opening_world ring)
steps_start ring plan steps is = rw is (record {
  each = length-replicate (length plan) step_at_start;
  done = λ n. read_same (λ (a : StepNow). a.done) (length plan) step_at_start n refl;
  is_open = λ n. read_same (λ (a : StepNow). a.is_open) (length plan) step_at_start n refl;
  marked = λ n c. read_same (λ (a : StepNow). is_marked a c) (length plan) step_at_start n (none_marked c);
})

-- ---- steps that change

steps_as_before : (plan : List Planned) (steps : List StepNow) (w u : World) → u.done ≡ w.done → u.is_open ≡ w.is_open → u.marked ≡ w.marked → StepsMeet plan steps w → StepsMeet plan steps u
steps_as_before plan steps w u done opened marked t = record {
  each = t.each;
  done = λ n. t.done n ∙ ap (λ (f : ℕ → Bool). f n) (sym done);
  is_open = λ n. t.is_open n ∙ ap (λ (f : ℕ → Bool). f n) (sym opened);
  marked = λ n c. t.marked n c ∙ ap (λ (f : ℕ → ℕ → Bool). f n c) (sym marked);
}

-- a number that does not pass may be taken away
without_off : (D : ℕ → Bool) (n m : ℕ) → D n ≡ false → without_number D n m ≡ D m
without_off D n m off = elim (eqb_tells m n) [
  | inl t ↦ rw (t.0, t.1) (sym off)
  | inr t ↦ rw (t.0) refl
]

-- a step that there is
pub step_within : (plan : List Planned) (n : ℕ) (s : Step) → step_at plan n ≡ Some s → n < length plan
step_within plan n s e = by (slice_get plan n) refl e
  where
    by : (o : Option Planned) → slice_get plan n ≡ o → ◌≡◌ {A = Option Step} (elim o [ Some x ↦ Some x.step | None ↦ None ]) (Some s) → n < length plan
    by None f h = absurd cc
    by (Some x) f h = slice_get_within plan n x f

-- a step that is not a copy
pub other_within : (plan : List Planned) (n : ℕ) → has_other plan n ≡ true → (s : Step) × (step_at plan n ≡ Some s)
other_within plan n h = by (step_at plan n) h
  where
    by : (o : Option Step) → (elim o [ Some s ↦ not (is_some (copy_of s)) | None ↦ false ]) ≡ true → (s : Step) × (o ≡ Some s)
    by None h = absurd cc
    by (Some s) h = (s, refl)

-- a copy
pub copy_within : (plan : List Planned) (n : ℕ) → has_copy plan n ≡ true → (s : Step) × (step_at plan n ≡ Some s)
copy_within plan n h = by (step_at plan n) h
  where
    by : (o : Option Step) → is_some (option_and_then copy_of o) ≡ true → (s : Step) × (o ≡ Some s)
    by None h = absurd cc
    by (Some s) h = (s, refl)

abbrev finished : StepNow → StepNow
finished a = record a { done = true; is_open = false }

-- a step is finished that is not open
finish : (plan : List Planned) (w : World) (n : ℕ) (old : List StepNow) → n < length plan → w.is_open n ≡ false → StepsMeet plan old w → StepsMeet plan (changed old n finished) (record w { done = with_number w.done n })
finish plan w n old l off t = record {
  each = length_changed old n finished ∙ t.each;
  done = λ m. read_with (λ (a : StepNow). a.done) old n finished (let e = t.each in omega arith) (λ a. refl) m ∙ ap (λ (b : Bool). (m == n) || b) (t.done m);
  is_open = λ m. read_without (λ (a : StepNow). a.is_open) old n finished (λ a. refl) m ∙ ap (λ (b : Bool). not (m == n) && b) (t.is_open m) ∙ without_off w.is_open n m off;
  marked = λ m c. part_changed (λ (a : StepNow). is_marked a c) false old n finished (λ a. refl) m ∙ t.marked m c;
}

-- a step that is not a copy is done
pub steps_do : (ring : RingValue) (plan : List Planned) (w : World) (n : ℕ) (old new : List StepNow) → Reached ring plan w → first_failing (guards ring plan w (Do n)) ≡ None → StepsMeet plan old w
    → new ≡ changed old n (λ a. record a { done = true; is_open = false }) → StepsMeet plan new (effect ring plan w (Do n))
unfolding guards effect
steps_do ring plan w n old new r g t is = by (w.is_open n) refl
  where
    other : has_other plan n ≡ true
    other = (all_met (guards ring plan w (Do n)) g).0

    s : (s : Step) × (step_at plan n ≡ Some s)
    s = other_within plan n other

    by : (b : Bool) → w.is_open n ≡ b → StepsMeet plan new (effect ring plan w (Do n))
    by true e = absurd (let a = r.copies.copies n e in let b = other_is_no_copy plan n other in cc)
    by false e =
        let k = step_is (record w { done = with_number w.done n }) s.0 in
        rw (is, done_is ring plan w n s.0 s.1) (
        steps_as_before plan (changed old n finished) (record w { done = with_number w.done n }) _ (ap (λ (u : World). u.done) k) (ap (λ (u : World). u.is_open) k) (ap (λ (u : World). u.marked) k)
        (finish plan w n old (step_within plan n s.0 s.1) e t))

-- a copy is finished
pub steps_close : (ring : RingValue) (plan : List Planned) (w : World) (n : ℕ) (old new : List StepNow) → first_failing (guards ring plan w (CloseCopy n)) ≡ None → StepsMeet plan old w
    → new ≡ changed old n (λ a. record a { done = true; is_open = false }) → StepsMeet plan new (effect ring plan w (CloseCopy n))
unfolding guards effect
steps_close ring plan w n old new g t is = rw is (record {
  each = length_changed old n finished ∙ t.each;
  done = λ m. read_with (λ (a : StepNow). a.done) old n finished here (λ a. refl) m ∙ ap (λ (b : Bool). (m == n) || b) (t.done m);
  is_open = λ m. read_without (λ (a : StepNow). a.is_open) old n finished (λ a. refl) m ∙ ap (λ (b : Bool). not (m == n) && b) (t.is_open m);
  marked = λ m c. part_changed (λ (a : StepNow). is_marked a c) false old n finished (λ a. refl) m ∙ t.marked m c;
})
  where
    here : n < length old
    here = read_within (λ (a : StepNow). a.is_open) old n (t.is_open n ∙ (all_met (guards ring plan w (CloseCopy n)) g).1.0)

-- a copy is opened
pub steps_open : (ring : RingValue) (plan : List Planned) (w : World) (n : ℕ) (old new : List StepNow) → first_failing (guards ring plan w (OpenCopy n)) ≡ None → StepsMeet plan old w
    → new ≡ changed old n (λ a. record a { is_open = true }) → StepsMeet plan new (effect ring plan w (OpenCopy n))
unfolding guards effect
steps_open ring plan w n old new g t is = rw is (record {
  each = length_changed old n _ ∙ t.each;
  done = λ m. part_changed (λ (a : StepNow). a.done) false old n (λ a. record a { is_open = true }) (λ a. refl) m ∙ t.done m;
  is_open = λ m. read_with (λ (a : StepNow). a.is_open) old n (λ a. record a { is_open = true }) here (λ a. refl) m ∙ ap (λ (b : Bool). (m == n) || b) (t.is_open m);
  marked = λ m c. part_changed (λ (a : StepNow). is_marked a c) false old n (λ a. record a { is_open = true }) (λ a. refl) m ∙ t.marked m c;
})
  where
    here : n < length old
    here =
        let c = copy_within plan n (all_met (guards ring plan w (OpenCopy n)) g).0 in
        let l = step_within plan n c.0 c.1 in
        let e = t.each in
        omega arith

-- a copy is aborted
pub steps_abort : (ring : RingValue) (plan : List Planned) (w : World) (n : ℕ) (old new : List StepNow) → StepsMeet plan old w
    → new ≡ changed old n (λ a. record a { is_open = false }) → StepsMeet plan new (effect ring plan w (AbortCopy n))
unfolding effect
steps_abort ring plan w n old new t is = rw is (record {
  each = length_changed old n _ ∙ t.each;
  done = λ m. part_changed (λ (a : StepNow). a.done) false old n (λ a. record a { is_open = false }) (λ a. refl) m ∙ t.done m;
  is_open = λ m. read_without (λ (a : StepNow). a.is_open) old n (λ a. record a { is_open = false }) (λ a. refl) m ∙ ap (λ (b : Bool). not (m == n) && b) (t.is_open m);
  marked = λ m c. part_changed (λ (a : StepNow). is_marked a c) false old n (λ a. record a { is_open = false }) (λ a. refl) m ∙ t.marked m c;
})

-- a chunk of a copy is marked
pub steps_mark : (ring : RingValue) (plan : List Planned) (w : World) (n c : ℕ) (old new : List StepNow) → first_failing (guards ring plan w (ChunkCopy n c)) ≡ None → StepsMeet plan old w
    → new ≡ changed old n (λ a. record a { marks = with_mark a.marks c }) → (n < length old → (m d : ℕ) → is_marked_at new m d ≡ with_chunk (is_marked_at old) n c m d)
    → StepsMeet plan new (effect ring plan w (ChunkCopy n c))
unfolding guards effect
steps_mark ring plan w n c old new g t is marks = record {
  each = rw is (length_changed old n _ ∙ t.each);
  done = λ m. rw is (part_changed (λ (a : StepNow). a.done) false old n (λ a. record a { marks = with_mark a.marks c }) (λ a. refl) m ∙ t.done m);
  is_open = λ m. rw is (part_changed (λ (a : StepNow). a.is_open) false old n (λ a. record a { marks = with_mark a.marks c }) (λ a. refl) m ∙ t.is_open m);
  marked = λ m d. marks here m d ∙ ap (λ (b : Bool). ((m == n) && (d == c)) || b) (t.marked m d);
}
  where
    here : n < length old
    here = read_within (λ (a : StepNow). a.is_open) old n (t.is_open n ∙ (all_met (guards ring plan w (ChunkCopy n c)) g).1.0)

-- ---- steps that stay

-- an event that leaves the steps as they are
pub steps_stay : (ring : RingValue) (plan : List Planned) (steps : List StepNow) (w : World) (e : Event) → leaves_steps e ≡ true → StepsMeet plan steps w → StepsMeet plan steps (effect ring plan w e)
steps_stay ring plan steps w e h t = (let k = same_steps ring plan w e h in steps_as_before plan steps w (effect ring plan w e) k.0 k.1 k.2 t)
