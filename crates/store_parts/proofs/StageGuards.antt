-- What an event needs is one over what is kept and over the world.
use Rattle.std.proofs.Common.{◌≡◌, ◌∙◌, ℕ, zero, suc, ◌+◌, ◌-◌, Bool, true, false, not, cond, List, [], ◌∷◌, ◌++◌, length, map, refl, ap, arith}
use Rattle.std.specs.Prelude.{◌||◌, ◌==◌, nat_lt, Some, None, slice_get}
use Rattle.std.specs.List.{list_all}
use Rattle.std.proofs.Math.Path.{fun_ext}
use Rattle.ring_names.specs.declared.ids.NodeId.{NodeId}
use Rattle.ring_names.specs.declared.refusal.Refusal.{Refusal}
use Rattle.ring_names.specs.declared.refusal.Refusal.TheVariants.{NotMember, AlreadyDone, UnknownNumber, NotOpen, ChunksLeft, LossesSpent}
use Rattle.ring_table.specs.Value.{RingValue}
use Rattle.plan_text.specs.declared.step.Step.TheVariants as step
use Rattle.plan_text.specs.declared.step.Planned.{Planned}
use Rattle.plan_stage.specs.Parties.{parties}
use Rattle.plan_stage.specs.Clauses.{Guard}
use Rattle.plan_runs.specs.declared.event.Event.TheVariants.{CloseCopy, AbortCopy, Down, Up, Lose}
use Rattle.plan_runs.specs.World.{World, passing_from, passing_below}
use Rattle.plan_runs.specs.Guards.{up_guard, is_ready, parties_up, chunks_left, guards}
use Rattle.store_parts.specs.declared.nodes.NodeNow.{NodeNow}
use Rattle.store_parts.specs.declared.steps.StepNow.{StepNow}
use Rattle.store_parts.specs.Nodes.{is_up_at}
use Rattle.store_parts.specs.Steps.{is_done_at, is_marked_at}
use Rattle.store_parts.specs.NodesMeet.{NodesMeet}
use Rattle.store_parts.specs.StepsMeet.{StepsMeet}
use Rattle.store_parts.specs.GuardsKept.{down_guards_kept, up_guards_kept, lose_guards_kept}
use Rattle.store_parts.specs.GuardsKept.{is_ready_kept, parties_up_kept, chunks_left_kept, close_copy_guards_kept, abort_copy_guards_kept}

-- ---- the parts as tests

up_is : (ring : RingValue) (plan : List Planned) (nodes : List NodeNow) (w : World) → NodesMeet ring plan nodes w → is_up_at nodes ≡ w.up
up_is ring plan nodes w m = fun_ext m.up

done_is : (plan : List Planned) (steps : List StepNow) (w : World) → StepsMeet plan steps w → is_done_at steps ≡ w.done
done_is plan steps w m = fun_ext m.done

-- two guards and what comes behind them
pub pair_is : (a b c d : Bool) (e f : Refusal) (gs hs : List Guard) → a ≡ c → b ≡ d → gs ≡ hs → ◌≡◌ {A = List Guard} ((a, e) ∷ (b, f) ∷ gs) ((c, e) ∷ (d, f) ∷ hs)
pair_is a b c d e f gs hs x y z =
    ap (λ (k : Bool). (k, e) ∷ (b, f) ∷ gs) x ∙ ap (λ (k : Bool). (c, e) ∷ (k, f) ∷ gs) y ∙ ap (λ (k : List Guard). (c, e) ∷ (d, f) ∷ k) z

-- ---- nodes

-- what taking a node down needs
pub down_kept : (ring : RingValue) (plan : List Planned) (nodes : List NodeNow) (w : World) (x : NodeId) → NodesMeet ring plan nodes w → down_guards_kept nodes x ≡ guards ring plan w (Down x)
unfolding guards
down_kept ring plan nodes w x m = pair_is _ _ _ _ (NotMember x.0) AlreadyDone [] [] (m.members x.0) (m.up x.0) refl

-- what taking it up needs
pub up_kept : (ring : RingValue) (plan : List Planned) (nodes : List NodeNow) (w : World) (x : NodeId) → NodesMeet ring plan nodes w → up_guards_kept nodes x ≡ guards ring plan w (Up x)
unfolding guards
up_kept ring plan nodes w x m = pair_is _ _ _ _ (NotMember x.0) AlreadyDone [] [] (m.members x.0) (ap not (m.up x.0)) refl

-- what the loss of its store needs
pub lose_kept : (ring : RingValue) (plan : List Planned) (nodes : List NodeNow) (w : World) (losses : ℕ) (x : NodeId) → NodesMeet ring plan nodes w → losses ≡ w.losses → lose_guards_kept ring nodes losses x ≡ guards ring plan w (Lose x)
unfolding guards
lose_kept ring plan nodes w losses x m e = pair_is _ _ _ _ (NotMember x.0) LossesSpent [] [] (m.members x.0) (ap (λ (k : ℕ). nat_lt k ring.loss) e) refl

-- ---- copies

more : (b : Bool) (k : ℕ) (xs ys : List ℕ) (n : ℕ) → length xs + length ys ≡ n → length (cond b (k ∷ xs) xs) + length (cond (not b) (k ∷ ys) ys) ≡ suc n
more true k xs ys n e = omega arith
more false k xs ys n e = omega arith

both : (k n : ℕ) (test : ℕ → Bool) → length (passing_from k n test) + length (passing_from k n (λ c. not (test c))) ≡ n
both k zero test = omega arith
both k (suc n) test = more (test k) k (passing_from (k + 1) n test) (passing_from (k + 1) n (λ c. not (test c))) n (both (k + 1) n test)

-- how many chunks are left
pub chunks_kept : (plan : List Planned) (steps : List StepNow) (w : World) (n : ℕ) → StepsMeet plan steps w → chunks_left_kept steps n ≡ chunks_left w n
chunks_kept plan steps w n m =
    let marked : is_marked_at steps n ≡ w.marked n = fun_ext (m.marked n) in
    ap (λ (f : ℕ → Bool). 16 - length (passing_below 16 f)) marked ∙ (let b = both 0 16 (w.marked n) in omega arith)

-- what closing a copy needs
pub close_kept : (ring : RingValue) (plan : List Planned) (steps : List StepNow) (w : World) (n : ℕ) → StepsMeet plan steps w → close_copy_guards_kept plan steps n ≡ guards ring plan w (CloseCopy n)
unfolding guards
close_kept ring plan steps w n m = pair_is _ _ _ _ UnknownNumber NotOpen _ _ refl (m.is_open n) (ap (λ (k : ℕ). (k == 0, ChunksLeft k) ∷ []) (chunks_kept plan steps w n m))

-- what aborting it needs
pub abort_kept : (ring : RingValue) (plan : List Planned) (steps : List StepNow) (w : World) (n : ℕ) → StepsMeet plan steps w → abort_copy_guards_kept plan steps n ≡ guards ring plan w (AbortCopy n)
unfolding guards
abort_kept ring plan steps w n m = pair_is _ _ _ _ UnknownNumber NotOpen [] [] refl (m.is_open n) refl

-- whether a step is ready
pub ready_kept : (plan : List Planned) (steps : List StepNow) (w : World) (n : ℕ) → StepsMeet plan steps w → is_ready_kept plan steps n ≡ is_ready plan w n
ready_kept plan steps w n m = ap (λ (f : ℕ → Bool). elim (slice_get plan n) [ Some x ↦ list_all f x.after | None ↦ false ]) (done_is plan steps w m)

-- whether the nodes of a copy are up
pub parties_kept : (ring : RingValue) (plan : List Planned) (nodes : List NodeNow) (w : World) (n : ℕ) → NodesMeet ring plan nodes w → parties_up_kept ring plan nodes n ≡ parties_up ring plan w n
parties_kept ring plan nodes w n m = ap (λ (f : ℕ → Bool). map (up_guard f) (parties ring plan n)) (up_is ring plan nodes w m)

-- ---- steps
