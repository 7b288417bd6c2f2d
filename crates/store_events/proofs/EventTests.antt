-- The tests of events, over what a store keeps.
use Rattle.std.proofs.Common.{◌≡◌, ◌∙◌, ℕ, Bool, true, false, not, List, [], ◌∷◌, length, ◌≤◌, ap, refl, sym, arith}
use Rattle.std.specs.Prelude.{◌≢◌, ◌↔◌, ◌||◌, Option, Some, None, option_map, slice_get, if◌then◌else◌}
use Rattle.std.specs.List.{list_all}
use Rattle.ring_names.specs.declared.ids.NodeId.{NodeId}
use Rattle.ring_names.specs.declared.ids.Slot.{Slot}
use Rattle.ring_names.specs.declared.refusal.Refusal.{Refusal}
use Rattle.ring_names.specs.declared.refusal.Refusal.TheVariants.{UnknownNumber, AlreadyDone, NotReady, NodeDown, HintsLeft}
use Rattle.plan_text.specs.declared.step.Step.{Step}
use Rattle.plan_text.specs.declared.step.Step.TheVariants as step
use Rattle.plan_text.specs.declared.step.Planned.{Planned}
use Rattle.plan_stage.specs.Each.{step_at}
use Rattle.plan_stage.specs.Clauses.{first_failing, Guard}
use Rattle.plan_runs.specs.declared.event.Event.TheVariants.{Do, OpenCopy, CloseCopy, AbortCopy, Down, Up, Lose}
use Rattle.plan_runs.specs.World.{World, passing_below, keeps_other, keeps_any}
use Rattle.plan_runs.specs.Guards.{has_copy, has_other, is_ready, parties_up, step_guards, guards}
use Rattle.ring_hints.specs.Hints.{hinted_at}
use Rattle.store_parts.specs.Nodes.{is_up_at}
use Rattle.store_parts.specs.declared.steps.StepNow.{StepNow}
use Rattle.store_parts.specs.Steps.{is_done_at, is_open_at, is_marked_at}
use Rattle.store_parts.proofs.Counting.{count_most}
use Rattle.store_parts.specs.GuardsKept.{down_guards_kept, up_guards_kept, lose_guards_kept, close_copy_guards_kept, abort_copy_guards_kept, is_ready_kept}
use Rattle.store_parts.proofs.NodesNow.{nodes_meet}
use Rattle.store_parts.proofs.StageGuards.{down_kept, up_kept, lose_kept, close_kept, abort_kept, ready_kept}
use Rattle.store_parts.specs.declared.parts.Parts.{Parts}
use Rattle.store_maps.specs.declared.key_id.KeyId.{KeyId}
use Rattle.store_parts.specs.Numbers.{by_bytes}
use Rattle.store_parts.proofs.Numbers.{none}
use Rattle.store_parts.specs.Parts.{Meets, IsSized, Tests, ring_of, plan_of, kept_of}
use Rattle.store_parts.proofs.WhoKeepsHints.{both_tell, other_tells, any_tells}

-- ---- nodes

pub down_tested : (a : Parts) (x : NodeId) (o : Option Refusal) → o ≡ first_failing (down_guards_kept a.nodes x) → Tests a (Down x) o
down_tested a x o e w m = e ∙ ap first_failing (down_kept (ring_of a) (plan_of a) a.nodes w x (nodes_meet (ring_of a) (plan_of a) a.nodes w m.nodes))

pub up_tested : (a : Parts) (x : NodeId) (o : Option Refusal) → o ≡ first_failing (up_guards_kept a.nodes x) → Tests a (Up x) o
up_tested a x o e w m = e ∙ ap first_failing (up_kept (ring_of a) (plan_of a) a.nodes w x (nodes_meet (ring_of a) (plan_of a) a.nodes w m.nodes))

pub lose_tested : (a : Parts) (x : NodeId) (o : Option Refusal) → o ≡ first_failing (lose_guards_kept (ring_of a) a.nodes a.losses x) → Tests a (Lose x) o
lose_tested a x o e w m = e ∙ ap first_failing (lose_kept (ring_of a) (plan_of a) a.nodes w a.losses x (nodes_meet (ring_of a) (plan_of a) a.nodes w m.nodes) m.losses)

-- ---- copies

pub close_tested : (a : Parts) (n : ℕ) (o : Option Refusal) → o ≡ first_failing (close_copy_guards_kept (plan_of a) a.steps n) → Tests a (CloseCopy n) o
close_tested a n o e w m = e ∙ ap first_failing (close_kept (ring_of a) (plan_of a) a.steps w n m.steps)

-- if one of two guards fails, a third one changes nothing
pub third_later : (x y : Bool) (p q r : Refusal) (c : Guard) → first_failing ((x, p) ∷ (y, q) ∷ []) ≡ Some r → first_failing ((x, p) ∷ (y, q) ∷ c ∷ []) ≡ Some r
third_later false y p q r c e = e
third_later true false p q r c e = e
third_later true true p q r c e = absurd cc

-- where none does, it decides
pub third_decides : (x y : Bool) (p q : Refusal) (c : Guard) → first_failing ((x, p) ∷ (y, q) ∷ []) ≡ None → first_failing ((x, p) ∷ (y, q) ∷ c ∷ []) ≡ first_failing (c ∷ [])
third_decides false y p q c e = absurd cc
third_decides true false p q c e = absurd cc
third_decides true true p q c e = refl

-- how many of the chunks are marked
pub marked_most : (steps : List StepNow) (n marked : ℕ) → marked ≡ length (passing_below 16 (is_marked_at steps n)) → marked ≤ 16
marked_most steps n marked e = (let l = count_most 16 (is_marked_at steps n) in omega arith)

pub abort_tested : (a : Parts) (n : ℕ) (o : Option Refusal) → o ≡ first_failing (abort_copy_guards_kept (plan_of a) a.steps n) → Tests a (AbortCopy n) o
abort_tested a n o e w m = e ∙ ap first_failing (abort_kept (ring_of a) (plan_of a) a.steps w n m.steps)

-- ---- steps and copies that are ready

-- a step is ready where those for which it waits are finished
pub ready_is : (plan : List Planned) (steps : List StepNow) (n : ℕ) (after : List ℕ) → option_map (λ (x : Planned). x.after) (slice_get plan n) ≡ Some after → list_all (is_done_at steps) after ≡ is_ready_kept plan steps n
ready_is plan steps n after e = by (slice_get plan n) e
  where
    by : (o : Option Planned) → option_map (λ (x : Planned). x.after) o ≡ Some after → list_all (is_done_at steps) after ≡ (elim o [ Some x ↦ list_all (is_done_at steps) x.after | None ↦ false ])
    by (Some x) f = (let g : after ≡ x.after = cc in ap (list_all (is_done_at steps)) g)
    by None f = absurd cc

-- what is refused where three tests stand in front of others: whether it is such a step, is finished or open, and is ready
abbrev pub behind : Bool → Bool → Bool → Option Refusal → Option Refusal
behind is_such is_done is_ready rest = if is_such then (if is_done then Some AlreadyDone else (if is_ready then rest else Some NotReady)) else Some UnknownNumber

behind_is : (a b c : Bool) (gs : List Guard) → behind a b c (first_failing gs) ≡ first_failing ((a, UnknownNumber) ∷ (not b, AlreadyDone) ∷ (c, NotReady) ∷ gs)
behind_is true true c gs = refl
behind_is true false c gs = refl
behind_is false b c gs = refl

behind_same : (a b c e f : Bool) (rest : Option Refusal) → b ≡ e → c ≡ f → behind a b c rest ≡ behind a e f rest
behind_same a b c e f rest g h = ap (λ (z : Bool). behind a z c rest) g ∙ ap (λ (z : Bool). behind a e z rest) h

pub open_tested : (a : Parts) (n : ℕ) (o : Option Refusal)
    → ((w : World) → Meets a w → o ≡ behind (has_copy (plan_of a) n) (is_done_at a.steps n || is_open_at a.steps n) (is_ready_kept (plan_of a) a.steps n) (first_failing (parties_up (ring_of a) (plan_of a) w n))) → Tests a (OpenCopy n) o
unfolding guards
open_tested a n o e w m =
    let done : (is_done_at a.steps n || is_open_at a.steps n) ≡ (w.done n || w.is_open n)
    = ap (λ (z : Bool). z || is_open_at a.steps n) (m.steps.done n) ∙ ap (λ (z : Bool). w.done n || z) (m.steps.is_open n) in
    e w m
    ∙ behind_same (has_copy (plan_of a) n) _ _ (w.done n || w.is_open n) (is_ready (plan_of a) w n) (first_failing (parties_up (ring_of a) (plan_of a) w n)) done (ready_kept (plan_of a) a.steps w n m.steps)
    ∙ behind_is (has_copy (plan_of a) n) (w.done n || w.is_open n) (is_ready (plan_of a) w n) (parties_up (ring_of a) (plan_of a) w n)

-- what a step that there is needs by its kind
abbrev pub kind_guards : Parts → World → ℕ → List Guard
kind_guards a w n = elim (step_at (plan_of a) n) [ Some s ↦ step_guards (ring_of a) w s | None ↦ [] ]

pub do_tested : (a : Parts) (n : ℕ) (o : Option Refusal)
    → ((w : World) → Meets a w → o ≡ behind (has_other (plan_of a) n) (is_done_at a.steps n) (is_ready_kept (plan_of a) a.steps n) (first_failing (kind_guards a w n))) → Tests a (Do n) o
unfolding guards
do_tested a n o e w m =
    e w m
    ∙ behind_same (has_other (plan_of a) n) _ _ (w.done n) (is_ready (plan_of a) w n) (first_failing (kind_guards a w n)) (m.steps.done n) (ready_kept (plan_of a) a.steps w n m.steps)
    ∙ behind_is (has_other (plan_of a) n) (w.done n) (is_ready (plan_of a) w n) (kind_guards a w n)

-- ---- hints that must be handed off first

-- whether the node keeps a hint for another slot of the partition
pub other_kept : (a : Parts) (x : ℕ) (s : Slot) (b : Bool) → IsSized a → (b ≡ false) ↔ ((t : Slot) → t.partition ≡ s.partition → t.index ≢ s.index → (key : KeyId) → hinted_at a.hints x t key ≡ [])
    → (w : World) → Meets a w → b ≡ keeps_other (ring_of a) w x s
other_kept a x s b sized tells w m = both_tell b (keeps_other (ring_of a) w x s)
    (λ e t p i. (none_at t).0 (tells.0 e t p i), λ h. tells.1 (λ t p i. (none_at t).1 (h t p i)))
    (other_tells (ring_of a) (plan_of a) (kept_of a) w m x s)
  where
    none_at : (t : Slot) → ((k : KeyId) → hinted_at a.hints x t k ≡ []) ↔ ((key : List ℕ) → by_bytes a.keys (hinted_at a.hints x t) key ≡ [])
    none_at t = none a.keys (hinted_at a.hints x t) sized.numbered (sized.hinted x t)

-- whether it keeps any
pub any_kept : (a : Parts) (x : ℕ) (b : Bool) → IsSized a → (b ≡ false) ↔ ((t : Slot) (key : KeyId) → hinted_at a.hints x t key ≡ [])
    → (w : World) → Meets a w → b ≡ keeps_any (ring_of a) w x
any_kept a x b sized tells w m = both_tell b (keeps_any (ring_of a) w x)
    (λ e t. (none_at t).0 (tells.0 e t), λ h. tells.1 (λ t. (none_at t).1 (h t)))
    (any_tells (ring_of a) (plan_of a) (kept_of a) w m x)
  where
    none_at : (t : Slot) → ((k : KeyId) → hinted_at a.hints x t k ≡ []) ↔ ((key : List ℕ) → by_bytes a.keys (hinted_at a.hints x t) key ≡ [])
    none_at t = none a.keys (hinted_at a.hints x t) sized.numbered (sized.hinted x t)

-- ---- by kind

-- what a step needs by its kind, where the tests of nodes and hints are given
abbrev pub needs : Bool → Bool → NodeId → Option Refusal
needs is_up keeps x = if is_up then (if keeps then Some HintsLeft else None) else Some (NodeDown x.0)

pub mirror_tested : (a : Parts) (t : Step) (s : Slot) (x : NodeId) (keeps : Bool) (o : Option Refusal) → IsSized a → t ≡ step.Mirror s x
    → (keeps ≡ false) ↔ ((u : Slot) → u.partition ≡ s.partition → u.index ≢ s.index → (key : KeyId) → hinted_at a.hints x.0 u key ≡ []) → o ≡ needs (is_up_at a.nodes x.0) keeps x
    → (w : World) → Meets a w → o ≡ first_failing (step_guards (ring_of a) w t)
mirror_tested a t s x keeps o sized is tells e w m = e ∙ by (is_up_at a.nodes x.0) (w.up x.0) keeps (keeps_other (ring_of a) w x.0 s) (m.nodes.up x.0) (other_kept a x.0 s keeps sized tells w m) ∙ ap (λ (u : Step). first_failing (step_guards (ring_of a) w u)) (sym is)
  where
    by : (c d e f : Bool) → c ≡ d → e ≡ f → needs c e x ≡ first_failing ((d, NodeDown x.0) ∷ (not f, HintsLeft) ∷ [])
    by c true e true g h = rw (g, h) refl
    by c true e false g h = rw (g, h) refl
    by c false e f g h = rw g refl

pub retire_tested : (a : Parts) (t : Step) (x : NodeId) (keeps : Bool) (o : Option Refusal) → IsSized a → t ≡ step.Retire x
    → (keeps ≡ false) ↔ ((u : Slot) (key : KeyId) → hinted_at a.hints x.0 u key ≡ []) → o ≡ needs true keeps x
    → (w : World) → Meets a w → o ≡ first_failing (step_guards (ring_of a) w t)
retire_tested a t x keeps o sized is tells e w m = e ∙ by keeps (keeps_any (ring_of a) w x.0) (any_kept a x.0 keeps sized tells w m) ∙ ap (λ (u : Step). first_failing (step_guards (ring_of a) w u)) (sym is)
  where
    by : (e f : Bool) → e ≡ f → needs true e x ≡ first_failing ((not f, HintsLeft) ∷ [])
    by e true h = rw h refl
    by e false h = rw h refl

-- ---- test by test

module _ (a : Parts) (n : ℕ) where
  -- by the test whether it is such a step
  open_first : (w : World) (b : Bool) → has_copy (plan_of a) n ≡ b
      → behind b (is_done_at a.steps n || is_open_at a.steps n) (is_ready_kept (plan_of a) a.steps n) (first_failing (parties_up (ring_of a) (plan_of a) w n))
      ≡ behind (has_copy (plan_of a) n) (is_done_at a.steps n || is_open_at a.steps n) (is_ready_kept (plan_of a) a.steps n) (first_failing (parties_up (ring_of a) (plan_of a) w n))
  open_first w b e = sym (ap (λ (z : Bool). behind z (is_done_at a.steps n || is_open_at a.steps n) (is_ready_kept (plan_of a) a.steps n) (first_failing (parties_up (ring_of a) (plan_of a) w n))) e)

  pub open_unknown : has_copy (plan_of a) n ≡ false → Tests a (OpenCopy n) (Some UnknownNumber)
  open_unknown e = open_tested a n (Some UnknownNumber) (λ w m. open_first w false e)

  -- by the tests behind it
  open_then : (w : World) (b c : Bool) → has_copy (plan_of a) n ≡ true → (is_done_at a.steps n || is_open_at a.steps n) ≡ b → is_ready_kept (plan_of a) a.steps n ≡ c
      → behind true b c (first_failing (parties_up (ring_of a) (plan_of a) w n))
      ≡ behind (has_copy (plan_of a) n) (is_done_at a.steps n || is_open_at a.steps n) (is_ready_kept (plan_of a) a.steps n) (first_failing (parties_up (ring_of a) (plan_of a) w n))
  open_then w b c e f g = sym (behind_same true _ _ b c (first_failing (parties_up (ring_of a) (plan_of a) w n)) f g) ∙ open_first w true e

  pub open_done : has_copy (plan_of a) n ≡ true → (is_done_at a.steps n || is_open_at a.steps n) ≡ true → Tests a (OpenCopy n) (Some AlreadyDone)
  open_done e f = open_tested a n (Some AlreadyDone) (λ w m. open_then w true _ e f refl)

  pub open_unready : has_copy (plan_of a) n ≡ true → (is_done_at a.steps n || is_open_at a.steps n) ≡ false → is_ready_kept (plan_of a) a.steps n ≡ false → Tests a (OpenCopy n) (Some NotReady)
  open_unready e f g = open_tested a n (Some NotReady) (λ w m. open_then w false false e f g)

  pub open_ready : (o : Option Refusal) → has_copy (plan_of a) n ≡ true → (is_done_at a.steps n || is_open_at a.steps n) ≡ false → is_ready_kept (plan_of a) a.steps n ≡ true
      → ((w : World) → Meets a w → o ≡ first_failing (parties_up (ring_of a) (plan_of a) w n)) → Tests a (OpenCopy n) o
  open_ready o e f g rest = open_tested a n o (λ w m. rest w m ∙ open_then w false true e f g)

  do_first : (w : World) (b : Bool) → has_other (plan_of a) n ≡ b
      → behind b (is_done_at a.steps n) (is_ready_kept (plan_of a) a.steps n) (first_failing (kind_guards a w n))
      ≡ behind (has_other (plan_of a) n) (is_done_at a.steps n) (is_ready_kept (plan_of a) a.steps n) (first_failing (kind_guards a w n))
  do_first w b e = sym (ap (λ (z : Bool). behind z (is_done_at a.steps n) (is_ready_kept (plan_of a) a.steps n) (first_failing (kind_guards a w n))) e)

  pub do_unknown : has_other (plan_of a) n ≡ false → Tests a (Do n) (Some UnknownNumber)
  do_unknown e = do_tested a n (Some UnknownNumber) (λ w m. do_first w false e)

  do_then : (w : World) (b c : Bool) → has_other (plan_of a) n ≡ true → is_done_at a.steps n ≡ b → is_ready_kept (plan_of a) a.steps n ≡ c
      → behind true b c (first_failing (kind_guards a w n)) ≡ behind (has_other (plan_of a) n) (is_done_at a.steps n) (is_ready_kept (plan_of a) a.steps n) (first_failing (kind_guards a w n))
  do_then w b c e f g = sym (behind_same true _ _ b c (first_failing (kind_guards a w n)) f g) ∙ do_first w true e

  pub do_done : has_other (plan_of a) n ≡ true → is_done_at a.steps n ≡ true → Tests a (Do n) (Some AlreadyDone)
  do_done e f = do_tested a n (Some AlreadyDone) (λ w m. do_then w true _ e f refl)

  pub do_unready : has_other (plan_of a) n ≡ true → is_done_at a.steps n ≡ false → is_ready_kept (plan_of a) a.steps n ≡ false → Tests a (Do n) (Some NotReady)
  do_unready e f g = do_tested a n (Some NotReady) (λ w m. do_then w false false e f g)

  pub do_ready : (o : Option Refusal) (s : Step) → has_other (plan_of a) n ≡ true → is_done_at a.steps n ≡ false → is_ready_kept (plan_of a) a.steps n ≡ true → step_at (plan_of a) n ≡ Some s
      → ((w : World) → Meets a w → o ≡ first_failing (step_guards (ring_of a) w s)) → Tests a (Do n) o
  do_ready o s e f g at rest = do_tested a n o (λ w m.
      rest w m ∙ ap (λ (z : Option Step). first_failing (elim z [ Some t ↦ step_guards (ring_of a) w t | None ↦ [] ])) (sym at) ∙ do_then w false true e f g)
