-- What copying a chunk needs, of what is kept.
use Rattle.std.proofs.Common.{◌≡◌, ◌∙◌, ℕ, ◌<◌, Bool, true, false, not, cond, List, [], ◌∷◌, ◌++◌, length, refl, sym, ap, subst}
use Rattle.std.specs.Prelude.{◌&&◌, nat_lt, Option, Some, None, option_map, option_and_then}
use Rattle.std.proofs.Math.Path.{fun_ext}
use Rattle.std.proofs.lemmas.Bool.{and_parts}
use Rattle.ring_names.specs.declared.ids.NodeId.{NodeId}
use Rattle.ring_names.specs.declared.ids.Slot.{Slot}
use Rattle.ring_names.specs.declared.refusal.Refusal.{Refusal}
use Rattle.ring_names.specs.declared.refusal.Refusal.TheVariants.{NodeDown, UnknownNumber, NotOpen, AlreadyDone}
use Rattle.plan_text.specs.declared.step.Source.{Source}
use Rattle.plan_text.specs.declared.step.Source.TheVariants.{Owner, Slots}
use Rattle.plan_text.specs.declared.step.Step.TheVariants.{Copy}
use Rattle.plan_text.specs.Steps.{copy_of}
use Rattle.plan_stage.specs.Clauses.{Guard, first_failing}
use Rattle.plan_stage.specs.Each.{step_at}
use Rattle.plan_runs.specs.declared.event.Event.TheVariants.{ChunkCopy}
use Rattle.plan_runs.specs.Guards.{guards, has_copy, nodes_up, keeps_source, parties_up, keepers_up}
use Rattle.plan_runs.specs.Reached.{Ready}
use Rattle.plan_runs.specs.Versions.{is_in_chunk}
use Rattle.plan_runs.specs.World.{World, some_below, slot_at}
use Rattle.plan_runs.proofs.Passing.{some_found}
use Rattle.store_parts.specs.Nodes.{is_up_at}
use Rattle.store_parts.specs.Steps.{is_open_at, is_marked_at}
use Rattle.store_parts.proofs.NodesNow.{nodes_meet}
use Rattle.store_parts.specs.Parts.{ring_of, plan_of, kept_of, Meets, Tests}
use Rattle.store_parts.specs.declared.parts.Parts.{Parts}
use Rattle.store_parts.proofs.KeepersDeclared.{keeper_within}
use Rattle.store_parts.proofs.StoreInWorld.{reached_of}
use Rattle.store_parts.specs.LeastDown.{IsLeastDown}
use Rattle.store_events.proofs.ChunkCopies.{some_slot}
use Rattle.store_parts.proofs.LeastDown.{keepers_refused}

-- ---- guards one after the other

fails_first : (ps ks : List Guard) (r : Refusal) → first_failing ps ≡ Some r → first_failing (ps ++ ks) ≡ Some r
fails_first [] ks r e = absurd cc
fails_first ((true, x) ∷ ps) ks r e = fails_first ps ks r e
fails_first ((false, x) ∷ ps) ks r e = e

passes_first : (ps ks : List Guard) → first_failing ps ≡ None → first_failing (ps ++ ks) ≡ first_failing ks
passes_first [] ks e = refl
passes_first ((true, x) ∷ ps) ks e = passes_first ps ks e
passes_first ((false, x) ∷ ps) ks e = absurd cc

-- ---- the keepers

module _ (a : Parts) (n c : ℕ) (slot : Slot) (source : Source) (at : step_at (plan_of a) n ≡ Some (Copy slot source)) (w : World) (m : Meets a w) where
  -- a keeper is a declared node
  source_within : (from : Source) (x : ℕ) → keeps_source (ring_of a) w slot from c x ≡ true → x < length (ring_of a).nodes
  source_within Owner x h = absurd cc
  source_within (Slots from) x h =
      let s = some_slot (λ s. some_below (length w.puts) (λ v. is_in_chunk (ring_of a) w slot c v && w.hinted x s v)) slot.partition from h in
      let v = some_found (length w.puts) (λ v. is_in_chunk (ring_of a) w slot c v && w.hinted x (slot_at slot.partition s.0) v) s.1 in
      keeper_within (ring_of a) (plan_of a) (kept_of a) w m x (slot_at slot.partition s.0) v.0 (and_parts (is_in_chunk (ring_of a) w slot c v.0) (w.hinted x (slot_at slot.partition s.0) v.0) v.2).1

  pub keepers_tested : (o : Option NodeId) → IsLeastDown (is_up_at a.nodes) (keeps_source (ring_of a) w slot source c) o
      → option_map (λ (y : NodeId). NodeDown y.0) o ≡ first_failing (keepers_up (ring_of a) (plan_of a) w n c)
  keepers_tested o h =
      let up : is_up_at a.nodes ≡ w.up = fun_ext (nodes_meet (ring_of a) (plan_of a) a.nodes w m.nodes).up in
      sym (keepers_refused w.up (length (ring_of a).nodes) (keeps_source (ring_of a) w slot source c) o (source_within source)
      (subst (λ (f : ℕ → Bool). IsLeastDown f (keeps_source (ring_of a) w slot source c) o) up h))
      ∙ ap (λ (t : Option (Slot × Source)). first_failing (elim t as (λ _. List Guard) [ Some k ↦ nodes_up w.up (length (ring_of a).nodes) (keeps_source (ring_of a) w k.0 k.1 c) | None ↦ [] ]))
      (sym (ap (option_and_then copy_of) at))

-- ---- all that it needs

-- what is refused where three tests stand in front of others
abbrev pub behind_three : Bool → Bool → Bool → Option Refusal → Option Refusal
behind_three named is_open marked o = cond named (cond is_open (cond (not marked) o (Some AlreadyDone)) (Some NotOpen)) (Some UnknownNumber)

module _ (a : Parts) (n c : ℕ) where
  chunk_tests : (w : World) → Meets a w → (o : Option Refusal)
      → o ≡ behind_three (has_copy (plan_of a) n && nat_lt c 16) (w.is_open n) (w.marked n c) (first_failing (parties_up (ring_of a) (plan_of a) w n ++ keepers_up (ring_of a) (plan_of a) w n c))
      → o ≡ first_failing (guards (ring_of a) (plan_of a) w (ChunkCopy n c))
  unfolding guards
  chunk_tests w m o e = e

  pub chunk_unknown : (has_copy (plan_of a) n && nat_lt c 16) ≡ false → Tests a (ChunkCopy n c) (Some UnknownNumber)
  chunk_unknown e w m = chunk_tests w m (Some UnknownNumber) (rw e refl)

  module _ (named : (has_copy (plan_of a) n && nat_lt c 16) ≡ true) where
    pub chunk_not_open : is_open_at a.steps n ≡ false → Tests a (ChunkCopy n c) (Some NotOpen)
    chunk_not_open f w m = chunk_tests w m (Some NotOpen) (let g : w.is_open n ≡ false = sym (m.steps.is_open n) ∙ f in rw (named, g) refl)

    module _ (opened : is_open_at a.steps n ≡ true) where
      -- so its nodes are to be asked for
      pub chunk_ready : (w : World) → Meets a w → (has_copy (plan_of a) n ≡ true) × Ready (plan_of a) w.done n × (w.done n ≡ false)
      chunk_ready w m =
          let copies = (reached_of (ring_of a) (plan_of a) (kept_of a) w m).copies in
          let is_open = sym (m.steps.is_open n) ∙ opened in
          (copies.copies n is_open, copies.ready n is_open, copies.unfinished n is_open)

      pub chunk_done : is_marked_at a.steps n c ≡ true → Tests a (ChunkCopy n c) (Some AlreadyDone)
      chunk_done f w m = chunk_tests w m (Some AlreadyDone) (let g : w.is_open n ≡ true = sym (m.steps.is_open n) ∙ opened in let h : w.marked n c ≡ true = sym (m.steps.marked n c) ∙ f in rw (named, g, h) refl)

      module _ (unmarked : is_marked_at a.steps n c ≡ false) where
        chunk_rest : (o : Option Refusal) → ((w : World) → Meets a w → o ≡ first_failing (parties_up (ring_of a) (plan_of a) w n ++ keepers_up (ring_of a) (plan_of a) w n c)) → Tests a (ChunkCopy n c) o
        chunk_rest o e w m = chunk_tests w m o (let g : w.is_open n ≡ true = sym (m.steps.is_open n) ∙ opened in let h : w.marked n c ≡ false = sym (m.steps.marked n c) ∙ unmarked in rw (named, g, h) (e w m))

        pub chunk_party : (r : Refusal) → ((w : World) → Meets a w → Some r ≡ first_failing (parties_up (ring_of a) (plan_of a) w n)) → Tests a (ChunkCopy n c) (Some r)
        chunk_party r e = chunk_rest (Some r) (λ w m. sym (fails_first (parties_up (ring_of a) (plan_of a) w n) (keepers_up (ring_of a) (plan_of a) w n c) r (sym (e w m))))

        pub chunk_keepers : (o : Option Refusal) → ((w : World) → Meets a w → None ≡ first_failing (parties_up (ring_of a) (plan_of a) w n))
            → ((w : World) → Meets a w → o ≡ first_failing (keepers_up (ring_of a) (plan_of a) w n c)) → Tests a (ChunkCopy n c) o
        chunk_keepers o e f = chunk_rest o (λ w m. f w m ∙ sym (passes_first (parties_up (ring_of a) (plan_of a) w n) (keepers_up (ring_of a) (plan_of a) w n c) (sym (e w m))))
