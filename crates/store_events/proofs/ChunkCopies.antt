-- A store that copies a chunk is in the next world.
use Rattle.std.proofs.Common.{◌≡◌, inl, inr, ◌∙◌, ℕ, ◌<◌, Bool, true, false, List, [], ◌∷◌, length, map, refl, sym, ap, subst, ltb-true, lt-ltb, eqb-true, eq-eqb}
use Rattle.std.specs.Prelude.{◌&&◌, ◌||◌, ◌==◌, nat_lt, Option, Some, None, Ok, is_some, option_and_then}
use Rattle.std.specs.List.{list_all, list_any}
use Rattle.std.proofs.lemmas.Slice.Eq.{bytes_eq-Decides}
use Rattle.std.proofs.Props.{props}
use Rattle.std.proofs.lemmas.Bool.{and_parts, and_from, or_cases}
use Rattle.ring_names.specs.declared.ids.NodeId.{NodeId}
use Rattle.ring_names.specs.declared.ids.Slot.{Slot}
use Rattle.ring_space.specs.Place.{place_of}
use Rattle.ring_table.specs.Value.{RingValue}
use Rattle.ring_clock.specs.declared.entry.Entry.{Entry}
use Rattle.ring_versions.specs.declared.version.Version.{Version}
use Rattle.store_parts.specs.KeyTable.{chunk_of}
use Rattle.ring_names.proofs.Logic.{bool_same}
use Rattle.ring_store.specs.Nodes.{at_node}
use Rattle.ring_store.specs.Slots.{at_slot}
use Rattle.plan_text.specs.declared.step.Planned.{Planned}
use Rattle.plan_text.specs.declared.step.Source.{Source}
use Rattle.plan_text.specs.declared.step.Source.TheVariants.{Owner, Slots}
use Rattle.plan_text.specs.declared.step.Step.TheVariants.{Copy}
use Rattle.plan_text.specs.Steps.{copy_of}
use Rattle.plan_text.specs.Valid.{is_ring_slot, source_suits}
use Rattle.plan_stage.specs.Clauses.{first_failing}
use Rattle.plan_stage.specs.Each.{step_at}
use Rattle.plan_runs.specs.declared.event.Event.{Event}
use Rattle.plan_runs.specs.declared.event.Event.TheVariants.{ChunkCopy}
use Rattle.plan_runs.specs.declared.event.Reply.TheVariants as reply
use Rattle.plan_runs.specs.World.{World, is_of_key, key_of_put, slot_at, stage_now}
use Rattle.plan_runs.specs.Guards.{guards, has_copy}
use Rattle.plan_runs.specs.Effects.{changed, effect, source_has, is_copied, with_mark as with_chunk}
use Rattle.plan_runs.specs.Answers.{answer, reply_to}
use Rattle.plan_runs.specs.Reached.{Reached, IsPutOf}
use Rattle.plan_runs.specs.Versions.{is_in_chunk, slot_has, some_hinted}
use Rattle.plan_runs.proofs.Answered.{allowed}
use Rattle.plan_runs.proofs.Passed.{all_met}
use Rattle.plan_runs.proofs.Passing.{some_found}
use Rattle.store_parts.specs.declared.slots.SlotNow.{SlotNow}
use Rattle.store_parts.specs.declared.steps.StepNow.{StepNow}
use Rattle.store_parts.specs.Marks.{with_mark}
use Rattle.store_parts.specs.Slots.{slot_now}
use Rattle.store_parts.specs.Steps.{is_marked_at}
use Rattle.store_parts.specs.Shows.{Shows, value_of}
use Rattle.store_parts.specs.Stored.{ShowAll, MergeAll, at_mirror, copied}
use Rattle.store_parts.proofs.StoredGrows.{copied_more}
use Rattle.store_parts.proofs.ShownSets.{none, other_test, with_none}
use Rattle.store_parts.specs.PutsMeet.{clock_at}
use Rattle.store_parts.proofs.PutsFrames.{puts_stay}
use Rattle.store_parts.proofs.SlotsFit.{kept_is}
use Rattle.store_parts.proofs.StageSuits.{step_suiting}
use Rattle.store_parts.proofs.StepsNow.{steps_mark}
use Rattle.store_parts.specs.Kept.{Kept, Tells}
use Rattle.store_parts.specs.Parts.{ring_of, plan_of, kept_of, IsSound, Passes}
use Rattle.store_parts.specs.declared.parts.Parts.{Parts}
use Rattle.store_parts.proofs.StoreInWorld.{holds, reached_of, suits_of}
use Rattle.store_events.specs.Parties.{mirror_kept}
use Rattle.store_events.specs.Sources.{ShowsChunk, are_kept, is_kept, reads_kept}
use Rattle.store_events.proofs.TellsOnVersions.{comes, lasts, goes_on}
use Rattle.store_events.proofs.ShownBrought.{node_shows, node_come}
use Rattle.store_events.proofs.PutAndSlot.{kept_in_ring}

-- one of the slots passes the test
pub some_slot : (test : Slot → Bool) (p : ℕ) (from : List ℕ) → list_any test (map (slot_at p) from) ≡ true → (i : ℕ) × (test (slot_at p i) ≡ true)
some_slot test p [] e = absurd cc
some_slot test p (i ∷ from) e = elim (or_cases (test (slot_at p i)) (list_any test (map (slot_at p) from)) e) [ inl here ↦ (i, here) | inr there ↦ some_slot test p from there ]

module _ (ring : RingValue) (plan : List Planned) (k : Kept) (w : World) (m : Tells ring plan k w) where
  reached : Reached ring plan w
  reached = reached_of ring plan k w m

  -- ---- what is read

  -- what a slot has is of its partition
  slot_puts : (s : Slot) (v : ℕ) → slot_has ring plan w s v ≡ true → IsPutOf ring w s v
  slot_puts s v h = elim (or_cases (w.stored (stage_now ring plan w s).owner.0 s v) (some_hinted ring w s v) h) [
    | inl e ↦ reached.stored (stage_now ring plan w s).owner.0 s v e
    | inr e ↦ (let x = some_found (length ring.nodes) (λ x. w.hinted x s v) e in reached.hinted x.0 s v x.2)
  ]

  source_puts : (slot : Slot) (source : Source) (v : ℕ) → source_has ring plan w slot source v ≡ true → (v < length w.puts) × ((place_of ring.q (key_of_put w v)).partition ≡ slot.partition)
  source_puts slot Owner v h = reached.stored (stage_now ring plan w slot).owner.0 slot v h
  source_puts slot (Slots from) v h = (let s = some_slot (λ s. slot_has ring plan w s v) slot.partition from h in slot_puts (slot_at slot.partition s.0) v s.1)

  module _ (slot : Slot) (source : Source) (c : ℕ) (key : List ℕ) where
    of_chunk : (v : ℕ) → is_of_key w key v ≡ true → (place_of ring.q (key_of_put w v)).chunk ≡ chunk_of ring.q key
    unfolding chunk_of
    of_chunk v h = ap (λ (bs : List ℕ). (place_of ring.q bs).chunk) ((bytes_eq-Decides (key_of_put w v) key).0 h)

    -- of a key of the chunk all that is read is copied
    here : chunk_of ring.q key ≡ c → (v : ℕ) → (source_has ring plan w slot source v && is_of_key w key v) ≡ (is_copied ring plan w slot source c v && is_of_key w key v)
    here lies v = bool_same (source_has ring plan w slot source v && is_of_key w key v) (is_copied ring plan w slot source c v && is_of_key w key v)
        (λ h.
        let p = and_parts (source_has ring plan w slot source v) (is_of_key w key v) h in
        let of = source_puts slot source v p.0 in
        let part = eq-eqb ((place_of ring.q (key_of_put w v)).partition) slot.partition of.1 in
        let chunk = eq-eqb ((place_of ring.q (key_of_put w v)).chunk) c (of_chunk v p.1 ∙ lies) in
        let inside = and_from ((place_of ring.q (key_of_put w v)).partition == slot.partition) ((place_of ring.q (key_of_put w v)).chunk == c) part chunk in
        and_from (is_copied ring plan w slot source c v) (is_of_key w key v)
        (and_from (nat_lt v (length w.puts) && is_in_chunk ring w slot c v) (source_has ring plan w slot source v) (and_from (nat_lt v (length w.puts)) (is_in_chunk ring w slot c v) (lt-ltb v (length w.puts) of.0) inside) p.0) p.1)
        (λ h.
        let p = and_parts (is_copied ring plan w slot source c v) (is_of_key w key v) h in
        let r = and_parts (nat_lt v (length w.puts) && is_in_chunk ring w slot c v) (source_has ring plan w slot source v) p.0 in
        and_from (source_has ring plan w slot source v) (is_of_key w key v) r.1 p.1)

    -- and of another key nothing
    apart : (chunk_of ring.q key ≡ c → ⊥) → (v : ℕ) → false ≡ (is_copied ring plan w slot source c v && is_of_key w key v)
    apart out v = by (is_copied ring plan w slot source c v && is_of_key w key v) refl
      where
        by : (b : Bool) → (is_copied ring plan w slot source c v && is_of_key w key v) ≡ b → false ≡ (is_copied ring plan w slot source c v && is_of_key w key v)
        by false e = sym e
        by true e = absurd (
            let p = and_parts (is_copied ring plan w slot source c v) (is_of_key w key v) e in
            let r = and_parts (nat_lt v (length w.puts) && is_in_chunk ring w slot c v) (source_has ring plan w slot source v) p.0 in
            let s = and_parts (nat_lt v (length w.puts)) (is_in_chunk ring w slot c v) r.0 in
            let t = and_parts ((place_of ring.q (key_of_put w v)).partition == slot.partition) ((place_of ring.q (key_of_put w v)).chunk == c) s.1 in
            out (sym (of_chunk v p.1) ∙ eqb-true ((place_of ring.q (key_of_put w v)).chunk) c t.1))

    whole : (clock : ℕ → List Entry) (versions : List ℕ → List Version) → ShowsChunk ring.q w clock c versions (source_has ring plan w slot source)
        → ((chunk_of ring.q key ≡ c → ⊥) → versions key ≡ []) → Shows clock (value_of w) (versions key) (λ v. is_copied ring plan w slot source c v && is_of_key w key v)
    whole clock versions shows others = by (chunk_of ring.q key == c) refl
      where
        by : (b : Bool) → (chunk_of ring.q key == c) ≡ b → Shows clock (value_of w) (versions key) (λ v. is_copied ring plan w slot source c v && is_of_key w key v)
        by true e =
            let lies = eqb-true (chunk_of ring.q key) c e in
            other_test clock (value_of w) (versions key) (λ v. source_has ring plan w slot source v && is_of_key w key v) (λ v. is_copied ring plan w slot source c v && is_of_key w key v) (here lies) (shows key lies)
        by false e =
            let out : chunk_of ring.q key ≡ c → ⊥ = λ lies. (let f = eq-eqb (chunk_of ring.q key) c lies in cc) in
            subst (λ (vs : List Version). Shows clock (value_of w) vs (λ v. is_copied ring plan w slot source c v && is_of_key w key v)) (sym (others out))
            (other_test clock (value_of w) [] (λ v. false) (λ v. is_copied ring plan w slot source c v && is_of_key w key v) (apart out) (none clock (value_of w)))

  mirror_come : (o : Option NodeId) (slot : Slot) (source : Source) (c : ℕ) (y : ℕ) (t : Slot) (v : ℕ) → at_mirror o slot (is_copied ring plan w slot source c) y t v ≡ true → v < length w.puts
  mirror_come None slot source c y t v h = absurd cc
  mirror_come (Some x) slot source c y t v h =
      let p = node_come x slot (is_copied ring plan w slot source c) y t v h in
      let r = and_parts (nat_lt v (length w.puts) && is_in_chunk ring w slot c v) (source_has ring plan w slot source v) p in
      ltb-true v (length w.puts) (and_parts (nat_lt v (length w.puts)) (is_in_chunk ring w slot c v) r.0).0

  -- ---- a copy of the plan

  module _ (n : ℕ) (slot : Slot) (source : Source) (at : step_at plan n ≡ Some (Copy slot source)) where
    suiting : (is_ring_slot ring slot ≡ true) × (source_suits ring source ≡ true)
    suiting = and_parts (is_ring_slot ring slot) (source_suits ring source) (step_suiting ring plan (suits_of ring plan k w m) n (Copy slot source) at)

    -- its slot is kept, and so are the slots that it reads
    pub slot_is_kept : is_kept k.rows slot ≡ true
    slot_is_kept = kept_in_ring ring plan k w m slot ∙ suiting.0

    all_kept : (from : List ℕ) → list_all (λ i. nat_lt i ring.n) from ≡ true → are_kept k.rows slot.partition from ≡ true
    all_kept [] e = refl
    all_kept (i ∷ from) e =
        let p = and_parts (nat_lt i ring.n) (list_all (λ j. nat_lt j ring.n) from) e in
        let inside = and_from (nat_lt slot.partition ring.q) (nat_lt i ring.n) (and_parts (nat_lt slot.partition ring.q) (nat_lt slot.index ring.n) suiting.0).0 p.0 in
        and_from (is_kept k.rows (slot_at slot.partition i)) (are_kept k.rows slot.partition from) (kept_in_ring ring plan k w m (slot_at slot.partition i) ∙ inside) (all_kept from p.1)

    pub source_is_kept : reads_kept k.rows slot source ≡ true
    source_is_kept = by source suiting.1
      where
        by : (from : Source) → source_suits ring from ≡ true → reads_kept k.rows slot from ≡ true
        by Owner e = slot_is_kept
        by (Slots from) e = all_kept from e

  module _ (n c : ℕ) (passes : first_failing (guards ring plan w (ChunkCopy n c)) ≡ None) where
    pub chunk_named : (has_copy plan n ≡ true) × (nat_lt c 16 ≡ true)
    unfolding guards
    chunk_named = and_parts (has_copy plan n) (nat_lt c 16) (all_met (guards ring plan w (ChunkCopy n c)) passes).0

    module _ (slot : Slot) (source : Source) (at : step_at plan n ≡ Some (Copy slot source)) (served : SlotNow) (kept : slot_now k.rows slot ≡ Some served) (steps : List StepNow)
        (stepped : steps ≡ changed k.steps n (λ x. record x { marks = with_mark x.marks c })) (marked : n < length k.steps → (i d : ℕ) → is_marked_at steps i d ≡ with_chunk (is_marked_at k.steps) n c i d) where
      -- what comes to the mirror is what the chunk brings
      brought : (y : ℕ) (t : Slot) (v : ℕ) → copied ring plan w n c y t v ≡ at_mirror served.mirror slot (is_copied ring plan w slot source c) y t v
      brought y t v =
          ap (λ (o : Option (Slot × Source)). elim o as (λ _. Bool) [ Some x ↦ at_mirror (stage_now ring plan w x.0).mirror x.0 (is_copied ring plan w x.0 x.1 c) y t v | None ↦ false ]) (ap (option_and_then copy_of) at)
          ∙ ap (λ (o : Option NodeId). at_mirror o slot (is_copied ring plan w slot source c) y t v) (sym (kept_is ring plan k.rows w slot served m.slots kept).mirror)

      chunked : (more new : ℕ → Slot → List ℕ → List Version) → ShowAll w (clock_at k.puts) more (at_mirror served.mirror slot (is_copied ring plan w slot source c)) → MergeAll k.stored more new
          → (u : World) × (answer ring plan w (ChunkCopy n c) ≡ Ok (u, reply.Plain)) × Tells ring plan (record k { steps = steps; stored = new }) u
      unfolding effect
      chunked more new shows merges =
          let e : Event = ChunkCopy n c in
          let h = allowed ring plan w e passes in (
            effect ring plan w e,
            h,
            goes_on ring plan w e passes k m refl refl refl refl steps k.puts new k.hinted
                (steps_mark ring plan w n c k.steps steps passes m.steps stepped marked)
                (λ v. refl)
                (puts_stay ring plan w (effect ring plan w e) e (reply_to ring plan w e) k.keys k.last k.puts reached h refl m.puts)
                (comes ring plan w e passes (clock_at k.puts) k.stored more new w.stored (at_mirror served.mirror slot (is_copied ring plan w slot source c)) (effect ring plan w e).stored
                (λ y t v b. (reached.stored y t v b).0)
                (λ y t v b. mirror_come served.mirror slot source c y t v b)
                (λ y t v. copied_more ring plan w n c y t v ∙ ap (λ (b : Bool). b || w.stored y t v) (brought y t v))
                m.stored shows merges)
                (lasts ring plan w e passes (clock_at k.puts) k.hinted w.hinted (λ y t v b. (reached.hinted y t v b).0) m.hinted),
          )

      -- if there is a mirror, it is given what was read
      copied_to : (x : NodeId) (versions : List ℕ → List Version) (new : ℕ → Slot → List ℕ → List Version) → served.mirror ≡ Some x
          → ShowsChunk ring.q w (clock_at k.puts) c versions (source_has ring plan w slot source)
          → ((key : List ℕ) → (chunk_of ring.q key ≡ c → ⊥) → versions key ≡ []) → MergeAll k.stored (at_node x.0 (at_slot slot versions)) new
          → (u : World) × (answer ring plan w (ChunkCopy n c) ≡ Ok (u, reply.Plain)) × Tells ring plan (record k { steps = steps; stored = new }) u
      copied_to x versions new mirrored shows others merges =
          chunked (at_node x.0 (at_slot slot versions)) new
          (subst (λ (o : Option NodeId). ShowAll w (clock_at k.puts) (at_node x.0 (at_slot slot versions)) (at_mirror o slot (is_copied ring plan w slot source c))) (sym mirrored)
          (node_shows w (clock_at k.puts) x slot versions (is_copied ring plan w slot source c) (λ key. whole slot source c key (clock_at k.puts) versions shows (others key))))
          merges

      -- if there is none, nothing is given
      pub copied_nowhere : served.mirror ≡ None → (u : World) × (answer ring plan w (ChunkCopy n c) ≡ Ok (u, reply.Plain)) × Tells ring plan (record k { steps = steps }) u
      copied_nowhere mirrored =
          chunked (λ y t key. []) k.stored
          (subst (λ (o : Option NodeId). ShowAll w (clock_at k.puts) (λ y t key. []) (at_mirror o slot (is_copied ring plan w slot source c))) (sym mirrored) (λ y t key. none (clock_at k.puts) (value_of w)))
          (λ y t key. with_none (k.stored y t key) (m.stored y t key).apart)

    -- what was read is given to the mirror, and then the chunk is marked
    pub given : (slot : Slot) (source : Source) (at : step_at plan n ≡ Some (Copy slot source)) (served : SlotNow) (kept : slot_now k.rows slot ≡ Some served) (x : NodeId) (versions : List ℕ → List Version) (mid : Kept) (steps : List StepNow)
        → served.mirror ≡ Some x → ShowsChunk ring.q w (clock_at k.puts) c versions (source_has ring plan w slot source) → ((key : List ℕ) → (chunk_of ring.q key ≡ c → ⊥) → versions key ≡ [])
        → MergeAll k.stored (at_node x.0 (at_slot slot versions)) mid.stored → mid ≡ record k { stored = mid.stored } → steps ≡ changed mid.steps n (λ y. record y { marks = with_mark y.marks c })
        → (n < length mid.steps → (i d : ℕ) → is_marked_at steps i d ≡ with_chunk (is_marked_at mid.steps) n c i d)
        → (u : World) × (answer ring plan w (ChunkCopy n c) ≡ Ok (u, reply.Plain)) × Tells ring plan (record mid { steps = steps }) u
    given slot source at served kept x versions mid steps mirrored shows others merges rest =
        subst (λ (j : Kept). steps ≡ changed j.steps n (λ y. record y { marks = with_mark y.marks c }) → (n < length j.steps → (i d : ℕ) → is_marked_at steps i d ≡ with_chunk (is_marked_at j.steps) n c i d)
        → (u : World) × (answer ring plan w (ChunkCopy n c) ≡ Ok (u, reply.Plain)) × Tells ring plan (record j { steps = steps }) u) (sym rest)
        (λ stepped marked. copied_to slot source at served kept steps stepped marked x versions mid.stored mirrored shows others merges)

-- ---- of a store that is sound

module _ (a : Parts) (s : IsSound a) (n c : ℕ) (passes : Passes a (ChunkCopy n c)) where
  pub copy_known : has_copy (plan_of a) n ≡ true
  copy_known = holds a s (hlevel props) (λ w m. (chunk_named (ring_of a) (plan_of a) (kept_of a) w m n c (sym (passes w m))).0)

  pub chunk_few : c < 16
  chunk_few = holds a s (hlevel props) (λ w m. ltb-true c 16 (chunk_named (ring_of a) (plan_of a) (kept_of a) w m n c (sym (passes w m))).1)

module _ (a : Parts) (s : IsSound a) (n : ℕ) (slot : Slot) (source : Source) (at : step_at (plan_of a) n ≡ Some (Copy slot source)) where
  pub slot_known : is_kept a.slots slot ≡ true
  slot_known = holds a s (hlevel props) (λ w m. slot_is_kept (ring_of a) (plan_of a) (kept_of a) w m n slot source at)

  pub source_known : reads_kept a.slots slot source ≡ true
  source_known = holds a s (hlevel props) (λ w m. source_is_kept (ring_of a) (plan_of a) (kept_of a) w m n slot source at)

-- a slot that is kept is there
pub kept_there : (rows : List (List SlotNow)) (slot : Slot) → is_kept rows slot ≡ true → slot_now rows slot ≡ None → ⊥
kept_there rows slot kept gone = (let e : is_some (slot_now rows slot) ≡ false = ap is_some gone in cc)

-- a slot with a mirror is kept
pub mirrored_there : (rows : List (List SlotNow)) (slot : Slot) (y : NodeId) → mirror_kept rows slot ≡ Some y → is_some (slot_now rows slot) ≡ true
mirrored_there rows slot y = by (slot_now rows slot)
  where
    by : (o : Option SlotNow) → option_and_then (λ x. x.mirror) o ≡ Some y → is_some o ≡ true
    by None e = absurd cc
    by (Some x) e = refl
