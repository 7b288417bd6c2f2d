-- Reads of slots for gets that are kept.
use Rattle.std.proofs.Common.{◌≡◌, ◌⊎◌, inl, inr, ◌∙◌, ℕ, ◌<◌, ◌≤◌, Bool, true, false, not, List, ◌∷◌, length, refl, sym, ap, subst}
use Rattle.std.specs.Prelude.{◌&&◌, nat_lt, Option, Some, None, Ok, slice_get, option_map, is_some}
use Rattle.std.proofs.lemmas.Bool.{and_parts, and_from, le-ltb}
use Rattle.std.proofs.lemmas.Option.{slice_get_within}
use Rattle.std.proofs.Math.Path.{fun_ext}
use Rattle.ring_names.specs.declared.ids.NodeId.{NodeId}
use Rattle.ring_names.specs.declared.ids.Slot.{Slot}
use Rattle.ring_names.specs.declared.refusal.Refusal.{Refusal}
use Rattle.ring_names.specs.declared.refusal.Refusal.TheVariants.{UnknownNumber, AlreadyDone, NodeDown}
use Rattle.ring_space.specs.Place.{place_of}
use Rattle.ring_space.specs.declared.found.Place.{Place}
use Rattle.ring_table.specs.Value.{RingValue}
use Rattle.ring_versions.specs.declared.version.Version.{Version}
use Rattle.plan_text.specs.declared.step.Planned.{Planned}
use Rattle.plan_stage.specs.Clauses.{Guard, first_failing}
use Rattle.plan_runs.specs.declared.event.Event.TheVariants.{Read}
use Rattle.plan_runs.specs.declared.event.Reply.{Reply}
use Rattle.plan_runs.specs.declared.event.Reply.TheVariants as reply
use Rattle.plan_runs.specs.World.{World, stage_now, slot_at, key_of_get, is_of_key}
use Rattle.plan_runs.specs.Versions.{get_slot}
use Rattle.plan_runs.specs.Guards.{guards, up_guard, nodes_up, keeps_of_key}
use Rattle.plan_runs.specs.Effects.{changed, effect}
use Rattle.plan_runs.specs.Answers.{answer, reply_to}
use Rattle.plan_runs.proofs.Answered.{allowed}
use Rattle.plan_runs.proofs.Passing.{some_found}
use Rattle.store_parts.specs.Shows.{value_of}
use Rattle.store_parts.proofs.GetsFound.{read_reply}
use Rattle.store_parts.specs.declared.gets.GetNow.{GetNow}
use Rattle.store_parts.specs.declared.slots.SlotNow.{SlotNow}
use Rattle.store_parts.specs.Gets.{is_read, is_read_at}
use Rattle.store_parts.specs.Marks.{with_mark}
use Rattle.store_parts.specs.Nodes.{is_up_at}
use Rattle.store_parts.specs.Slots.{slot_now}
use Rattle.store_parts.specs.GetsTests.{has_get, has_ended_at}
use Rattle.store_parts.specs.PutsMeet.{clock_at}
use Rattle.store_parts.proofs.GetsChanges.{gets_read}
use Rattle.store_parts.proofs.GetsGuards.{read_tested}
use Rattle.store_parts.proofs.PutsFrames.{puts_stay}
use Rattle.store_parts.specs.Kept.{Kept, Tells}
use Rattle.store_parts.proofs.WhoKeepsHints.{keeps_key}
use Rattle.store_parts.proofs.StoreInWorld.{reached_of, slot_there}
use Rattle.store_clients.specs.Keepers.{IsFirstDown}
use Rattle.store_clients.specs.Looks.{FindsAt}
use Rattle.store_clients.specs.Reads.{StopsRead}
use Rattle.store_parts.proofs.KeepersDeclared.{keeper_within}
use Rattle.store_clients.proofs.FirstDown.{first_down_is}
use Rattle.store_clients.proofs.TellsOnClients.{stored_on, hinted_on, tells_next}
use Rattle.store_clients.proofs.SlotHasOfKey.{get_key_is}
use Rattle.store_clients.proofs.NumberTests.{is_less, none_there}

module _ (ring : RingValue) (plan : List Planned) (k : Kept) (w : World) (m : Tells ring plan k w) where
  -- what stands against a read, in front of what stands against the nodes
  abbrev by_tests : Bool → Bool → Bool → List Guard → List Guard
  by_tests there ended was_read more = (there, UnknownNumber) ∷ (not ended, AlreadyDone) ∷ (not was_read, AlreadyDone) ∷ more

  abbrev node_guards : ℕ → ℕ → List Guard
  node_guards g i = up_guard w.up (stage_now ring plan w (get_slot ring w g i)).owner ∷ nodes_up w.up (length ring.nodes) (keeps_of_key w (key_of_get w g) (get_slot ring w g i))

  tested : (g i : ℕ) → first_failing (by_tests (has_get k.gets ring.n g i) (has_ended_at k.gets g) (is_read_at k.gets g i) (node_guards g i)) ≡ first_failing (guards ring plan w (Read g i))
  unfolding guards
  tested g i = ap first_failing (sym (read_tested ring plan (clock_at k.puts) k.keys k.gets w g i m.gets))

  -- there is no such get
  pub no_get : (g i : ℕ) → slice_get k.gets g ≡ None → Some UnknownNumber ≡ first_failing (guards ring plan w (Read g i))
  no_get g i none =
      let less = le-ltb g (length k.gets) (none_there k.gets g none) in
      rw less at (tested g i)

  -- there is no such slot
  pub no_slot : (g i : ℕ) → ring.n ≤ i → Some UnknownNumber ≡ first_failing (guards ring plan w (Read g i))
  no_slot g i l = ap (λ (b : Bool). first_failing (by_tests b (has_ended_at k.gets g) (is_read_at k.gets g i) (node_guards g i))) (sym (none (nat_lt g (length k.gets)))) ∙ tested g i
    where
      none : (b : Bool) → (b && nat_lt i ring.n) ≡ false
      none true = le-ltb i ring.n l
      none false = refl

  module _ (g i : ℕ) (get : GetNow) (is : slice_get k.gets g ≡ Some get) (within : i < ring.n) where
    there_is : has_get k.gets ring.n g i ≡ true
    there_is = and_from (nat_lt g (length k.gets)) (nat_lt i ring.n) (is_less g (length k.gets) (slice_get_within k.gets g get is)) (is_less i ring.n within)

    ended_is : has_ended_at k.gets g ≡ is_some get.reply
    ended_is = ap (λ (o : Option GetNow). elim o as (λ _. Bool) [ Some x ↦ is_some x.reply | None ↦ false ]) is

    read_is : is_read_at k.gets g i ≡ is_read get i
    read_is = ap (λ (o : Option GetNow). elim o as (λ _. Bool) [ Some x ↦ is_read x i | None ↦ false ]) is

    of_get : first_failing (by_tests true (is_some get.reply) (is_read get i) (node_guards g i)) ≡ first_failing (guards ring plan w (Read g i))
    of_get =
        ap (λ (b : Bool). first_failing (by_tests b (is_some get.reply) (is_read get i) (node_guards g i))) (sym there_is)
        ∙ ap (λ (b : Bool). first_failing (by_tests (has_get k.gets ring.n g i) b (is_read get i) (node_guards g i))) (sym ended_is)
        ∙ ap (λ (b : Bool). first_failing (by_tests (has_get k.gets ring.n g i) (has_ended_at k.gets g) b (node_guards g i))) (sym read_is)
        ∙ tested g i

    -- the get has ended
    pub get_ended : is_some get.reply ≡ true → Some AlreadyDone ≡ first_failing (guards ring plan w (Read g i))
    get_ended e = ap (λ (b : Bool). first_failing (by_tests true b (is_read get i) (node_guards g i))) (sym e) ∙ of_get

    -- it has read the slot
    pub slot_read : is_some get.reply ≡ false → is_read get i ≡ true → Some AlreadyDone ≡ first_failing (guards ring plan w (Read g i))
    slot_read e f =
        ap (λ (b : Bool). first_failing (by_tests true b true (node_guards g i))) (sym e)
        ∙ ap (λ (b : Bool). first_failing (by_tests true (is_some get.reply) b (node_guards g i))) (sym f)
        ∙ of_get

    -- the slot's owner is down, or a node that keeps versions of the key for it, or none is
    pub nodes_stop : (place : Place) (key : List ℕ) (o : Option Refusal) → is_some get.reply ≡ false → is_read get i ≡ false
        → option_map (place_of ring.q) (slice_get k.keys get.key) ≡ Some place → slice_get k.keys get.key ≡ Some key
        → StopsRead k.rows (is_up_at k.nodes) (λ x. k.hinted x (slot_at place.partition i) key) (slot_at place.partition i) o
        → o ≡ first_failing (guards ring plan w (Read g i))
    nodes_stop place key o e f lies at stops =
        let p = get_key_is ring plan k w m g get place is lies in
        let own : key ≡ key_of_get w g = (let z = p.0 in cc) in
        let slot : slot_at place.partition i ≡ get_slot ring w g i = ap (λ (z : Place). slot_at z.partition i) (sym p.1) in
        let s = slot_there ring plan k w m (slot_at place.partition i) (and_from (nat_lt place.partition ring.q) (nat_lt i ring.n) (is_less place.partition ring.q p.2) (is_less i ring.n within)) in
        let up : is_up_at k.nodes ≡ w.up = fun_ext m.nodes.up in
        let owner : s.0.owner ≡ (stage_now ring plan w (get_slot ring w g i)).owner = s.2.owner ∙ ap (λ (t : Slot). (stage_now ring plan w t).owner) slot in
        let stop : StopsRead k.rows w.up (λ x. k.hinted x (get_slot ring w g i) (key_of_get w g)) (get_slot ring w g i) o
        = subst (λ (t : Slot). StopsRead k.rows w.up (λ x. k.hinted x t (key_of_get w g)) t o) slot
        (subst (λ (z : List ℕ). StopsRead k.rows w.up (λ x. k.hinted x (slot_at place.partition i) z) (slot_at place.partition i) o) own
        (subst (λ (h : ℕ → Bool). StopsRead k.rows h (λ x. k.hinted x (slot_at place.partition i) key) (slot_at place.partition i) o) up stops)) in
        let kept = subst (λ (t : Slot). slot_now k.rows t ≡ Some s.0) slot s.1 in
        by s.0 owner (stop s.0 kept)
        ∙ ap (λ (b : Bool). first_failing (by_tests true false b (node_guards g i))) (sym f)
        ∙ ap (λ (b : Bool). first_failing (by_tests true b (is_read get i) (node_guards g i))) (sym e)
        ∙ of_get
      where
        by : (x : SlotNow) → x.owner ≡ (stage_now ring plan w (get_slot ring w g i)).owner
            → ((w.up x.owner.0 ≡ false) × (o ≡ Some (NodeDown x.owner.0))) ⊎ ((w.up x.owner.0 ≡ true) × IsFirstDown w.up (λ y. k.hinted y (get_slot ring w g i) (key_of_get w g)) o)
            → o ≡ first_failing (node_guards g i)
        by x owner h =
            let keeps = keeps_of_key w (key_of_get w g) (get_slot ring w g i) in
            ap (λ (z : Option Refusal). z) (elim h [
              | inl down ↦ down.1 ∙ (let d = down.0 in rw d refl)
              | inr fine ↦ first_down_is w.up keeps (λ y. k.hinted y (get_slot ring w g i) (key_of_get w g)) (length ring.nodes) o (keeps_key ring plan k w m (key_of_get w g) (get_slot ring w g i))
                  (λ y t. (let v = some_found (length w.puts) (λ v. is_of_key w (key_of_get w g) v && w.hinted y (get_slot ring w g i) v) t in
                  keeper_within ring plan k w m y (get_slot ring w g i) v.0 (and_parts (is_of_key w (key_of_get w g) v.0) (w.hinted y (get_slot ring w g i) v.0) v.2).1))
                  fine.1
                  ∙ (let u = fine.0 in rw u refl)
            ])
            ∙ ap (λ (y : NodeId). first_failing (up_guard w.up y ∷ nodes_up w.up (length ring.nodes) keeps)) owner

-- a get that has read the slot
pub read_on : (ring : RingValue) (plan : List Planned) (k : Kept) (w : World) (g i : ℕ) (found : List Version) (ns : List ℕ) → Tells ring plan k w → first_failing (guards ring plan w (Read g i)) ≡ None
    → i < 7 → FindsAt ring plan k w g i found ns
    → (u : World) × (answer ring plan w (Read g i) ≡ Ok (u, reply.Found ns)) × Tells ring plan (record k { gets = changed k.gets g (λ x. record x { read = with_mark x.read i; found = found }) }) u
read_on ring plan k w g i found ns m p few f =
    let u = effect ring plan w (Read g i) in
    let first : answer ring plan w (Read g i) ≡ Ok (u, reply_to ring plan w (Read g i)) = allowed ring plan w (Read g i) p in
    let reached = reached_of ring plan k w m in
    let same = read_reply ring plan w u (clock_at k.puts) (value_of w) g (reply_to ring plan w (Read g i)) reached m.puts.clocks i f.at_slot ns first f.shows f.numbers in
    let h : answer ring plan w (Read g i) ≡ Ok (u, reply.Found ns) = first ∙ ap (λ (z : Reply). Ok (u, z)) same in
    let r = reply.Found ns in (
      u,
      h,
      tells_next ring plan k w u (Read g i) r m refl h k.keys k.last k.puts (changed k.gets g (λ x. record x { read = with_mark x.read i; found = found })) m.numbered m.placed m.behind
          (puts_stay ring plan w u (Read g i) r k.keys k.last k.puts reached h refl m.puts)
          (gets_read ring plan w u g i r (clock_at k.puts) k.keys k.gets f.get f.at_slot found reached m.puts.clocks h few f.is f.shows f.merged m.gets)
          (stored_on ring plan k w u (Read g i) r m refl h)
          (hinted_on ring plan k w u (Read g i) r m refl h),
    )
