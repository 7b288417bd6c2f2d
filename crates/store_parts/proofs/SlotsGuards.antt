-- What an event needs of the nodes of a slot is one over the slots that are kept and over the world.
use Rattle.std.proofs.Common.{◌≡◌, ◌∙◌, ℕ, zero, suc, ◌+◌, ◌<◌, Bool, true, false, not, cond, List, [], ◌∷◌, ◌++◌, length, refl, sym, ap, subst, arith, lt-ltb}
use Rattle.std.specs.Prelude.{◌||◌, ◌==◌, nat_lt, Option, Some, None, option_map, is_some, if◌then◌else◌}
use Rattle.std.proofs.lemmas.Bool.{and_parts, and_from}
use Rattle.std.proofs.Math.Path.{fun_ext}
use Rattle.ring_names.specs.declared.ids.NodeId.{NodeId}
use Rattle.ring_names.specs.declared.ids.Slot.{Slot}
use Rattle.ring_names.specs.declared.refusal.Refusal.{Refusal}
use Rattle.ring_names.specs.declared.refusal.Refusal.TheVariants.{NotMember, AlreadyDone, KeeperTaken, KeeperInPartition, UnknownNumber, NodeDown}
use Rattle.ring_table.specs.Value.{RingValue}
use Rattle.plan_text.specs.declared.step.Planned.{Planned}
use Rattle.plan_text.specs.Valid.{is_ring_slot}
use Rattle.plan_stage.specs.Clauses.{Guard, first_failing}
use Rattle.plan_runs.specs.declared.event.Event.TheVariants.{Write, Hint, Handoff, Lose, Read}
use Rattle.plan_runs.specs.World.{World, some_below, stage_now, is_member_now, is_served, slot_at, keeps, keeps_other, is_in_group, key_of_get, found_at}
use Rattle.plan_runs.specs.Versions.{put_slot, get_slot}
use Rattle.plan_runs.specs.Guards.{up_guard, slot_up, served_up, nodes_up, put_exists, serves_in, get_exists, has_ended, keeps_of_key, guards}
use Rattle.plan_runs.specs.Effects.{effect}
use Rattle.store_parts.specs.declared.nodes.NodeNow.{NodeNow}
use Rattle.store_parts.specs.declared.slots.SlotNow.{SlotNow}
use Rattle.store_parts.specs.Nodes.{is_up_at, is_member_at}
use Rattle.store_parts.specs.Slots.{slot_now}
use Rattle.store_parts.specs.NodesMeet.{NodesMeet}
use Rattle.store_parts.specs.SlotsMeet.{SlotsMeet}
use Rattle.store_parts.proofs.SlotsNow.{slots_lose}
use Rattle.store_parts.proofs.StageGuards.{pair_is}
use Rattle.store_parts.specs.GuardsKept.{owner_up_kept, read_guards_kept, served_up_kept, is_served_kept, serves_in_kept, write_guards_kept, hint_guards_kept, handoff_guards_kept}

-- ---- who serves a slot

-- whether the nodes that serve the slot are up
pub served_kept : (ring : RingValue) (plan : List Planned) (nodes : List NodeNow) (rows : List (List SlotNow)) (w : World) (slot : Slot) → NodesMeet ring plan nodes w → SlotsMeet ring plan rows w → is_ring_slot ring slot ≡ true
    → served_up_kept nodes rows slot ≡ served_up ring plan w slot
served_kept ring plan nodes rows w slot m t h =
    let e = t.each slot h in
    let up : is_up_at nodes ≡ w.up = fun_ext m.up in
    ap (λ (o : Option SlotNow). elim o as (λ _. List Guard) [ Some a ↦ slot_up (is_up_at nodes) a.owner a.mirror | None ↦ [] ]) e.1
    ∙ ap (λ (f : ℕ → Bool). slot_up f e.0.owner e.0.mirror) up
    ∙ ap (λ (x : NodeId). slot_up w.up x e.0.mirror) e.2.owner
    ∙ ap (λ (o : Option NodeId). slot_up w.up (stage_now ring plan w slot).owner o) e.2.mirror

-- whether the node serves it
pub server_kept : (ring : RingValue) (plan : List Planned) (rows : List (List SlotNow)) (w : World) (slot : Slot) (x : ℕ) → SlotsMeet ring plan rows w → is_ring_slot ring slot ≡ true
    → is_served_kept rows slot x ≡ is_served (stage_now ring plan w slot) x
server_kept ring plan rows w slot x t h =
    let e = t.each slot h in
    ap (λ (o : Option SlotNow). elim o as (λ _. Bool) [ Some a ↦ (x == a.owner.0) || elim a.mirror [ Some y ↦ x == y.0 | None ↦ false ] | None ↦ false ]) e.1
    ∙ ap (λ (z : NodeId). (x == z.0) || elim e.0.mirror [ Some y ↦ x == y.0 | None ↦ false ]) e.2.owner
    ∙ ap (λ (o : Option NodeId). (x == (stage_now ring plan w slot).owner.0) || elim o [ Some y ↦ x == y.0 | None ↦ false ]) e.2.mirror

some_alike : (n : ℕ) (f g : ℕ → Bool) → ((i : ℕ) → i < n → f i ≡ g i) → some_below n f ≡ some_below n g
some_alike zero f g h = refl
some_alike (suc n) f g h = (let a = some_alike n f g (λ i l. h i (omega arith)) in let b = h n (omega arith) in rw (a, b) refl)

-- whether it serves a slot of the partition
pub serves_kept : (ring : RingValue) (plan : List Planned) (rows : List (List SlotNow)) (w : World) (p x : ℕ) → SlotsMeet ring plan rows w → p < ring.q → serves_in_kept ring rows p x ≡ serves_in ring plan w p x
serves_kept ring plan rows w p x t l = some_alike ring.n (λ i. is_served_kept rows (slot_at p i) x) (λ i. is_served (stage_now ring plan w (slot_at p i)) x)
    (λ i k. server_kept ring plan rows w (slot_at p i) x t (and_from (nat_lt p ring.q) (nat_lt i ring.n) (lt-ltb p ring.q l) (lt-ltb i ring.n k)))

-- ---- events

-- a test, and what is asked only if it is passed
asked : (a b : Bool) (e : Refusal) (gs hs : List Guard) → a ≡ b → (b ≡ true → first_failing gs ≡ first_failing hs) → first_failing ((a, e) ∷ gs) ≡ first_failing ((b, e) ∷ hs)
asked a true e gs hs same h = ap (λ (k : Bool). cond k (first_failing gs) (Some e)) same ∙ h refl
asked a false e gs hs same h = ap (λ (k : Bool). cond k (first_failing gs) (Some e)) same

-- what writing a put needs
pub write_kept : (ring : RingValue) (plan : List Planned) (nodes : List NodeNow) (rows : List (List SlotNow)) (w : World) (exists : Bool) (slot : Slot) (v i : ℕ) → NodesMeet ring plan nodes w → SlotsMeet ring plan rows w
    → exists ≡ put_exists ring w v i → (exists ≡ true → (slot ≡ put_slot ring w v i) × (slot.partition < ring.q))
    → first_failing (write_guards_kept nodes rows exists slot) ≡ first_failing (guards ring plan w (Write v i))
unfolding guards
write_kept ring plan nodes rows w exists slot v i m t same there = asked exists (put_exists ring w v i) UnknownNumber (served_up_kept nodes rows slot) (served_up ring plan w (put_slot ring w v i)) same (λ e.
    let b = and_parts (nat_lt v (length w.puts)) (nat_lt i ring.n) e in
    let s = there (same ∙ e) in
    let l : (put_slot ring w v i).partition < ring.q = (let z = ap (λ (t : Slot). t.partition) s.0 in let k = s.1 in omega arith) in
    ap (λ (t : Slot). first_failing (served_up_kept nodes rows t)) s.0
    ∙ ap first_failing (served_kept ring plan nodes rows w (put_slot ring w v i) m t (and_from (nat_lt (put_slot ring w v i).partition ring.q) (nat_lt i ring.n) (lt-ltb (put_slot ring w v i).partition ring.q l) b.1)))

-- what keeping a hint needs
pub hint_kept : (ring : RingValue) (plan : List Planned) (nodes : List NodeNow) (w : World) (exists serves other : Bool) (v i : ℕ) (x : NodeId) → NodesMeet ring plan nodes w → exists ≡ put_exists ring w v i
    → (exists ≡ true → (serves ≡ serves_in ring plan w (put_slot ring w v i).partition x.0) × (other ≡ keeps_other ring w x.0 (put_slot ring w v i)))
    → first_failing (hint_guards_kept nodes exists serves other x) ≡ first_failing (guards ring plan w (Hint v i x))
unfolding guards
hint_kept ring plan nodes w exists serves other v i x m same there = asked exists (put_exists ring w v i) UnknownNumber mine theirs same (λ e. ap first_failing (alike (there (same ∙ e))))
  where
    mine : List Guard
    mine = (is_member_at nodes x.0, NotMember x.0) ∷ up_guard (is_up_at nodes) x ∷ (not serves, KeeperInPartition) ∷ (not other, KeeperTaken) ∷ []

    theirs : List Guard
    theirs = (is_member_now ring plan w x.0, NotMember x.0) ∷ up_guard w.up x ∷ (not (serves_in ring plan w (put_slot ring w v i).partition x.0), KeeperInPartition)
        ∷ (not (keeps_other ring w x.0 (put_slot ring w v i)), KeeperTaken) ∷ []

    alike : (serves ≡ serves_in ring plan w (put_slot ring w v i).partition x.0) × (other ≡ keeps_other ring w x.0 (put_slot ring w v i)) → mine ≡ theirs
    alike s = pair_is _ _ _ _ (NotMember x.0) (NodeDown x.0) _ _ (m.members x.0) (m.up x.0) (pair_is _ _ _ _ KeeperInPartition KeeperTaken [] [] (ap not s.0) (ap not s.1) refl)

-- what handing hints over needs
pub handoff_kept : (ring : RingValue) (plan : List Planned) (nodes : List NodeNow) (rows : List (List SlotNow)) (w : World) (kept : Bool) (x : NodeId) (s : Slot) → NodesMeet ring plan nodes w → SlotsMeet ring plan rows w
    → (is_ring_slot ring s ≡ true → kept ≡ keeps w x.0 s) → first_failing (handoff_guards_kept ring nodes rows kept x s) ≡ first_failing (guards ring plan w (Handoff x s))
unfolding guards
handoff_kept ring plan nodes rows w kept x s m t h = asked (is_ring_slot ring s) (is_ring_slot ring s) UnknownNumber mine theirs refl (λ e. ap first_failing (alike e))
  where
    mine : List Guard
    mine = (kept, AlreadyDone) ∷ up_guard (is_up_at nodes) x ∷ served_up_kept nodes rows s

    theirs : List Guard
    theirs = (keeps w x.0 s, AlreadyDone) ∷ up_guard w.up x ∷ served_up ring plan w s

    alike : is_ring_slot ring s ≡ true → mine ≡ theirs
    alike e = pair_is _ _ _ _ AlreadyDone (NodeDown x.0) _ _ (h e) (m.up x.0) (served_kept ring plan nodes rows w s m t e)

-- what of a get that is there a read of the slot needs
pub record ReadMeets (ring : RingValue) (w : World) (g i : ℕ) (ended was_read : Bool) (kept : ℕ → Bool) (slot : Slot) : Type 0 where
  pub reply : ended ≡ has_ended w g
  pub read : was_read ≡ is_some (found_at w g i)
  pub keepers : (x : ℕ) → kept x ≡ keeps_of_key w (key_of_get w g) (get_slot ring w g i) x
  pub place : slot ≡ get_slot ring w g i
  pub partition : slot.partition < ring.q

-- what reading a slot needs
pub read_kept : (ring : RingValue) (plan : List Planned) (nodes : List NodeNow) (rows : List (List SlotNow)) (w : World) (exists ended was_read : Bool) (kept : ℕ → Bool) (slot : Slot) (g i : ℕ) → NodesMeet ring plan nodes w → SlotsMeet ring plan rows w
    → exists ≡ get_exists ring w g i → (exists ≡ true → ReadMeets ring w g i ended was_read kept slot)
    → first_failing (read_guards_kept ring nodes rows exists ended was_read kept slot) ≡ first_failing (guards ring plan w (Read g i))
unfolding guards
read_kept ring plan nodes rows w exists ended was_read kept slot g i m t same there = asked exists (get_exists ring w g i) UnknownNumber mine theirs same (λ e. ap first_failing (alike e (there (same ∙ e))))
  where
    s : Slot
    s = get_slot ring w g i

    mine : List Guard
    mine = (not ended, AlreadyDone) ∷ (not was_read, AlreadyDone) ∷ (owner_up_kept nodes rows slot ++ nodes_up (is_up_at nodes) (length ring.nodes) kept)

    theirs : List Guard
    theirs = (not (has_ended w g), AlreadyDone) ∷ (not (is_some (found_at w g i)), AlreadyDone)
        ∷ (up_guard w.up (stage_now ring plan w s).owner ∷ nodes_up w.up (length ring.nodes) (keeps_of_key w (key_of_get w g) s))

    alike : get_exists ring w g i ≡ true → ReadMeets ring w g i ended was_read kept slot → mine ≡ theirs
    alike e r =
        let b = and_parts (nat_lt g (length w.gets)) (nat_lt i ring.n) e in
        let l : s.partition < ring.q = (let z = ap (λ (x : Slot). x.partition) r.place in let k = r.partition in omega arith) in
        let h = t.each s (and_from (nat_lt s.partition ring.q) (nat_lt i ring.n) (lt-ltb s.partition ring.q l) b.1) in
        let up : is_up_at nodes ≡ w.up = fun_ext m.up in
        let keepers : kept ≡ keeps_of_key w (key_of_get w g) s = fun_ext r.keepers in
        pair_is _ _ _ _ AlreadyDone AlreadyDone _ _ (ap not r.reply) (ap not r.read)
        (ap (λ (x : Slot). owner_up_kept nodes rows x ++ nodes_up (is_up_at nodes) (length ring.nodes) kept) r.place
        ∙ ap (λ (o : Option SlotNow). (elim o as (λ _. List Guard) [ Some a ↦ up_guard (is_up_at nodes) a.owner ∷ [] | None ↦ [] ]) ++ nodes_up (is_up_at nodes) (length ring.nodes) kept) h.1
        ∙ ap (λ (x : NodeId). up_guard (is_up_at nodes) x ∷ nodes_up (is_up_at nodes) (length ring.nodes) kept) h.2.owner
        ∙ ap (λ (f : ℕ → Bool). up_guard f (stage_now ring plan w s).owner ∷ nodes_up f (length ring.nodes) kept) up
        ∙ ap (λ (f : ℕ → Bool). up_guard w.up (stage_now ring plan w s).owner ∷ nodes_up w.up (length ring.nodes) f) keepers)

-- ---- the group of a slot

-- who is in it
pub group_kept : (ring : RingValue) (plan : List Planned) (rows : List (List SlotNow)) (w : World) (slot : Slot) (x : ℕ) (kept : Bool) → SlotsMeet ring plan rows w → is_ring_slot ring slot ≡ true → kept ≡ keeps w x slot
    → (is_served_kept rows slot x || kept) ≡ is_in_group ring plan w slot x
group_kept ring plan rows w slot x kept t h k =
    ap (λ (b : Bool). b || kept) (server_kept ring plan rows w slot x t h) ∙ ap (λ (b : Bool). is_served (stage_now ring plan w slot) x || b) k

-- a store is lost: each slot that the node serves, or for which it keeps a hint, has a generation more
pub slots_lose_kept : (ring : RingValue) (plan : List Planned) (w : World) (x : NodeId) (old new : List (List SlotNow)) (kept : Slot → Bool) → SlotsMeet ring plan old w
    → ((t : Slot) → is_ring_slot ring t ≡ true → kept t ≡ keeps w x.0 t)
    → ((t : Slot) → slot_now new t ≡ (if is_served_kept old t x.0 || kept t then option_map (λ (a : SlotNow). record a { generation = a.generation + 1 }) (slot_now old t) else slot_now old t))
    → SlotsMeet ring plan new (effect ring plan w (Lose x))
slots_lose_kept ring plan w x old new kept t k change = slots_lose ring plan w x old new t (λ s. change s ∙ by s (is_ring_slot ring s) refl)
  where
    raised : SlotNow → SlotNow
    raised a = record a { generation = a.generation + 1 }

    none : (b c : Bool) → ◌≡◌ {A = Option SlotNow} (cond b (option_map raised None) None) (cond c (option_map raised None) None)
    none true true = refl
    none true false = refl
    none false true = refl
    none false false = refl

    by : (s : Slot) (b : Bool) → is_ring_slot ring s ≡ b
        → cond (is_served_kept old s x.0 || kept s) (option_map raised (slot_now old s)) (slot_now old s) ≡ cond (is_in_group ring plan w s x.0) (option_map raised (slot_now old s)) (slot_now old s)
    by s true e = ap (λ (b : Bool). cond b (option_map raised (slot_now old s)) (slot_now old s)) (group_kept ring plan old w s x.0 (kept s) t e (k s e))
    by s false e = subst (λ (o : Option SlotNow). cond (is_served_kept old s x.0 || kept s) (option_map raised o) o ≡ cond (is_in_group ring plan w s x.0) (option_map raised o) o)
        (sym (t.others s e)) (none (is_served_kept old s x.0 || kept s) (is_in_group ring plan w s x.0))
