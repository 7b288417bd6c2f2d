-- What an event needs in a part and in the whole.
use Rattle.std.proofs.Common.{◌≡◌, inl, inr, ◌∙◌, ℕ, ◌<◌, Bool, true, false, not, List, [], ◌∷◌, ◌++◌, length, map, refl, sym, ap, subst, arith, lt-ltb, eqb-true, eq-eqb}
use Rattle.std.proofs.Math.Path.{fun_ext}
use Rattle.std.specs.Prelude.{◌&&◌, ◌==◌, nat_lt, Some, None, is_some}
use Rattle.std.specs.List.{list_any}
use Rattle.std.proofs.lemmas.Bool.{and_parts, and_from, or_cases, or_left, or_right}
use Rattle.ring_names.specs.Lists.{has}
use Rattle.ring_names.specs.declared.ids.Slot.{Slot}
use Rattle.ring_names.specs.declared.ids.NodeId.{NodeId}
use Rattle.ring_names.specs.declared.refusal.Refusal.{Refusal}
use Rattle.ring_names.specs.declared.refusal.Refusal.TheVariants.{NotMember, NodeDown, UnknownNumber, AlreadyDone, KeeperInPartition, KeeperTaken}
use Rattle.ring_space.specs.Place.{place_of}
use Rattle.ring_table.specs.Value.{RingValue}
use Rattle.plan_text.specs.Valid.{is_ring_slot}
use Rattle.plan_text.specs.declared.step.Source.{Source}
use Rattle.plan_text.specs.declared.step.Source.TheVariants as source
use Rattle.plan_text.specs.declared.step.Step.{Step}
use Rattle.plan_text.specs.declared.step.Step.TheVariants as step
use Rattle.plan_text.specs.declared.step.Planned.{Planned}
use Rattle.plan_stage.specs.Parties.{source_slots}
use Rattle.plan_stage.specs.Clauses.{Guard}
use Rattle.plan_runs.specs.World.{World, some_below, passing_below, key_of_put, key_of_get, ticket_of, found_at, reply_of, stage_now, generation, is_of_key, is_member_now, slot_at, keeps, keeps_other, keeps_any, is_served}
use Rattle.plan_runs.specs.Versions.{put_slot, get_slot, is_in_chunk}
use Rattle.plan_runs.specs.Reached.{Reached}
use Rattle.plan_runs.specs.Guards.{slot_up, served_up, up_guard, nodes_up, put_exists, serves_in, is_current, current_tickets, has_ended, get_exists, slots_read, keeps_of_key, keeps_source, step_guards, write_guards, hint_guards, ack_guards, read_guards, end_get_guards, handoff_guards}
use Rattle.plan_runs.proofs.Passed.{AllMet}
use Rattle.plan_runs.proofs.Passing.{some_found, some_is, below_is, is_below}
use Rattle.history_laws.specs.Parts.{is_of_part, number_in}
use Rattle.history_laws.proofs.Numbers.{number_less, number_found, is_less}
use Rattle.history_laws.proofs.Follows.{Follows, numbers_some, stage_same, member_same, same_ticket, same_acked, same_found, same_reply, put_mark, puts_marked, puts_size, gets_marked, gets_size, some_put_same, keeps_same, keeps_whole, some_alike, passing_alike, other_same, same_slot, asked_slot}
use Rattle.history_laws.proofs.Successions.{put_there}
use Rattle.history_laws.proofs.Effects.{slot_generation, of_key_mine, key_same, chunk_same}

-- ---- guards that are the same

more : (a b : Bool) (f g : Refusal) (xs ys : List Guard) → a ≡ b → f ≡ g → xs ≡ ys → ◌≡◌ {A = List Guard} ((a, f) ∷ xs) ((b, g) ∷ ys)
more a b f g xs ys d e t = ap (λ (z : Bool). (z, f) ∷ xs) d ∙ (ap (λ (z : Refusal). (b, z) ∷ xs) e ∙ ap (λ (z : List Guard). (b, g) ∷ z) t)

served_up_same : (ring : RingValue) (plan : List Planned) (w u : World) (s : Slot) → u.done ≡ w.done → u.up ≡ w.up → served_up ring plan u s ≡ served_up ring plan w s
served_up_same ring plan w u s d e = ap (λ z. slot_up u.up z.owner z.mirror) (stage_same ring plan w u s d) ∙ ap (λ f. slot_up f (stage_now ring plan w s).owner (stage_now ring plan w s).mirror) e

pub nodes_up_same : (f g : ℕ → Bool) (n : ℕ) (s t : ℕ → Bool) → f ≡ g → ((x : ℕ) → s x ≡ t x) → nodes_up f n s ≡ nodes_up g n t
nodes_up_same f g n s t e h = ap (λ z. nodes_up z n s) e ∙ ap (nodes_up g n) (fun_ext h)

pub write_guards_same : (ring : RingValue) (plan : List Planned) (is_in : ℕ → Bool) (ps gs : List Bool) (w u : World) (v i : ℕ) → Follows ring is_in ps gs w u → is_of_part ps v ≡ true → write_guards ring plan u (number_in ps v) i ≡ write_guards ring plan w v i
write_guards_same ring plan is_in ps gs w u v i r h = more (put_exists ring u (number_in ps v) i) (put_exists ring w v i) UnknownNumber UnknownNumber (served_up ring plan u (put_slot ring u (number_in ps v) i)) (served_up ring plan w (put_slot ring w v i))
    (ap (λ b. b && nat_lt i ring.n) (put_there ring is_in ps gs w u v r h)) refl
    (ap (served_up ring plan u) (same_slot ring is_in ps gs w u v i r h) ∙ served_up_same ring plan w u (put_slot ring w v i) r.done r.up)

serves_same : (ring : RingValue) (plan : List Planned) (w u : World) (p x : ℕ) → u.done ≡ w.done → serves_in ring plan u p x ≡ serves_in ring plan w p x
serves_same ring plan w u p x d = some_alike ring.n (λ i. is_served (stage_now ring plan u (slot_at p i)) x) (λ i. is_served (stage_now ring plan w (slot_at p i)) x) (λ i. ap (λ z. is_served z x) (stage_same ring plan w u (slot_at p i) d))

pub hint_guards_same : (ring : RingValue) (plan : List Planned) (is_in : ℕ → Bool) (ps gs : List Bool) (w u : World) (v i : ℕ) (x : NodeId) → Reached ring plan w → Follows ring is_in ps gs w u → is_of_part ps v ≡ true → is_in (put_slot ring w v i).partition ≡ true
    → hint_guards ring plan u (number_in ps v) i x ≡ hint_guards ring plan w v i x
hint_guards_same ring plan is_in ps gs w u v i x j r h k = ap (λ s. guards_at (put_exists ring u (number_in ps v) i) s u) (same_slot ring is_in ps gs w u v i r h)
    ∙ more (put_exists ring u (number_in ps v) i) (put_exists ring w v i) UnknownNumber UnknownNumber (after s u) (after s w) (ap (λ b. b && nat_lt i ring.n) (put_there ring is_in ps gs w u v r h)) refl
    (more (is_member_now ring plan u x.0) (is_member_now ring plan w x.0) (NotMember x.0) (NotMember x.0) (after_up s u) (after_up s w) (member_same ring plan w u x.0 r.done) refl
    (more (u.up x.0) (w.up x.0) (NodeDown x.0) (NodeDown x.0) (after_served s u) (after_served s w) (ap (λ f. f x.0) r.up) refl
    (more (not (serves_in ring plan u s.partition x.0)) (not (serves_in ring plan w s.partition x.0)) KeeperInPartition KeeperInPartition (last s u) (last s w) (ap not (serves_same ring plan w u s.partition x.0 r.done)) refl
    (more (not (keeps_other ring u x.0 s)) (not (keeps_other ring w x.0 s)) KeeperTaken KeeperTaken [] [] (ap not (other_same ring plan is_in ps gs w u x.0 s j r k)) refl refl))))
  where
    s : Slot
    s = put_slot ring w v i

    last : Slot → World → List Guard
    last t z = (not (keeps_other ring z x.0 t), KeeperTaken) ∷ []

    after_served : Slot → World → List Guard
    after_served t z = (not (serves_in ring plan z t.partition x.0), KeeperInPartition) ∷ last t z

    after_up : Slot → World → List Guard
    after_up t z = up_guard z.up x ∷ after_served t z

    after : Slot → World → List Guard
    after t z = (is_member_now ring plan z x.0, NotMember x.0) ∷ after_up t z

    guards_at : Bool → Slot → World → List Guard
    guards_at b t z = (b, UnknownNumber) ∷ after t z

current_same : (ring : RingValue) (plan : List Planned) (is_in : ℕ → Bool) (ps gs : List Bool) (w u : World) (v i : ℕ) → Follows ring is_in ps gs w u → is_of_part ps v ≡ true → is_current ring plan u (number_in ps v) i ≡ is_current ring plan w v i
current_same ring plan is_in ps gs w u v i r h =
    ap (λ o. elim o [ Some g ↦ g == generation plan u (put_slot ring u (number_in ps v) i) | None ↦ false ]) (same_ticket ring is_in ps gs w u v i r h)
    ∙ ap (λ n. elim (ticket_of w v i) [ Some g ↦ g == n | None ↦ false ]) (slot_generation ring plan is_in ps gs w u v i r h)

tickets_same : (ring : RingValue) (plan : List Planned) (is_in : ℕ → Bool) (ps gs : List Bool) (w u : World) (v : ℕ) → Follows ring is_in ps gs w u → is_of_part ps v ≡ true → current_tickets ring plan u (number_in ps v) ≡ current_tickets ring plan w v
tickets_same ring plan is_in ps gs w u v r h = ap length (passing_alike ring.n (is_current ring plan u (number_in ps v)) (is_current ring plan w v) (λ i. current_same ring plan is_in ps gs w u v i r h))

pub ack_guards_same : (ring : RingValue) (plan : List Planned) (is_in : ℕ → Bool) (ps gs : List Bool) (w u : World) (v : ℕ) → Follows ring is_in ps gs w u → is_of_part ps v ≡ true → ack_guards ring plan u (number_in ps v) ≡ ack_guards ring plan w v
ack_guards_same ring plan is_in ps gs w u v r h = rw (put_there ring is_in ps gs w u v r h, same_acked ring is_in ps gs w u v r h, tickets_same ring plan is_in ps gs w u v r h) refl

-- ---- gets

pub get_there : (ring : RingValue) (is_in : ℕ → Bool) (ps gs : List Bool) (w u : World) (g : ℕ) → Follows ring is_in ps gs w u → is_of_part gs g ≡ true → nat_lt (number_in gs g) (length u.gets) ≡ nat_lt g (length w.gets)
get_there ring is_in ps gs w u g r h =
    let a = number_less gs g h in
    let b = gets_size ring is_in ps gs w u r in
    let c = is_less gs g h in
    let d = gets_marked ring is_in ps gs w u r in
    lt-ltb (number_in gs g) (length u.gets) (omega arith) ∙ sym (lt-ltb g (length w.gets) (omega arith))

pub ended_same : (ring : RingValue) (is_in : ℕ → Bool) (ps gs : List Bool) (w u : World) (g : ℕ) → Follows ring is_in ps gs w u → is_of_part gs g ≡ true → has_ended u (number_in gs g) ≡ has_ended w g
ended_same ring is_in ps gs w u g r h = numbers_some ps (reply_of w g) (reply_of u (number_in gs g)) (same_reply ring is_in ps gs w u g r h)

read_same_slot : (ring : RingValue) (is_in : ℕ → Bool) (ps gs : List Bool) (w u : World) (g i : ℕ) → Follows ring is_in ps gs w u → is_of_part gs g ≡ true → is_some (found_at u (number_in gs g) i) ≡ is_some (found_at w g i)
read_same_slot ring is_in ps gs w u g i r h = numbers_some ps (found_at w g i) (found_at u (number_in gs g) i) (same_found ring is_in ps gs w u g i r h)

keeps_key_same : (ring : RingValue) (is_in : ℕ → Bool) (ps gs : List Bool) (w u : World) (g x : ℕ) (s : Slot) → Follows ring is_in ps gs w u → is_of_part gs g ≡ true → keeps_of_key u (key_of_get u (number_in gs g)) s x ≡ keeps_of_key w (key_of_get w g) s x
keeps_key_same ring is_in ps gs w u g x s r h = some_put_same ring is_in ps gs w u (λ v. is_of_key u (key_of_get u (number_in gs g)) v && u.hinted x s v) (λ v. is_of_key w (key_of_get w g) v && w.hinted x s v) r record {
  same = λ v m. (
      ap (λ b. b && u.hinted x s (number_in ps v)) (key_same ring is_in ps gs w u g v r h m) ∙ ap (λ b. is_of_key w (key_of_get w g) v && b) (r.hinted x s v m));
  only = λ v l e. (let k = puts_marked ring is_in ps gs w u r in of_key_mine ring is_in ps gs w u g v r h (omega arith) (and_parts (is_of_key w (key_of_get w g) v) (w.hinted x s v) e).0);
}

pub read_guards_same : (ring : RingValue) (plan : List Planned) (is_in : ℕ → Bool) (ps gs : List Bool) (w u : World) (g i : ℕ) → Follows ring is_in ps gs w u → is_of_part gs g ≡ true → read_guards ring plan u (number_in gs g) i ≡ read_guards ring plan w g i
read_guards_same ring plan is_in ps gs w u g i r h =
    more (get_exists ring u (number_in gs g) i) (get_exists ring w g i) UnknownNumber UnknownNumber (after_there u (number_in gs g)) (after_there w g) (ap (λ b. b && nat_lt i ring.n) (get_there ring is_in ps gs w u g r h)) refl
    (more (not (has_ended u (number_in gs g))) (not (has_ended w g)) AlreadyDone AlreadyDone (after_ended u (number_in gs g)) (after_ended w g) (ap not (ended_same ring is_in ps gs w u g r h)) refl
    (more (not (is_some (found_at u (number_in gs g) i))) (not (is_some (found_at w g i))) AlreadyDone AlreadyDone (nodes u (number_in gs g)) (nodes w g) (ap not (read_same_slot ring is_in ps gs w u g i r h)) refl
    (ap (λ s. nodes_of u (number_in gs g) s) (asked_slot ring is_in ps gs w u g i r h)
    ∙ (ap (λ (l : List Guard). up_guard u.up (stage_now ring plan u (get_slot ring w g i)).owner ∷ l)
    (nodes_up_same u.up w.up (length ring.nodes) (keeps_of_key u (key_of_get u (number_in gs g)) (get_slot ring w g i)) (keeps_of_key w (key_of_get w g) (get_slot ring w g i)) r.up (λ x. keeps_key_same ring is_in ps gs w u g x (get_slot ring w g i) r h))
    ∙ (ap (λ (z : ℕ → Bool). up_guard z (stage_now ring plan u (get_slot ring w g i)).owner ∷ nodes_up w.up (length ring.nodes) (keeps_of_key w (key_of_get w g) (get_slot ring w g i))) r.up
    ∙ ap (λ z. up_guard w.up z.owner ∷ nodes_up w.up (length ring.nodes) (keeps_of_key w (key_of_get w g) (get_slot ring w g i))) (stage_same ring plan w u (get_slot ring w g i) r.done))))))
  where
    nodes_of : World → ℕ → Slot → List Guard
    nodes_of z k s = up_guard z.up (stage_now ring plan z s).owner ∷ nodes_up z.up (length ring.nodes) (keeps_of_key z (key_of_get z k) s)

    nodes : World → ℕ → List Guard
    nodes z k = nodes_of z k (get_slot ring z k i)

    after_ended : World → ℕ → List Guard
    after_ended z k = (not (is_some (found_at z k i)), AlreadyDone) ∷ nodes z k

    after_there : World → ℕ → List Guard
    after_there z k = (not (has_ended z k), AlreadyDone) ∷ after_ended z k

slots_same : (ring : RingValue) (is_in : ℕ → Bool) (ps gs : List Bool) (w u : World) (g : ℕ) → Follows ring is_in ps gs w u → is_of_part gs g ≡ true → slots_read ring u (number_in gs g) ≡ slots_read ring w g
slots_same ring is_in ps gs w u g r h = ap length (passing_alike ring.n (λ i. is_some (found_at u (number_in gs g) i)) (λ i. is_some (found_at w g i)) (λ i. read_same_slot ring is_in ps gs w u g i r h))

pub end_get_guards_same : (ring : RingValue) (is_in : ℕ → Bool) (ps gs : List Bool) (w u : World) (g : ℕ) → Follows ring is_in ps gs w u → is_of_part gs g ≡ true → end_get_guards ring u (number_in gs g) ≡ end_get_guards ring w g
end_get_guards_same ring is_in ps gs w u g r h = rw (get_there ring is_in ps gs w u g r h, ended_same ring is_in ps gs w u g r h, slots_same ring is_in ps gs w u g r h) refl

-- ---- nodes

pub handoff_guards_same : (ring : RingValue) (plan : List Planned) (is_in : ℕ → Bool) (ps gs : List Bool) (w u : World) (x : NodeId) (s : Slot) → Reached ring plan w → Follows ring is_in ps gs w u → is_in s.partition ≡ true → handoff_guards ring plan u x s ≡ handoff_guards ring plan w x s
handoff_guards_same ring plan is_in ps gs w u x s i r h =
    more (is_ring_slot ring s) (is_ring_slot ring s) UnknownNumber UnknownNumber ((keeps u x.0 s, AlreadyDone) ∷ up_guard u.up x ∷ served_up ring plan u s) ((keeps w x.0 s, AlreadyDone) ∷ up_guard w.up x ∷ served_up ring plan w s) refl refl
    (more (keeps u x.0 s) (keeps w x.0 s) AlreadyDone AlreadyDone (up_guard u.up x ∷ served_up ring plan u s) (up_guard w.up x ∷ served_up ring plan w s) (keeps_same ring plan is_in ps gs w u x.0 s i r h) refl
    (more (u.up x.0) (w.up x.0) (NodeDown x.0) (NodeDown x.0) (served_up ring plan u s) (served_up ring plan w s) (ap (λ f. f x.0) r.up) refl (served_up_same ring plan w u s r.done r.up)))

-- ---- steps and copies

-- the whole with what it shares with the part is the whole
pub shared : (ring : RingValue) (is_in : ℕ → Bool) (ps gs : List Bool) (w u : World) → Follows ring is_in ps gs w u → record w { done = u.done; is_open = u.is_open; marked = u.marked; up = u.up; losses = u.losses } ≡ w
shared ring is_in ps gs w u r =
    ap (λ (f : ℕ → Bool). record w { done = f; is_open = u.is_open; marked = u.marked; up = u.up; losses = u.losses }) r.done
    ∙ (ap (λ (f : ℕ → Bool). record w { is_open = f; marked = u.marked; up = u.up; losses = u.losses }) r.is_open
    ∙ (ap (λ (f : ℕ → ℕ → Bool). record w { marked = f; up = u.up; losses = u.losses }) r.marked
    ∙ (ap (λ (f : ℕ → Bool). record w { up = f; losses = u.losses }) r.up
    ∙ ap (λ (n : ℕ). record w { losses = n }) r.losses)))

-- a node that keeps nothing in the whole keeps nothing in the part
pub any_whole : (ring : RingValue) (is_in : ℕ → Bool) (ps gs : List Bool) (w u : World) (x : ℕ) → Follows ring is_in ps gs w u → keeps_any ring u x ≡ true → keeps_any ring w x ≡ true
any_whole ring is_in ps gs w u x r e =
    let p = some_found ring.q (λ q. some_below ring.n (λ i. keeps u x (slot_at q i))) e in
    let i = some_found ring.n (λ i. keeps u x (slot_at p.0 i)) p.2 in
    some_is ring.q (λ q. some_below ring.n (λ i. keeps w x (slot_at q i))) p.0 p.1
    (some_is ring.n (λ i. keeps w x (slot_at p.0 i)) i.0 i.1 (keeps_whole ring is_in ps gs w u x (slot_at p.0 i.0) r i.2))

pub other_whole : (ring : RingValue) (is_in : ℕ → Bool) (ps gs : List Bool) (w u : World) (x : ℕ) (s : Slot) → Follows ring is_in ps gs w u → keeps_other ring u x s ≡ true → keeps_other ring w x s ≡ true
other_whole ring is_in ps gs w u x s r e =
    let i = some_found ring.n (λ j. not (j == s.index) && keeps u x (slot_at s.partition j)) e in
    let b = and_parts (not (i.0 == s.index)) (keeps u x (slot_at s.partition i.0)) i.2 in
    some_is ring.n (λ j. not (j == s.index) && keeps w x (slot_at s.partition j)) i.0 i.1 (and_from (not (i.0 == s.index)) (keeps w x (slot_at s.partition i.0)) b.0 (keeps_whole ring is_in ps gs w u x (slot_at s.partition i.0) r b.1))

pub not_so : (a b : Bool) → (b ≡ true → a ≡ true) → not a ≡ true → not b ≡ true
not_so a false f e = refl
not_so true true f e = absurd cc
not_so false true f e = absurd (let g = f refl in cc)

pub step_in : (ring : RingValue) (is_in : ℕ → Bool) (ps gs : List Bool) (w u : World) (s : Step) → Follows ring is_in ps gs w u → AllMet (step_guards ring w s) → AllMet (step_guards ring u s)
step_in ring is_in ps gs w u (step.Join x) r m = tt
step_in ring is_in ps gs w u (step.Mirror s x) r m = (ap (λ f. f x.0) r.up ∙ m.0, (not_so (keeps_other ring w x.0 s) (keeps_other ring u x.0 s) (other_whole ring is_in ps gs w u x.0 s r) m.1.0, tt))
step_in ring is_in ps gs w u (step.Copy s from) r m = tt
step_in ring is_in ps gs w u (step.Switch s) r m = tt
step_in ring is_in ps gs w u (step.Drop s x) r m = (ap (λ f. f x.0) r.up ∙ m.0, tt)
step_in ring is_in ps gs w u (step.Retire x) r m = (not_so (keeps_any ring w x.0) (keeps_any ring u x.0) (any_whole ring is_in ps gs w u x.0 r) m.0, tt)

-- ---- nodes by number

pub map_met : (up : ℕ → Bool) (xs : List ℕ) → ((x : ℕ) → has x xs ≡ true → up x ≡ true) → AllMet (map (λ x. (up x, NodeDown x)) xs)
map_met up [] h = tt
map_met up (x ∷ xs) h = (h x (or_left (x == x) (has x xs) (eq-eqb x x refl)), map_met up xs (λ y e. h y (or_right (y == x) (has y xs) e)))

pub met_map : (up : ℕ → Bool) (xs : List ℕ) → AllMet (map (λ x. (up x, NodeDown x)) xs) → (x : ℕ) → has x xs ≡ true → up x ≡ true
met_map up [] m x h = absurd cc
met_map up (y ∷ xs) m x h = elim (or_cases (x == y) (has x xs) h) [
  | inl f ↦ ap up (eqb-true x y f) ∙ m.0
  | inr f ↦ met_map up xs m.1 x f
]

pub fewer_up : (up : ℕ → Bool) (n : ℕ) (few many : ℕ → Bool) → ((x : ℕ) → few x ≡ true → many x ≡ true) → AllMet (nodes_up up n many) → AllMet (nodes_up up n few)
fewer_up up n few many h m = map_met up (passing_below n few) (λ x e. (let b = below_is n few x e in met_map up (passing_below n many) m x (is_below n many x b.0 (h x b.1))))

pub front_met : (xs ys : List Guard) → AllMet (xs ++ ys) → AllMet xs × AllMet ys
front_met [] ys m = (tt, m)
front_met (x ∷ xs) ys m = (let b = front_met xs ys m.1 in ((m.0, b.0), b.1))

pub both_met : (xs ys : List Guard) → AllMet xs → AllMet ys → AllMet (xs ++ ys)
both_met [] ys m n = n
both_met (x ∷ xs) ys m n = (m.0, both_met xs ys m.1 n)

-- ---- keepers of a chunk

-- a keeper in the part is one in the whole
pub source_whole : (ring : RingValue) (is_in : ℕ → Bool) (ps gs : List Bool) (w u : World) (s : Slot) (from : Source) (c x : ℕ) → Follows ring is_in ps gs w u → keeps_source ring u s from c x ≡ true → keeps_source ring w s from c x ≡ true
source_whole ring is_in ps gs w u s source.Owner c x r e = absurd cc
source_whole ring is_in ps gs w u s (source.Slots from) c x r e = any_so (λ t. some_below (length u.puts) (λ v. is_in_chunk ring u s c v && u.hinted x t v)) (λ t. some_below (length w.puts) (λ v. is_in_chunk ring w s c v && w.hinted x t v)) (source_slots s (source.Slots from)) one e
  where
    any_so : (f g : Slot → Bool) (xs : List Slot) → ((t : Slot) → f t ≡ true → g t ≡ true) → list_any f xs ≡ true → list_any g xs ≡ true
    any_so f g [] h e = absurd cc
    any_so f g (t ∷ xs) h e = elim (or_cases (f t) (list_any f xs) e) [
      | inl a ↦ or_left (g t) (list_any g xs) (h t a)
      | inr a ↦ or_right (g t) (list_any g xs) (any_so f g xs h a)
    ]

    one : (t : Slot) → some_below (length u.puts) (λ v. is_in_chunk ring u s c v && u.hinted x t v) ≡ true → some_below (length w.puts) (λ v. is_in_chunk ring w s c v && w.hinted x t v) ≡ true
    one t e =
        let f = some_found (length u.puts) (λ v. is_in_chunk ring u s c v && u.hinted x t v) e in
        let z = puts_size ring is_in ps gs w u r in
        let l : f.0 < length u.puts = f.1 in
        let n = number_found ps f.0 (omega arith) in
        let m = is_less ps n.0 n.1 in
        let k = puts_marked ring is_in ps gs w u r in
        let b = and_parts (is_in_chunk ring u s c (number_in ps n.0)) (u.hinted x t (number_in ps n.0)) (subst (λ y. (is_in_chunk ring u s c y && u.hinted x t y) ≡ true) (sym n.2) f.2) in
        some_is (length w.puts) (λ v. is_in_chunk ring w s c v && w.hinted x t v) n.0 (omega arith)
        (and_from (is_in_chunk ring w s c n.0) (w.hinted x t n.0) (sym (chunk_same ring is_in ps gs w u s c n.0 r n.1) ∙ b.0) (sym (r.hinted x t n.0 n.1) ∙ b.1))

-- where the slot is of the part, the keepers are the same
pub source_same_keepers : (ring : RingValue) (is_in : ℕ → Bool) (ps gs : List Bool) (w u : World) (s : Slot) (from : Source) (c x : ℕ) → Follows ring is_in ps gs w u → is_in s.partition ≡ true → keeps_source ring u s from c x ≡ keeps_source ring w s from c x
source_same_keepers ring is_in ps gs w u s source.Owner c x r h = refl
source_same_keepers ring is_in ps gs w u s (source.Slots from) c x r h = ap (λ f. list_any f (source_slots s (source.Slots from))) (fun_ext one)
  where
    one : (t : Slot) → some_below (length u.puts) (λ v. is_in_chunk ring u s c v && u.hinted x t v) ≡ some_below (length w.puts) (λ v. is_in_chunk ring w s c v && w.hinted x t v)
    one t = some_put_same ring is_in ps gs w u (λ v. is_in_chunk ring u s c v && u.hinted x t v) (λ v. is_in_chunk ring w s c v && w.hinted x t v) r record {
      same = λ v m. ap (λ b. b && u.hinted x t (number_in ps v)) (chunk_same ring is_in ps gs w u s c v r m) ∙ ap (λ b. is_in_chunk ring w s c v && b) (r.hinted x t v m);
      only = λ v l e. (
          let k = puts_marked ring is_in ps gs w u r in
          let b = and_parts (is_in_chunk ring w s c v) (w.hinted x t v) e in
          let p = and_parts ((place_of ring.q (key_of_put w v)).partition == s.partition) ((place_of ring.q (key_of_put w v)).chunk == c) b.0 in
          put_mark ring is_in ps gs w u v r (omega arith) ∙ (ap is_in (eqb-true (place_of ring.q (key_of_put w v)).partition s.partition p.0) ∙ h));
    }
