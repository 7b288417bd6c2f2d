-- What a change of one map in a row is for nodes, slots and keys.
use Rattle.std.proofs.Common.{◌≡◌, ◌≢◌, ◌∙◌, ◌⊎◌, inl, inr, ◌+◌, ◌*◌, ◌<◌, ℕ, Bool, true, false, cond, nat_eq, nat_lt, List, [], refl, sym, ap, subst, Option, Some, None, arith}
use Rattle.std.specs.Prelude.{◌&&◌, ◌||◌, ◌==◌}
use Rattle.std.proofs.Math.Path.{fun_ext}
use Rattle.std.proofs.lemmas.Bool.{cases_Bool, cases_eq, eq-eqb, eqb-true, lt-ltb, ltb-true}
use Rattle.ring_names.proofs.Logic.{eqb_turned}
use Rattle.ring_names.specs.declared.ids.NodeId.{NodeId}
use Rattle.ring_names.specs.declared.ids.Slot.{Slot}
use Rattle.ring_versions.specs.Versions.{IsApart, IsMerge}
use Rattle.ring_versions.specs.declared.version.Version.{Version}
use Rattle.store_maps.specs.Chunks.{held_of}
use Rattle.store_maps.specs.Ids.{id, of_chunk}
use Rattle.store_maps.specs.Merges.{MergesAll, at_key, at_number}
use Rattle.store_maps.specs.declared.key_id.KeyId.{KeyId}
use Rattle.store_maps.proofs.Chunks.{apart_of}
use Rattle.store_maps.proofs.MergesInTurn.{merge_none, merge_then_none, merge_after_none}
use Rattle.ring_store.specs.Nodes.{MergesAtAll, at_node, at_nodes}
use Rattle.ring_store.specs.Seats.{seat_of}
use Rattle.ring_store.specs.Slots.{same_slot, at_slot}
use Rattle.ring_store.specs.Stores.{held_at, map_on, Changes}
use Rattle.ring_store.specs.declared.seat.Seat.{Seat}
use Rattle.ring_store.specs.declared.stores.Stores.{Stores}

-- ---- what comes to a spot: the keys of a chunk of a slot at a node

same_itself : (a : Slot) → same_slot a a ≡ true
same_itself a = let p = eq-eqb a.partition a.partition refl in let i = eq-eqb a.index a.index refl in rw p (rw i refl)

both_true : (a b : Bool) → (a && b) ≡ true → (a ≡ true) × (b ≡ true)
both_true true b h = (refl, h)
both_true false b h = absurd cc

pub slot_same : (a b : Slot) → same_slot a b ≡ true → b ≡ a
slot_same a b h =
    let t = both_true _ _ h in
    let p : a.partition ≡ b.partition = eqb-true a.partition b.partition t.0 in
    let i : a.index ≡ b.index = eqb-true a.index b.index t.1 in
    (λ j. record { partition = sym p j; index = sym i j })

chosen : (b : Bool) (v : List Version) → b ≡ true → cond b v [] ≡ v
chosen true v e = refl
chosen false v e = absurd cc

-- if a choice is something, it was made
pub unless : (b : Bool) (v : List Version) → (b ≡ true → v ≡ []) → cond b v [] ≡ []
unless true v none = none refl
unless false v none = refl

pub key_of_chunk : (key : KeyId) (versions : List Version) → of_chunk key.chunk (at_number key.number versions) ≡ at_key key versions
key_of_chunk key versions = fun_ext (λ k. rw (eqb_turned k.chunk key.chunk) (nested (nat_eq key.chunk k.chunk) (nat_eq key.number k.number)))
  where
    nested : (a b : Bool) → cond a (cond b versions []) [] ≡ cond (a && b) versions []
    nested true b = refl
    nested false b = refl

pub nothing_at : (node : ℕ) (slot : Slot) (f : KeyId → List Version) (x : ℕ) (s : Slot) (k : KeyId) → (x ≡ node → s ≡ slot → f k ≡ []) → at_node node (at_slot slot f) x s k ≡ []
nothing_at node slot f x s k none = unless (nat_eq x node) (at_slot slot f s k) (λ h. unless (same_slot slot s) (f k) (λ t. none (eqb-true x node h) (slot_same slot s t)))

pub comes_at : (node : ℕ) (slot : Slot) (f : KeyId → List Version) (k : KeyId) → at_node node (at_slot slot f) node slot k ≡ f k
comes_at node slot f k = chosen (nat_eq node node) (at_slot slot f slot k) (eq-eqb node node refl) ∙ chosen (same_slot slot slot) (f k) (same_itself slot)

pub chunk_comes : (c : ℕ) (f : ℕ → List Version) (n : ℕ) → of_chunk c f (id c n) ≡ f n
chunk_comes c f n = chosen (nat_eq c c) (f n) (eq-eqb c c refl)

-- ---- what is held

pub apart_at : (a : Stores) (x : ℕ) (s : Slot) (k : KeyId) → IsApart (held_at a x s k)
apart_at a x s k = by (nat_lt k.chunk 16)
  where
    by : (b : Bool) → IsApart (cond b (held_of (map_on a (16 * s.partition + k.chunk) (seat_of x s)) k.number) [])
    by true = apart_of (map_on a (16 * s.partition + k.chunk) (seat_of x s)) k.number
    by false = tt

pub held_here : (a : Stores) (x : ℕ) (s : Slot) (c : ℕ) → c < 16 → (n : ℕ) → held_at a x s (id c n) ≡ held_of (map_on a (16 * s.partition + c) (seat_of x s)) n
held_here a x s c less n = chosen (nat_lt c 16) (held_of (map_on a (16 * s.partition + c) (seat_of x s)) n) (lt-ltb c 16 less)

pub one_reading : (old new : ℕ → Slot → KeyId → List Version) → ((x : ℕ) (s : Slot) (k : KeyId) → new x s k ≡ old x s k) → new ≡ old
one_reading old new same = fun_ext (λ x. fun_ext (λ s. fun_ext (λ k. same x s k)))

pub then_same : (a b c : Stores) → ((x : ℕ) (s : Slot) (k : KeyId) → held_at c x s k ≡ held_at b x s k) → ((x : ℕ) (s : Slot) (k : KeyId) → held_at b x s k ≡ held_at a x s k) → (x : ℕ) (s : Slot) (k : KeyId) → held_at c x s k ≡ held_at a x s k
then_same a b c g f x s k = g x s k ∙ f x s k

-- a merge into what reads as the old did
pub merges_same : (old mid more new : ℕ → Slot → KeyId → List Version) → ((x : ℕ) (s : Slot) (k : KeyId) → mid x s k ≡ old x s k) → MergesAtAll mid more new → MergesAtAll old more new
merges_same old mid more new same h = subst (λ (was : ℕ → Slot → KeyId → List Version). MergesAtAll was more new) (one_reading old mid same) h

pub nothing_comes : (a : Stores) (x : ℕ) (s : Slot) (k : KeyId) (more new : List Version) → more ≡ [] → new ≡ held_at a x s k → IsMerge (held_at a x s k) more new
nothing_comes a x s k more new none same = rw (none, same) (merge_none (held_at a x s k) (apart_at a x s k))

-- what holds for the keys in one chunk at a node, and for all others
pub spot_or : (node : ℕ) (slot : Slot) (c : ℕ) (P : ℕ → Slot → KeyId → Type 0) → ((n : ℕ) → P node slot (id c n)) → ((x : ℕ) (s : Slot) (k : KeyId) → (x ≡ node → s ≡ slot → k.chunk ≡ c → ⊥) → P x s k) → (x : ℕ) (s : Slot) (k : KeyId) → P x s k
spot_or node slot c P here other x s k = elim (cases_eq x node) [
  | inr ne ↦ other x s k (λ e t d. ne e)
  | inl e ↦ elim (cases_Bool (same_slot slot s)) [
    | inr differs ↦ other x s k (λ d t f. (let same = subst (λ u. same_slot slot u ≡ true) (sym t) (same_itself slot) in cc))
    | inl y ↦ elim (cases_eq k.chunk c) [
      | inr ne ↦ other x s k (λ d t f. ne f)
      | inl f ↦ subst (λ y. P y s k) (sym e) (subst (λ t. P node t k) (sym (slot_same slot s y)) (subst (λ d. P node slot (id d k.number)) (sym f) (here k.number)))
    ]
  ]
]

-- ---- only the map of a spot changes

module _ (a b : Stores) (node : ℕ) (slot : Slot) (c : ℕ) (less : c < 16) (only : Changes (16 * slot.partition + c) (seat_of node slot) a b) where
  pub elsewhere : (x : ℕ) (s : Slot) (k : KeyId) → (x ≡ node → s ≡ slot → k.chunk ≡ c → ⊥) → held_at b x s k ≡ held_at a x s k
  elsewhere x s k away = elim (cases_Bool (nat_lt k.chunk 16)) [
    | inl y ↦ (let small = ltb-true k.chunk 16 y in ap (λ o. cond (nat_lt k.chunk 16) (held_of o k.number) []) (only.others (16 * s.partition + k.chunk) (seat_of x s) (λ e t.
        (let p : s.partition ≡ slot.partition = omega arith in let i : s.index ≡ slot.index = ap (λ (u : Seat). u.index) t in away (ap (λ (u : Seat). u.node.0) t) (λ j. record { partition = p j; index = i j }) (omega arith)))))
    | inr n ↦ rw n refl
  ]

  pub same_spot : ((n : ℕ) → held_of (map_on b (16 * slot.partition + c) (seat_of node slot)) n ≡ held_of (map_on a (16 * slot.partition + c) (seat_of node slot)) n) → (x : ℕ) (s : Slot) (k : KeyId) → held_at b x s k ≡ held_at a x s k
  same_spot same = spot_or node slot c (λ x s k. held_at b x s k ≡ held_at a x s k) (λ n. held_here b node slot c less n ∙ same n ∙ sym (held_here a node slot c less n)) elsewhere

  pub merged_spot : (f : ℕ → List Version) → MergesAll (held_of (map_on a (16 * slot.partition + c) (seat_of node slot))) f (held_of (map_on b (16 * slot.partition + c) (seat_of node slot)))
      → MergesAtAll (held_at a) (at_node node (at_slot slot (of_chunk c f))) (held_at b)
  merged_spot f h = spot_or node slot c (λ x s k. IsMerge (held_at a x s k) (at_node node (at_slot slot (of_chunk c f)) x s k) (held_at b x s k))
      (λ n. rw (held_here a node slot c less n, held_here b node slot c less n, comes_at node slot (of_chunk c f) (id c n), chunk_comes c f n) (h n))
      (λ x s k away. nothing_comes a x s k _ _ (nothing_at node slot (of_chunk c f) x s k (λ e t. unless (nat_eq k.chunk c) (f k.number) (λ y. absurd (away e t (eqb-true k.chunk c y))))) (elsewhere x s k away))

-- ---- merges at one node and then at another

either_comes : (p q : Bool) (a m c e : List Version) → (p ≡ true → q ≡ true → ⊥) → IsMerge a (cond p m []) c → IsMerge c (cond q m []) e → IsMerge a (cond (p || q) m []) e
either_comes true true a m c e never f g = absurd (never refl refl)
either_comes true false a m c e never f g = merge_then_none a m c e f g
either_comes false true a m c e never f g = merge_after_none a c m e f g
either_comes false false a m c e never f g = merge_then_none a [] c e f g

pub merges_both : (old mid new : ℕ → Slot → KeyId → List Version) (owner mirror : NodeId) (more : Slot → KeyId → List Version) → mirror.0 ≢ owner.0
    → MergesAtAll old (at_node owner.0 more) mid → MergesAtAll mid (at_node mirror.0 more) new → MergesAtAll old (at_nodes owner (Some mirror) more) new
merges_both old mid new owner mirror more apart a b x s k =
    either_comes (x == owner.0) (x == mirror.0) (old x s k) (more s k) (mid x s k) (new x s k)
    (λ p q. apart (sym (eqb-true x mirror.0 q) ∙ eqb-true x owner.0 p)) (a x s k) (b x s k)

-- ---- what comes to an owner and its mirror

pub owner_comes : (owner : NodeId) (mirror : Option NodeId) (slot : Slot) (f : KeyId → List Version) (k : KeyId) → at_nodes owner mirror (at_slot slot f) owner.0 slot k ≡ f k
owner_comes owner None slot f k = comes_at owner.0 slot f k
owner_comes owner (Some m) slot f k = (let own = eq-eqb owner.0 owner.0 refl in rw own (chosen (same_slot slot slot) (f k) (same_itself slot)))

pub for_mirror : (owner m : NodeId) (more : Slot → KeyId → List Version) (x : ℕ) (s : Slot) (k : KeyId) → (x ≡ owner.0 → more s k ≡ []) → at_node m.0 more x s k ≡ at_nodes owner (Some m) more x s k
for_mirror owner m more x s k none = by (x == owner.0) (x == m.0) (λ h. none (eqb-true x owner.0 h))
  where
    by : (p q : Bool) → (p ≡ true → more s k ≡ []) → cond q (more s k) [] ≡ cond (p || q) (more s k) []
    by true q e = unless q (more s k) (λ h. e refl) ∙ sym (e refl)
    by false q e = refl

-- how many chunks are left for the mirror, and one step to it
abbrev pub turns : Option NodeId → ℕ
turns None = 0
turns (Some mirror) = 17

-- what lies at another node or in an earlier row is not there
pub not_at : {i row : ℕ} {t seat : Seat} → (t.node.0 ≢ seat.node.0) ⊎ (i < row) → i ≡ row → t ≡ seat → ⊥
not_at away e u = elim away [ inl ne ↦ ne (ap (λ (v : Seat). v.node.0) u) | inr l ↦ omega arith ]
