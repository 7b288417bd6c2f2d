-- What is held of keys by number, and of the keys.
use Rattle.std.proofs.Common.{◌≡◌, ◌≢◌, inl, inr, ◌⊎◌, ◌∙◌, ℕ, suc, ◌<◌, Bool, true, false, cond, List, [], ◌∷◌, ◌++◌, length, refl, sym, ap, subst, arith, eqb-true, eq-eqb}
use Rattle.std.specs.Prelude.{◌==◌, ◌&&◌, ◌||◌, ◌↔◌, Option, Some, None, slice_get, option_map, is_some}
use Rattle.std.specs.Str.{bytes_eq}
use Rattle.std.proofs.Math.Path.{fun_ext}
use Rattle.std.proofs.lemmas.Bool.{and_parts}
use Rattle.std.proofs.lemmas.Bool.Decides.{eqb_tells}
use Rattle.std.proofs.lemmas.Slice.Eq.{bytes_eq-Decides}
use Rattle.ring_names.specs.Names.{place, with_name}
use Rattle.ring_names.proofs.Places.{get-place, place-push}
use Rattle.ring_names.specs.declared.ids.Slot.{Slot}
use Rattle.ring_versions.specs.declared.version.Version.{Version}
use Rattle.ring_versions.specs.Versions.{IsMerge}
use Rattle.store_maps.specs.Ids.{id, same_key, of_chunk}
use Rattle.store_maps.specs.Merges.{at_key}
use Rattle.store_maps.specs.declared.key_id.KeyId.{KeyId}
use Rattle.store_parts.specs.KeyTable.{KeyTable, chunk_of, id_of}
use Rattle.store_parts.specs.Numbers.{by_bytes, by_keys, ArePlaced, at_bytes, in_chunk, in_part}
use Rattle.ring_store.specs.Nodes.{MergesAtAll, at_nodes, at_node}
use Rattle.ring_store.specs.Slots.{at_slot, same_slot}
use Rattle.ring_names.specs.declared.ids.NodeId.{NodeId}
use Rattle.store_parts.specs.PutsMeet.{AreNumbered}
use Rattle.store_parts.specs.Stored.{MergeAll}
use Rattle.store_parts.proofs.PutsLists.{place_stays, stays_there}
use Rattle.store_parts.proofs.ShownSets.{with_none}

-- no versions and one, as a test says
some_none : (held : List Version) → (held ≡ []) ⊎ (held ≢ [])
some_none [] = inl refl
some_none (v ∷ vs) = inr (λ e. cc)

-- a merge with nothing of nothing is nothing
merged_none : (new : List Version) → IsMerge [] [] new → new ≡ []
merged_none [] m = refl
merged_none (v ∷ vs) m = absurd (elim (m.drawn v (inl refl)) [ inl h ↦ h | inr h ↦ h ])

-- ---- merges

module _ (t : KeyTable) where
  merged_at : (o : Option KeyId) (old more new : KeyId → List Version) → ((k : KeyId) → IsMerge (old k) (more k) (new k))
      → IsMerge (elim o as (λ _. List Version) [ Some k ↦ old k | None ↦ [] ]) (elim o as (λ _. List Version) [ Some k ↦ more k | None ↦ [] ]) (elim o as (λ _. List Version) [ Some k ↦ new k | None ↦ [] ])
  merged_at None old more new h = with_none [] tt
  merged_at (Some k) old more new h = h k

  -- merges at every id are merges at every key
  pub merged : (old more new : KeyId → List Version) → ((k : KeyId) → IsMerge (old k) (more k) (new k)) → (key : List ℕ) → IsMerge (by_bytes t old key) (by_bytes t more key) (by_bytes t new key)
  merged old more new h key = merged_at (id_of t key) old more new h

  -- what is the same at every id is the same at every key
  pub same : (f g : KeyId → List Version) → ((k : KeyId) → f k ≡ g k) → (key : List ℕ) → by_bytes t f key ≡ by_bytes t g key
  same f g h key = ap (λ (u : KeyId → List Version). by_bytes t u key) (fun_ext h)

  -- nothing but at ids that pass is nothing but at keys
  pub under : (b : Bool) (f : KeyId → List Version) (key : List ℕ) → by_bytes t (λ k. cond b (f k) []) key ≡ cond b (by_bytes t f key) []
  under true f key = refl
  under false f key = by (id_of t key)
    where
      by : (o : Option KeyId) → (elim o as (λ _. List Version) [ Some k ↦ [] | None ↦ [] ]) ≡ []
      by None = refl
      by (Some k) = refl

  pub other : (b : Bool) (f : KeyId → List Version) (key : List ℕ) → by_bytes t (λ k. cond b [] (f k)) key ≡ cond b [] (by_bytes t f key)
  other false f key = refl
  other true f key = by (id_of t key)
    where
      by : (o : Option KeyId) → (elim o as (λ _. List Version) [ Some k ↦ [] | None ↦ [] ]) ≡ []
      by None = refl
      by (Some k) = refl

  -- of a key with a number
  pub id_is : (n : ℕ) (key : List ℕ) → AreNumbered t.keys → slice_get t.keys n ≡ Some key → id_of t key ≡ Some (id (chunk_of t.q key) n)
  id_is n key numbered at = ap (option_map (id (chunk_of t.q key))) (numbered n key at)

  pub held_is : (f : KeyId → List Version) (n : ℕ) (key : List ℕ) → AreNumbered t.keys → slice_get t.keys n ≡ Some key → by_bytes t f key ≡ f (id (chunk_of t.q key) n)
  held_is f n key numbered at = ap (λ (o : Option KeyId). elim o as (λ _. List Version) [ Some k ↦ f k | None ↦ [] ]) (id_is n key numbered at)

  -- the key of an id that was looked up
  pub id_named : (n : ℕ) (k : KeyId) → option_map (λ key. id (chunk_of t.q key) n) (slice_get t.keys n) ≡ Some k → (key : List ℕ) × (slice_get t.keys n ≡ Some key) × (id (chunk_of t.q key) n ≡ k)
  id_named n k = by (slice_get t.keys n)
    where
      by : (o : Option (List ℕ)) → option_map (λ key. id (chunk_of t.q key) n) o ≡ Some k → (key : List ℕ) × (o ≡ Some key) × (id (chunk_of t.q key) n ≡ k)
      by None e = absurd cc
      by (Some key) e = (key, refl, cc)

  -- what is held of the key is what is held of its id
  pub held_named : (f : KeyId → List Version) (n : ℕ) (k : KeyId) (key : List ℕ) → AreNumbered t.keys → slice_get t.keys n ≡ Some key → id (chunk_of t.q key) n ≡ k → by_bytes t f key ≡ f k
  held_named f n k key numbered at is = held_is f n key numbered at ∙ ap f is

  pub others_named : (f : ℕ → Slot → KeyId → List Version) (slot : Slot) (n : ℕ) (k : KeyId) (key : List ℕ) → AreNumbered t.keys → slice_get t.keys n ≡ Some key → id (chunk_of t.q key) n ≡ k
      → ◌≡◌ {A = ℕ → List Version} (λ x. by_keys t f x slot key) (λ x. f x slot k)
  others_named f slot n k key numbered at is = fun_ext (λ x. held_named (f x slot) n k key numbered at is)

  -- nothing of all ids is nothing of all keys
  pub nothing_at : (f : KeyId → List Version) → ((k : KeyId) → f k ≡ []) → (key : List ℕ) → by_bytes t f key ≡ []
  nothing_at f h key = by (id_of t key)
    where
      by : (o : Option KeyId) → (elim o as (λ _. List Version) [ Some k ↦ f k | None ↦ [] ]) ≡ []
      by None = refl
      by (Some k) = h k

  pub placed_nothing : (f : KeyId → List Version) → ((k : KeyId) → f k ≡ []) → ArePlaced t f
  placed_nothing f h k s = absurd (s (h k))

  pub nothing_of_chunk : (c : ℕ) (f : ℕ → List Version) → ((n : ℕ) → f n ≡ []) → (k : KeyId) → of_chunk c f k ≡ []
  nothing_of_chunk c f h k = by (k.chunk == c)
    where
      by : (b : Bool) → cond b (f k.number) [] ≡ []
      by true = h k.number
      by false = refl

  -- ---- one key

  module _ (n : ℕ) (key : List ℕ) (numbered : AreNumbered t.keys) (at : slice_get t.keys n ≡ Some key) (vs : List Version) where
    abbrev mine : KeyId
    mine = id (chunk_of t.q key) n

    own : same_key mine mine ≡ true
    own = rw (eq-eqb (chunk_of t.q key) (chunk_of t.q key) refl) (eq-eqb n n refl)

    -- what is at an id is at its key
    pub key_at : (bs : List ℕ) → by_bytes t (at_key mine vs) bs ≡ at_bytes key vs bs
    key_at bs = by (bytes_eq key bs) refl
      where
        apart : bytes_eq key bs ≡ false → (m : ℕ) → place t.keys bs ≡ Some m → (n == m) ≡ false
        apart e m f = elim (eqb_tells n m) [
          | inl s ↦ absurd (
              let there : slice_get t.keys n ≡ Some bs = subst (λ (z : ℕ). slice_get t.keys z ≡ Some bs) (sym s.1) (get-place t.keys m bs f) in
              let is : key ≡ bs = (let g = sym at ∙ there in cc) in
              let yes = (bytes_eq-Decides key bs).1 is in
              cc)
          | inr s ↦ s.0
        ]

        none_else : (c d m : ℕ) → (n == m) ≡ false → at_key (id c n) vs (id d m) ≡ []
        none_else c d m e = rw e (dead (c == d))
          where
            dead : (b : Bool) → cond (b && false) vs [] ≡ []
            dead true = refl
            dead false = refl

        by_place : bytes_eq key bs ≡ false → (o : Option ℕ) → place t.keys bs ≡ o → (elim (option_map (id (chunk_of t.q bs)) o) as (λ _. List Version) [ Some k ↦ at_key mine vs k | None ↦ [] ]) ≡ []
        by_place e None f = refl
        by_place e (Some m) f = none_else (chunk_of t.q key) (chunk_of t.q bs) m (apart e m f)

        by : (b : Bool) → bytes_eq key bs ≡ b → by_bytes t (at_key mine vs) bs ≡ cond b vs []
        by true e =
            subst (λ (z : List ℕ). by_bytes t (at_key mine vs) z ≡ vs) ((bytes_eq-Decides key bs).0 e)
            (held_is (at_key mine vs) n key numbered at ∙ ap (λ (b : Bool). cond b vs []) own)
        by false e = by_place e (place t.keys bs) refl

    pub placed_at : ArePlaced t (at_key mine vs)
    placed_at k some = by (same_key mine k) refl
      where
        by : (b : Bool) → same_key mine k ≡ b → option_map (chunk_of t.q) (slice_get t.keys k.number) ≡ Some k.chunk
        by true e =
            let p = and_parts (chunk_of t.q key == k.chunk) (n == k.number) e in
            let m = eqb-true n k.number p.1 in
            ap (λ (z : ℕ). option_map (chunk_of t.q) (slice_get t.keys z)) (sym m) ∙ ap (option_map (chunk_of t.q)) at ∙ ap (λ (z : ℕ). Some z) (eqb-true (chunk_of t.q key) k.chunk p.0)
        by false e = absurd (some (ap (λ (b : Bool). cond b vs []) e))

  -- ---- a chunk

  pub chunk_at : (c : ℕ) (f : KeyId → List Version) (key : List ℕ) → by_bytes t (of_chunk c (λ n. f (id c n))) key ≡ in_chunk t.q c (by_bytes t f) key
  chunk_at c f key = by (place t.keys key)
    where
      none_in : (b : Bool) → ◌≡◌ {A = List Version} [] (cond b [] [])
      none_in true = refl
      none_in false = refl

      one_in : (d n : ℕ) (b : Bool) → (d == c) ≡ b → cond b (f (id c n)) [] ≡ cond b (f (id d n)) []
      one_in d n true e = ap (λ (z : ℕ). f (id z n)) (sym (eqb-true d c e))
      one_in d n false e = refl

      by : (o : Option ℕ) → (elim (option_map (id (chunk_of t.q key)) o) as (λ _. List Version) [ Some k ↦ of_chunk c (λ n. f (id c n)) k | None ↦ [] ])
          ≡ cond (chunk_of t.q key == c) (elim (option_map (id (chunk_of t.q key)) o) as (λ _. List Version) [ Some k ↦ f k | None ↦ [] ]) []
      by None = none_in (chunk_of t.q key == c)
      by (Some n) = one_in (chunk_of t.q key) n (chunk_of t.q key == c) refl

  -- ---- of what something is held

  -- an id that is placed is a key's
  key_of : (k : KeyId) → AreNumbered t.keys → option_map (chunk_of t.q) (slice_get t.keys k.number) ≡ Some k.chunk → (key : List ℕ) × (slice_get t.keys k.number ≡ Some key) × (chunk_of t.q key ≡ k.chunk) × (id_of t key ≡ Some k)
  key_of k numbered = by (slice_get t.keys k.number) refl
    where
      by : (o : Option (List ℕ)) → slice_get t.keys k.number ≡ o → option_map (chunk_of t.q) o ≡ Some k.chunk → (key : List ℕ) × (slice_get t.keys k.number ≡ Some key) × (chunk_of t.q key ≡ k.chunk) × (id_of t key ≡ Some k)
      by None at e = absurd cc
      by (Some key) at e =
          let lies : chunk_of t.q key ≡ k.chunk = cc in
          (key, at, lies, id_is k.number key numbered at ∙ ap (λ (z : ℕ). Some (id z k.number)) lies)

  -- what is held of a key's id is held of the key
  held_at_id : (f : KeyId → List Version) (k : KeyId) (key : List ℕ) → id_of t key ≡ Some k → by_bytes t f key ≡ f k
  held_at_id f k key e = ap (λ (o : Option KeyId). elim o as (λ _. List Version) [ Some x ↦ f x | None ↦ [] ]) e

  pub none : (f : KeyId → List Version) → AreNumbered t.keys → ArePlaced t f → ((k : KeyId) → f k ≡ []) ↔ ((key : List ℕ) → by_bytes t f key ≡ [])
  none f numbered placed = (
    nothing_at f,
    λ h k. elim (some_none (f k)) [
      | inl e ↦ e
      | inr s ↦ (let p = key_of k numbered (placed k s) in sym (held_at_id f k p.0 p.3) ∙ h p.0)
    ],
  )

  -- of a chunk's keys
  pub none_in_chunk : (c : ℕ) (f : KeyId → List Version) → AreNumbered t.keys → ArePlaced t f → ((n : ℕ) → f (id c n) ≡ []) ↔ ((key : List ℕ) → chunk_of t.q key ≡ c → by_bytes t f key ≡ [])
  none_in_chunk c f numbered placed = (
    λ h key lies. by h (chunk_of t.q key) lies (place t.keys key),
    λ h n. elim (some_none (f (id c n))) [
      | inl e ↦ e
      | inr s ↦ (
          let p = key_of (id c n) numbered (placed (id c n) s) in
          sym (held_at_id f (id c n) p.0 p.3) ∙ h p.0 p.2)
    ],
  )
    where
      by : ((n : ℕ) → f (id c n) ≡ []) → (d : ℕ) → d ≡ c → (o : Option ℕ) → (elim (option_map (id d) o) as (λ _. List Version) [ Some k ↦ f k | None ↦ [] ]) ≡ []
      by h d lies None = refl
      by h d lies (Some n) = ap (λ (z : ℕ). f (id z n)) lies ∙ h n

  pub placed_merged : (old more new : KeyId → List Version) → ArePlaced t old → ArePlaced t more → ((k : KeyId) → IsMerge (old k) (more k) (new k)) → ArePlaced t new
  placed_merged old more new had comes m k s = elim (some_none (old k)) [
    | inr h ↦ had k h
    | inl e ↦ elim (some_none (more k)) [
      | inr h ↦ comes k h
      | inl f ↦ absurd (s (merged_none (new k) (subst (λ (z : List Version). IsMerge [] z (new k)) f (subst (λ (z : List Version). IsMerge z (more k) (new k)) e (m k)))))
    ]
  ]

  -- what is gone or as before
  pub placed_less : (old new : KeyId → List Version) → ArePlaced t old → ((k : KeyId) → (new k ≡ old k) ⊎ (new k ≡ [])) → ArePlaced t new
  placed_less old new had h k s = elim (h k) [ inl e ↦ had k (λ f. s (e ∙ f)) | inr e ↦ absurd (s e) ]

  pub placed_under : (b : Bool) (f : KeyId → List Version) → ArePlaced t f → ArePlaced t (λ k. cond b (f k) [])
  placed_under true f had = had
  placed_under false f had = λ k s. absurd (s refl)

  pub placed_chunk : (c : ℕ) (f : KeyId → List Version) → ArePlaced t f → ArePlaced t (of_chunk c (λ n. f (id c n)))
  placed_chunk c f had k s = by (k.chunk == c) refl
    where
      by : (b : Bool) → (k.chunk == c) ≡ b → option_map (chunk_of t.q) (slice_get t.keys k.number) ≡ Some k.chunk
      by true e =
          let is : id c k.number ≡ k = ap (λ (z : ℕ). id z k.number) (sym (eqb-true k.chunk c e)) in
          had k (subst (λ (z : KeyId). f z ≢ []) is (λ g. s (ap (λ (b : Bool). cond b (f (id c k.number)) []) e ∙ g)))
      by false e = absurd (s (ap (λ (b : Bool). cond b (f (id c k.number)) []) e))

  -- ---- what is read of a chunk

  part_id : (c : ℕ) (f : ℕ → List Version) (g : KeyId → List Version) → ((n : ℕ) → f n ≡ g (id c n)) → (k : KeyId) → of_chunk c f k ≡ of_chunk c (λ n. g (id c n)) k
  part_id c f g is k = ap (λ (vs : List Version). cond (k.chunk == c) vs []) (is k.number)

  pub part_at : (c : ℕ) (f : ℕ → List Version) (g : KeyId → List Version) → ((n : ℕ) → f n ≡ g (id c n)) → (key : List ℕ) → in_part t c f key ≡ in_chunk t.q c (by_bytes t g) key
  part_at c f g is key = same (of_chunk c f) (of_chunk c (λ n. g (id c n))) (part_id c f g is) key ∙ chunk_at c g key

  -- it is nothing at keys of other chunks
  pub part_apart : (c : ℕ) (f : ℕ → List Version) (key : List ℕ) → (chunk_of t.q key ≡ c → ⊥) → in_part t c f key ≡ []
  part_apart c f key apart = part_at c f (λ k. f k.number) (λ n. refl) key ∙ by (chunk_of t.q key == c) refl
    where
      by : (b : Bool) → (chunk_of t.q key == c) ≡ b → cond b (by_bytes t (λ k. f k.number) key) [] ≡ []
      by true e = absurd (apart (eqb-true (chunk_of t.q key) c e))
      by false e = refl

  part_ids : (c : ℕ) (old more new : ℕ → List Version) → ((n : ℕ) → IsMerge (old n) (more n) (new n)) → (k : KeyId) → IsMerge (of_chunk c old k) (of_chunk c more k) (of_chunk c new k)
  part_ids c old more new h k = by (k.chunk == c)
    where
      by : (b : Bool) → IsMerge (cond b (old k.number) []) (cond b (more k.number) []) (cond b (new k.number) [])
      by true = h k.number
      by false = with_none [] tt

  pub part_merged : (c : ℕ) (old more new : ℕ → List Version) → ((n : ℕ) → IsMerge (old n) (more n) (new n)) → (key : List ℕ) → IsMerge (in_part t c old key) (in_part t c more key) (in_part t c new key)
  part_merged c old more new h = merged (of_chunk c old) (of_chunk c more) (of_chunk c new) (part_ids c old more new h)

  pub placed_part : (c : ℕ) (f : ℕ → List Version) (g : KeyId → List Version) → ((n : ℕ) → f n ≡ g (id c n)) → ArePlaced t g → ArePlaced t (of_chunk c f)
  placed_part c f g is had = placed_less (of_chunk c (λ n. g (id c n))) (of_chunk c f) (placed_chunk c g had) (λ k. inl (part_id c f g is k))

  pub placed_more : (c : ℕ) (old more new : ℕ → List Version) → ArePlaced t (of_chunk c more) → ((n : ℕ) → IsMerge (old n) (more n) (new n)) → ArePlaced t (of_chunk c old) → ArePlaced t (of_chunk c new)
  placed_more c old more new comes h had = placed_merged (of_chunk c old) (of_chunk c more) (of_chunk c new) had comes (part_ids c old more new h)

  -- ---- what nodes are given

  slot_is : (p : Bool) (slot s : Slot) (f : KeyId → List Version) (key : List ℕ) → by_bytes t (λ k. cond p (at_slot slot f s k) []) key ≡ cond p (at_slot slot (by_bytes t f) s key) []
  slot_is p slot s f key = under p (λ k. at_slot slot f s k) key ∙ ap (λ (vs : List Version). cond p vs []) (under (same_slot slot s) f key)

  nodes_at : (owner : NodeId) (mirror : Option NodeId) (slot : Slot) (f : KeyId → List Version) (x : ℕ) (s : Slot) (key : List ℕ) → by_bytes t (at_nodes owner mirror (at_slot slot f) x s) key ≡ at_nodes owner mirror (at_slot slot (by_bytes t f)) x s key
  nodes_at owner None slot f x s key = slot_is (x == owner.0) slot s f key
  nodes_at owner (Some mirror) slot f x s key = slot_is ((x == owner.0) || (x == mirror.0)) slot s f key

  -- merges at all ids are merges at all keys
  pub given : (owner : NodeId) (mirror : Option NodeId) (slot : Slot) (f : KeyId → List Version) (old new : ℕ → Slot → KeyId → List Version)
      → MergesAtAll old (at_nodes owner mirror (at_slot slot f)) new → MergeAll (by_keys t old) (at_nodes owner mirror (at_slot slot (by_bytes t f))) (by_keys t new)
  given owner mirror slot f old new h x s key =
      subst (λ (vs : List Version). IsMerge (by_bytes t (old x s) key) vs (by_bytes t (new x s) key)) (nodes_at owner mirror slot f x s key)
      (merged (old x s) (at_nodes owner mirror (at_slot slot f) x s) (new x s) (h x s) key)

  placed_slot : (p : Bool) (slot s : Slot) (f : KeyId → List Version) → ArePlaced t f → ArePlaced t (λ k. cond p (at_slot slot f s k) [])
  placed_slot p slot s f had = placed_under p (λ k. at_slot slot f s k) (placed_under (same_slot slot s) f had)

  pub placed_given : (owner : NodeId) (mirror : Option NodeId) (slot : Slot) (f : KeyId → List Version) (old new : ℕ → Slot → KeyId → List Version) → ((x : ℕ) (s : Slot) → ArePlaced t (old x s)) → ArePlaced t f
      → MergesAtAll old (at_nodes owner mirror (at_slot slot f)) new → (x : ℕ) (s : Slot) → ArePlaced t (new x s)
  placed_given owner mirror slot f old new had comes h x s = placed_merged (old x s) (at_nodes owner mirror (at_slot slot f) x s) (new x s) (had x s) (by mirror) (h x s)
    where
      by : (o : Option NodeId) → ArePlaced t (at_nodes owner o (at_slot slot f) x s)
      by None = placed_slot (x == owner.0) slot s f comes
      by (Some y) = placed_slot ((x == owner.0) || (x == y.0)) slot s f comes

  -- ---- one put

  module _ (numbered : AreNumbered t.keys) (n : ℕ) (k : KeyId) (key : List ℕ) (at : slice_get t.keys n ≡ Some key) (is : id (chunk_of t.q key) n ≡ k) (vs : List Version) where
    pub one_at : (bs : List ℕ) → by_bytes t (at_key k vs) bs ≡ at_bytes key vs bs
    one_at bs = subst (λ (z : KeyId). by_bytes t (at_key z vs) bs ≡ at_bytes key vs bs) is (key_at n key numbered at vs bs)

    pub placed_one : ArePlaced t (at_key k vs)
    placed_one = subst (λ (z : KeyId). ArePlaced t (at_key z vs)) is (placed_at n key numbered at vs)

    pub given_at : (owner : NodeId) (mirror : Option NodeId) (slot : Slot) (old new : ℕ → Slot → KeyId → List Version)
        → MergesAtAll old (at_nodes owner mirror (at_slot slot (at_key k vs))) new → MergeAll (by_keys t old) (at_nodes owner mirror (at_slot slot (at_bytes key vs))) (by_keys t new)
    given_at owner mirror slot old new h = subst (λ (f : List ℕ → List Version). MergeAll (by_keys t old) (at_nodes owner mirror (at_slot slot f)) (by_keys t new)) (fun_ext one_at) (given owner mirror slot (at_key k vs) old new h)

    -- a node keeps it for a slot
    pub kept_at : (p : ℕ → Slot → Bool) (old new : ℕ → Slot → KeyId → List Version) → ((x : ℕ) (s : Slot) (j : KeyId) → IsMerge (old x s j) (cond (p x s) (at_key k vs j) []) (new x s j))
        → (x : ℕ) (s : Slot) (bs : List ℕ) → IsMerge (by_keys t old x s bs) (cond (p x s) (at_bytes key vs bs) []) (by_keys t new x s bs)
    kept_at p old new h x s bs =
        subst (λ (z : List Version). IsMerge (by_keys t old x s bs) z (by_keys t new x s bs)) (under (p x s) (at_key k vs) bs ∙ ap (λ (z : List Version). cond (p x s) z []) (one_at bs))
        (merged (old x s) (λ j. cond (p x s) (at_key k vs j) []) (new x s) (h x s) bs)

    pub placed_kept : (p : ℕ → Slot → Bool) (old new : ℕ → Slot → KeyId → List Version) → ((x : ℕ) (s : Slot) → ArePlaced t (old x s)) → ((x : ℕ) (s : Slot) (j : KeyId) → IsMerge (old x s j) (cond (p x s) (at_key k vs j) []) (new x s j)) → (x : ℕ) (s : Slot) → ArePlaced t (new x s)
    placed_kept p old new had h x s = placed_merged (old x s) (λ j. cond (p x s) (at_key k vs j) []) (new x s) (had x s) (placed_under (p x s) (at_key k vs) placed_one) (h x s)

  -- ---- what is as before

  pub kept_as : (old new : ℕ → Slot → KeyId → List Version) → ((x : ℕ) (s : Slot) (k : KeyId) → new x s k ≡ old x s k) → by_keys t old ≡ by_keys t new
  kept_as old new h = fun_ext (λ x. fun_ext (λ s. fun_ext (λ key. sym (same (new x s) (old x s) (h x s) key))))

  pub placed_as : (old new : ℕ → Slot → KeyId → List Version) → ((x : ℕ) (s : Slot) → ArePlaced t (old x s)) → ((x : ℕ) (s : Slot) (k : KeyId) → new x s k ≡ old x s k) → (x : ℕ) (s : Slot) → ArePlaced t (new x s)
  placed_as old new had h x s = placed_less (old x s) (new x s) (had x s) (λ k. inl (h x s k))

-- ---- a key more

-- what is held of the key, if it has that number
abbrev at_place : KeyTable → (KeyId → List Version) → List ℕ → Option ℕ → List Version
at_place t f key o = elim (option_map (id (chunk_of t.q key)) o) as (λ _. List Version) [ Some k ↦ f k | None ↦ [] ]

module _ (t : KeyTable) (more : List ℕ) where
  place_on : (b : Bool) (key : List ℕ) (n : ℕ) → place t.keys key ≡ Some n → place (cond b t.keys (t.keys ++ more ∷ [])) key ≡ Some n
  place_on true key n e = e
  place_on false key n e = place_stays t.keys (more ∷ []) key n e

  -- the number of a key stays
  pub place_kept : (key : List ℕ) (n : ℕ) → place t.keys key ≡ Some n → place (with_name t.keys more) key ≡ Some n
  place_kept = place_on (is_some (place t.keys more))

  there_still : (b : Bool) (n : ℕ) (o : Option (List ℕ)) (c : ℕ) → slice_get t.keys n ≡ o → option_map (chunk_of t.q) o ≡ Some c → option_map (chunk_of t.q) (slice_get (cond b t.keys (t.keys ++ more ∷ [])) n) ≡ Some c
  there_still b n None c at e = absurd cc
  there_still true n (Some key) c at e = ap (option_map (chunk_of t.q)) at ∙ e
  there_still false n (Some key) c at e = ap (option_map (chunk_of t.q)) (stays_there t.keys (more ∷ []) n key at) ∙ e

  pub placed_still : (f : KeyId → List Version) → ArePlaced t f → ArePlaced (record t { keys = with_name t.keys more }) f
  placed_still f had k s = there_still (is_some (place t.keys more)) k.number (slice_get t.keys k.number) k.chunk refl (had k s)

  -- what is held of each key stays
  pub held_still : (f : KeyId → List Version) → AreNumbered t.keys → ArePlaced t f → (key : List ℕ) → by_bytes (record t { keys = with_name t.keys more }) f key ≡ by_bytes t f key
  held_still f numbered had key = by (place t.keys key) refl
    where
      new_none : place t.keys key ≡ None → (o : Option ℕ) → place (with_name t.keys more) key ≡ o → at_place t f key o ≡ []
      new_none gone None e = refl
      new_none gone (Some n) e = elim (some_none (f (id (chunk_of t.q key) n))) [
        | inl h ↦ h
        | inr h ↦ absurd (
            let p = key_of t (id (chunk_of t.q key) n) numbered (had (id (chunk_of t.q key) n) h) in
            let kept = numbered n p.0 p.1 in
            let one = get-place (with_name t.keys more) n p.0 (place_kept p.0 n kept) in
            let two = get-place (with_name t.keys more) n key e in
            let is : p.0 ≡ key = (let g = sym one ∙ two in cc) in
            let there : place t.keys key ≡ Some n = subst (λ (z : List ℕ). place t.keys z ≡ Some n) is kept in
            cc)
      ]

      by : (o : Option ℕ) → place t.keys key ≡ o → at_place t f key (place (with_name t.keys more) key) ≡ at_place t f key (place t.keys key)
      by None e = new_none e (place (with_name t.keys more) key) refl ∙ sym (ap (at_place t f key) e)
      by (Some n) e = ap (at_place t f key) (place_kept key n e) ∙ sym (ap (at_place t f key) e)
