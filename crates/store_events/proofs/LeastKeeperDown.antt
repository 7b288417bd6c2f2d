-- The least of the keepers of hints that are down.
use Rattle.std.proofs.Common.{◌≡◌, inl, inr, ◌∙◌, ℕ, ◌<◌, ◌≤◌, Bool, true, false, cond, List, [], ◌∷◌, length, map, refl, sym, ap, subst, arith, eqb-true, eq-eqb}
use Rattle.std.specs.Prelude.{◌&&◌, ◌||◌, ◌==◌, ◌↔◌, Option, Some, None}
use Rattle.std.specs.List.{list_any}
use Rattle.std.proofs.Math.Bool.{or_assoc}
use Rattle.std.proofs.lemmas.Bool.{and_parts, or_right, and_from, or_cases, or_left, false_from_ne_true}
use Rattle.ring_names.specs.declared.ids.NodeId.{NodeId}
use Rattle.ring_names.specs.declared.ids.Slot.{Slot}
use Rattle.ring_names.proofs.Logic.{or_false, bool_same}
use Rattle.ring_table.specs.Value.{RingValue}
use Rattle.ring_hints.specs.Views.{in_keepers}
use Rattle.store_maps.specs.declared.key_id.KeyId.{KeyId}
use Rattle.store_maps.specs.Ids.{id}
use Rattle.store_parts.specs.KeyTable.{chunk_of}
use Rattle.store_parts.proofs.Numbers.{none, none_in_chunk}
use Rattle.ring_hints.specs.Hints.{hinted_at}
use Rattle.plan_text.specs.declared.step.Planned.{Planned}
use Rattle.plan_text.specs.declared.step.Source.{Source}
use Rattle.plan_text.specs.declared.step.Source.TheVariants.{Slots}
use Rattle.plan_stage.proofs.Truth.{same}
use Rattle.plan_runs.specs.Guards.{keeps_source}
use Rattle.plan_runs.specs.Versions.{is_in_chunk}
use Rattle.plan_runs.specs.World.{World, some_below, slot_at}
use Rattle.store_parts.specs.Nodes.{is_up_at}
use Rattle.store_parts.specs.Kept.{Kept, Tells}
use Rattle.store_parts.specs.Parts.{IsSized, ring_of, plan_of, kept_of, Meets}
use Rattle.store_parts.specs.declared.parts.Parts.{Parts}
use Rattle.store_parts.proofs.WhoKeepsHints.{both_tell, chunk_tells}
use Rattle.store_events.specs.ChunkKeepers.{keeps_part, Lessens}
use Rattle.store_parts.specs.LeastDown.{IsLeastDown}
use Rattle.store_events.proofs.ChunkSources.{any_map, some_node, named_node}

-- ---- one node more

module _ (up : ℕ → Bool) where
  pub other_nodes : (o : Option NodeId) (f g : ℕ → Bool) → ((x : ℕ) → f x ≡ g x) → IsLeastDown up f o → IsLeastDown up g o
  other_nodes None f g is h = λ x t. h x (is x ∙ t)
  other_nodes (Some y) f g is h = (sym (is y.0) ∙ h.0, h.1, λ x l t. h.2 x l (is x ∙ t))

  -- nodes that are all up change nothing
  pub more_up : (o : Option NodeId) (f g : ℕ → Bool) → ((x : ℕ) → g x ≡ true → up x ≡ true) → IsLeastDown up f o → IsLeastDown up (λ x. f x || g x) o
  more_up None f g are h = λ x t. elim (or_cases (f x) (g x) t) [ inl e ↦ h x e | inr e ↦ are x e ]
  more_up (Some y) f g are h = (or_left (f y.0) (g y.0) h.0, h.1, λ x l t. elim (or_cases (f x) (g x) t) [ inl e ↦ h.2 x l e | inr e ↦ are x e ])

  module _ (f : ℕ → Bool) (n : NodeId) (keeps : Bool) where
    pub less_none : (o : Option NodeId) → keeps ≡ false → IsLeastDown up f o → IsLeastDown up (λ x. f x || ((x == n.0) && keeps)) o
    less_none o no_hints h = more_up o f (λ x. (x == n.0) && keeps) (λ x t. absurd (let e = (and_parts (x == n.0) keeps t).1 in cc)) h

    module _ (down : up n.0 ≡ false) (hints : keeps ≡ true) where
      mine : (f n.0 || ((n.0 == n.0) && keeps)) ≡ true
      mine = or_right (f n.0) ((n.0 == n.0) && keeps) (and_from (n.0 == n.0) keeps (same n.0) hints)

      -- the first that is found
      pub less_first : IsLeastDown up f None → IsLeastDown up (λ x. f x || ((x == n.0) && keeps)) (Some n)
      less_first h = (
        mine,
        down,
        λ x l t. elim (or_cases (f x) ((x == n.0) && keeps) t) [
          | inl e ↦ h x e
          | inr e ↦ absurd (let is = eqb-true x n.0 (and_parts (x == n.0) keeps e).0 in omega arith)
        ],
      )

      -- one that is not less than the one that was found
      pub less_old : (y : NodeId) → y.0 < n.0 → IsLeastDown up f (Some y) → IsLeastDown up (λ x. f x || ((x == n.0) && keeps)) (Some y)
      less_old y less h = (
        or_left (f y.0) ((y.0 == n.0) && keeps) h.0,
        h.1,
        λ x l t. elim (or_cases (f x) ((x == n.0) && keeps) t) [
          | inl e ↦ h.2 x l e
          | inr e ↦ absurd (let is = eqb-true x n.0 (and_parts (x == n.0) keeps e).0 in omega arith)
        ],
      )

      -- one that is
      pub less_new : (y : NodeId) → n.0 ≤ y.0 → IsLeastDown up f (Some y) → IsLeastDown up (λ x. f x || ((x == n.0) && keeps)) (Some n)
      less_new y less h = (
        mine,
        down,
        λ x l t. elim (or_cases (f x) ((x == n.0) && keeps) t) [
          | inl e ↦ h.2 x (omega arith) e
          | inr e ↦ absurd (let is = eqb-true x n.0 (and_parts (x == n.0) keeps e).0 in omega arith)
        ],
      )

-- ---- one after the other

abbrev pub Lessening : {A : Type 0} → Parts → (World → A → ℕ → Bool) → List A → Option NodeId → Option NodeId → List A → Type 0
Lessening a test all old new rest = (w : World) → Meets a w → (f : ℕ → Bool) → IsLeastDown (is_up_at a.nodes) f old
    → (done : ℕ → Bool) × IsLeastDown (is_up_at a.nodes) (λ x. f x || done x) new × ((x : ℕ) → (done x || list_any (λ y. test w y x) rest) ≡ list_any (λ y. test w y x) all)

module _ (a : Parts) where
  up : ℕ → Bool
  up = is_up_at a.nodes

  pub lessens_same : (old new : Option NodeId) (f g : World → ℕ → Bool) → ((w : World) → Meets a w → (x : ℕ) → f w x ≡ g w x) → Lessens a old new f → Lessens a old new g
  lessens_same old new f g is h w m t had = other_nodes (is_up_at a.nodes) new (λ x. t x || f w x) (λ x. t x || g w x) (λ x. ap (λ (b : Bool). t x || b) (is w m x)) (h w m t had)

  pub lessens_no : (old : Option NodeId) (f : World → ℕ → Bool) → ((w : World) → Meets a w → (x : ℕ) → f w x ≡ false) → Lessens a old old f
  lessens_no old f no_nodes w m t had = other_nodes (is_up_at a.nodes) old t (λ x. t x || f w x) (λ x. sym (ap (λ (b : Bool). t x || b) (no_nodes w m x) ∙ or_false (t x))) had

  module _ {A : Type 0} (test : World → A → ℕ → Bool) (all : List A) (old : Option NodeId) where
    pub lessening_first : Lessening a test all old old all
    lessening_first w m f had = ((λ x. false), other_nodes (is_up_at a.nodes) old f (λ x. f x || false) (λ x. sym (or_false (f x))) had, λ x. refl)

    pub lessening_more : (mid new : Option NodeId) (rest later : List A) (y : A) → rest ≡ y ∷ later → Lessens a mid new (λ w. test w y) → Lessening a test all old mid rest → Lessening a test all old new later
    lessening_more mid new rest later y is h g w m f had =
        let p = g w m f had in (
          λ x. p.0 x || test w y x,
          other_nodes (is_up_at a.nodes) new (λ x. (f x || p.0 x) || test w y x) (λ x. f x || (p.0 x || test w y x)) (λ x. or_assoc (f x) (p.0 x) (test w y x)) (h w m (λ x. f x || p.0 x) p.1),
          λ x. or_assoc (p.0 x) (test w y x) (list_any (λ z. test w z x) later) ∙ sym (ap (λ (ys : List A). p.0 x || list_any (λ z. test w z x) ys) is) ∙ p.2 x,
        )

    pub lessening_all : (new : Option NodeId) (rest : List A) → rest ≡ [] → Lessening a test all old new rest → Lessens a old new (λ w x. list_any (λ y. test w y x) all)
    lessening_all new rest is g w m f had =
        let p = g w m f had in
        other_nodes (is_up_at a.nodes) new (λ x. f x || p.0 x) (λ x. f x || list_any (λ y. test w y x) all)
        (λ x. ap (λ (b : Bool). f x || b) (sym (or_false (p.0 x)) ∙ sym (ap (λ (ys : List A). p.0 x || list_any (λ y. test w y x) ys) is) ∙ p.2 x)) p.1

  -- from nothing
  pub least_of : (o : Option NodeId) (f : World → ℕ → Bool) → Lessens a None o f → (w : World) → Meets a w → IsLeastDown (is_up_at a.nodes) (f w) o
  least_of o f h w m = h w m (λ x. false) (λ x t. absurd cc)

-- ---- what keepers keep

module _ (ring : RingValue) (plan : List Planned) (k : Kept) (w : World) (m : Tells ring plan k w) (slot : Slot) (c : ℕ) where
  -- whether the node keeps something of the chunk, as it is kept
  pub part_kept : (x : ℕ) (b : Bool) → (b ≡ false) ↔ ((key : List ℕ) → chunk_of ring.q key ≡ c → k.hinted x slot key ≡ []) → b ≡ keeps_part ring w slot c x
  part_kept x b h = both_tell b (keeps_part ring w slot c x) h (chunk_tells ring plan k w m x slot c)

  -- a node that keeps something of it keeps something
  part_some : (x : ℕ) → keeps_part ring w slot c x ≡ true → ((key : List ℕ) → k.hinted x slot key ≡ []) → ⊥
  part_some x e empty = (let f = (chunk_tells ring plan k w m x slot c).1 (λ key lies. empty key) in cc)

  -- those that keep anything for the slot are its keepers
  pub keepers_keep : (nodes : List NodeId) → ((x : ℕ) → (in_keepers x nodes ≡ false) ↔ ((key : List ℕ) → k.hinted x slot key ≡ []))
      → (x : ℕ) → list_any (λ y. (x == y.0) && keeps_part ring w slot c y.0) nodes ≡ keeps_part ring w slot c x
  keepers_keep nodes keepers x = bool_same (list_any (λ y. (x == y.0) && keeps_part ring w slot c y.0) nodes) (keeps_part ring w slot c x)
      (λ h.
      let y = some_node (λ y. (x == y.0) && keeps_part ring w slot c y.0) nodes h in
      let p = and_parts (x == y.0.0) (keeps_part ring w slot c y.0.0) y.1 in
      subst (λ (z : ℕ). keeps_part ring w slot c z ≡ true) (sym (eqb-true x y.0.0 p.0)) p.1)
      (λ h. named_node (λ y. (x == y.0) && keeps_part ring w slot c y.0) x nodes (there h (in_keepers x nodes) refl) (and_from (x == x) (keeps_part ring w slot c x) (same x) h))
    where
      there : keeps_part ring w slot c x ≡ true → (b : Bool) → in_keepers x nodes ≡ b → in_keepers x nodes ≡ true
      there h true e = e
      there h false e = absurd (part_some x h ((keepers x).0 e))

  pub none_keep : ((x : ℕ) (key : List ℕ) → k.hinted x slot key ≡ []) → (x : ℕ) → keeps_part ring w slot c x ≡ false
  none_keep empty x = false_from_ne_true (keeps_part ring w slot c x) (λ e. part_some x e (empty x))

-- those that keep something of the chunk for listed slots
pub least_in_slots : (a : Parts) (c : ℕ) (slot : Slot) (read from : List ℕ) (source : Source) (o : Option NodeId) → read ≡ from → source ≡ Slots from
    → Lessens a None o (λ w x. list_any (λ i. keeps_part (ring_of a) w (slot_at slot.partition i) c x) read) → (w : World) → Meets a w → IsLeastDown (is_up_at a.nodes) (keeps_source (ring_of a) w slot source c) o
least_in_slots a c slot read from source o is listed h w m =
    subst (λ (s : Source). IsLeastDown (is_up_at a.nodes) (keeps_source (ring_of a) w slot s c) o) (sym listed)
    (other_nodes (is_up_at a.nodes) o (λ x. list_any (λ i. keeps_part (ring_of a) w (slot_at slot.partition i) c x) read) (keeps_source (ring_of a) w slot (Slots from) c)
    (λ x. any_map (slot_at slot.partition) (λ s. some_below (length w.puts) (λ v. is_in_chunk (ring_of a) w slot c v && w.hinted x s v)) read
    ∙ ap (λ (xs : List ℕ). list_any (λ s. some_below (length w.puts) (λ v. is_in_chunk (ring_of a) w slot c v && w.hinted x s v)) (map (slot_at slot.partition) xs)) is)
    (least_of a o (λ u x. list_any (λ i. keeps_part (ring_of a) u (slot_at slot.partition i) c x) read) h w m))

-- ---- by number

module _ (a : Parts) (s : IsSized a) (slot : Slot) where
  -- what nodes keep of no id they keep of no key
  pub none_kept : (x : ℕ) → ((k : KeyId) → hinted_at a.hints x slot k ≡ []) ↔ ((key : List ℕ) → (kept_of a).hinted x slot key ≡ [])
  none_kept x = none a.keys (hinted_at a.hints x slot) s.numbered (s.hinted x slot)

  pub keepers_named : (nodes : List NodeId) → ((x : ℕ) → (in_keepers x nodes ≡ false) ↔ ((k : KeyId) → hinted_at a.hints x slot k ≡ [])) → (x : ℕ) → (in_keepers x nodes ≡ false) ↔ ((key : List ℕ) → (kept_of a).hinted x slot key ≡ [])
  keepers_named nodes h x = (λ e. (none_kept x).0 ((h x).0 e), λ n. (h x).1 ((none_kept x).1 n))

  pub chunk_kept : (w : World) (c x : ℕ) (b : Bool) → Meets a w → (b ≡ false) ↔ ((n : ℕ) → hinted_at a.hints x slot (id c n) ≡ []) → b ≡ keeps_part (ring_of a) w slot c x
  chunk_kept w c x b m h = part_kept (ring_of a) (plan_of a) (kept_of a) w m slot c x b (λ e key lies. (by c).0 (h.0 e) key (lies_too key lies), λ n. h.1 ((by c).1 (λ key lies. n key (lies_back key lies))))
    where
      by : (c : ℕ) → ((n : ℕ) → hinted_at a.hints x slot (id c n) ≡ []) ↔ ((key : List ℕ) → chunk_of a.keys.q key ≡ c → (kept_of a).hinted x slot key ≡ [])
      by c = none_in_chunk a.keys c (hinted_at a.hints x slot) s.numbered (s.hinted x slot)

      lies_too : (key : List ℕ) → chunk_of (ring_of a).q key ≡ c → chunk_of a.keys.q key ≡ c
      lies_too key e = ap (λ (q : ℕ). chunk_of q key) s.keys ∙ e

      lies_back : (key : List ℕ) → chunk_of a.keys.q key ≡ c → chunk_of (ring_of a).q key ≡ c
      lies_back key e = ap (λ (q : ℕ). chunk_of q key) (sym s.keys) ∙ e

-- whether a node keeps something, by ids and by keys
pub keeps_named : (a : Parts) → IsSized a → (x : ℕ) (slot : Slot) (b : Bool) → (b ≡ false) ↔ ((k : KeyId) → hinted_at a.hints x slot k ≡ []) → (b ≡ false) ↔ ((key : List ℕ) → (kept_of a).hinted x slot key ≡ [])
keeps_named a s x slot b h = (λ e. (none_kept a s slot x).0 (h.0 e), λ n. h.1 ((none_kept a s slot x).1 n))
