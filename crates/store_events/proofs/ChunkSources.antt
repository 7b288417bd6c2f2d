-- What is read of a chunk, one source after the other.
use Rattle.std.proofs.Common.{◌≡◌, inl, inr, ◌∙◌, ℕ, Bool, true, false, cond, List, [], ◌∷◌, length, map, refl, sym, ap, subst, eq-eqb}
use Rattle.std.specs.Prelude.{◌&&◌, ◌||◌, ◌==◌, ◌↔◌, Option, Some, None, option_map, is_some}
use Rattle.std.specs.List.{list_any}
use Rattle.std.proofs.Math.Bool.{or_assoc}
use Rattle.std.proofs.lemmas.Bool.{and_parts, or_right, or_cases, or_left}
use Rattle.ring_names.specs.declared.ids.NodeId.{NodeId}
use Rattle.ring_names.specs.declared.ids.Slot.{Slot}
use Rattle.ring_names.proofs.Logic.{or_false, bool_same}
use Rattle.ring_clock.specs.declared.entry.Entry.{Entry}
use Rattle.ring_table.specs.Value.{RingValue}
use Rattle.ring_versions.specs.declared.version.Version.{Version}
use Rattle.store_parts.specs.KeyTable.{chunk_of}
use Rattle.store_maps.specs.Ids.{id, of_chunk}
use Rattle.store_maps.specs.Merges.{MergesAll}
use Rattle.store_maps.specs.declared.key_id.KeyId.{KeyId}
use Rattle.store_parts.specs.Numbers.{ArePlaced, by_bytes, in_part}
use Rattle.store_parts.proofs.Numbers.{nothing_at, nothing_of_chunk, part_at, part_merged, placed_more, placed_part}
use Rattle.ring_hints.specs.Views.{in_keepers}
use Rattle.ring_hints.proofs.KeeperSets.{equal}
use Rattle.store_maps.proofs.HoldersChanged.{node_tie}
use Rattle.plan_text.specs.declared.step.Planned.{Planned}
use Rattle.plan_text.specs.declared.step.Source.TheVariants.{Slots}
use Rattle.plan_runs.specs.Effects.{source_has}
use Rattle.plan_runs.specs.Versions.{some_hinted, slot_has}
use Rattle.plan_runs.specs.World.{World, is_of_key, stage_now, key_of_put, slot_at}
use Rattle.plan_runs.proofs.Passing.{some_found, some_is}
use Rattle.store_parts.specs.declared.slots.SlotNow.{SlotNow}
use Rattle.store_parts.specs.Slots.{slot_now}
use Rattle.store_parts.specs.Shows.{Shows, value_of}
use Rattle.store_parts.proofs.ShownSets.{merge, none, with_none, other_test}
use Rattle.store_parts.specs.PutsMeet.{clock_at}
use Rattle.store_parts.proofs.SlotsFit.{kept_is}
use Rattle.store_parts.specs.Kept.{Kept, Tells}
use Rattle.store_parts.specs.Parts.{IsSized, ring_of, plan_of, Meets}
use Rattle.store_parts.specs.declared.parts.Parts.{Parts}
use Rattle.store_parts.proofs.KeepersDeclared.{keeper_within}
use Rattle.store_parts.proofs.GetsChanges.{some_none}
use Rattle.store_parts.proofs.WhoKeepsHints.{shown}
use Rattle.store_events.specs.Sources.{ShowsChunk, Gathers, Takes, are_kept, is_kept}

-- ---- versions of a chunk's keys that show puts

either_of : (a b c : Bool) → ((a && c) || (b && c)) ≡ ((a || b) && c)
either_of true true true = refl
either_of true true false = refl
either_of true false true = refl
either_of true false false = refl
either_of false b c = refl

module _ (q : ℕ) (w : World) (clock : ℕ → List Entry) (c : ℕ) where
  pub other_puts : (held : List ℕ → List Version) (f g : ℕ → Bool) → ((v : ℕ) → f v ≡ g v) → ShowsChunk q w clock c held f → ShowsChunk q w clock c held g
  other_puts held f g same shows k e = other_test clock (value_of w) (held k) (λ v. f v && is_of_key w k v) (λ v. g v && is_of_key w k v) (λ v. ap (λ (b : Bool). b && is_of_key w k v) (same v)) (shows k e)

  -- where more comes, more is shown
  pub more_shown : (old more new : List ℕ → List Version) (f g : ℕ → Bool) → ShowsChunk q w clock c old f → ShowsChunk q w clock c more g → MergesAll old more new → ShowsChunk q w clock c new (λ v. f v || g v)
  more_shown old more new f g shows brings merges k e =
      other_test clock (value_of w) (new k) (λ v. (f v && is_of_key w k v) || (g v && is_of_key w k v)) (λ v. (f v || g v) && is_of_key w k v) (λ v. either_of (f v) (g v) (is_of_key w k v))
      (merge clock (value_of w) (old k) (more k) (new k) (λ v. f v && is_of_key w k v) (λ v. g v && is_of_key w k v) (shows k e) (brings k e) (merges k))

  -- where nothing comes that shows something, there was nothing
  pub nothing_shown : (held : List ℕ → List Version) (f g : ℕ → Bool) → ShowsChunk q w clock c held f → ShowsChunk q w clock c (λ k. []) g → ShowsChunk q w clock c held (λ v. f v || g v)
  nothing_shown held f g shows brings k e =
      other_test clock (value_of w) (held k) (λ v. (f v && is_of_key w k v) || (g v && is_of_key w k v)) (λ v. (f v || g v) && is_of_key w k v) (λ v. either_of (f v) (g v) (is_of_key w k v))
      (merge clock (value_of w) (held k) [] (held k) (λ v. f v && is_of_key w k v) (λ v. g v && is_of_key w k v) (shows k e) (brings k e) (with_none (held k) (shows k e).apart))

  -- no versions show no puts
  pub none_shown : (held : List ℕ → List Version) → ((k : List ℕ) → held k ≡ []) → ShowsChunk q w clock c held (λ v. false)
  none_shown held empty k e = subst (λ (vs : List Version). Shows clock (value_of w) vs (λ v. false)) (sym (empty k)) (none clock (value_of w))

  -- the part of a chunk shows the same puts of its keys
  pub part_shown : (p : ℕ) (kept held : List ℕ → List Version) (f : ℕ → Bool) → p ≡ q → ((k : List ℕ) → Shows clock (value_of w) (kept k) (λ v. f v && is_of_key w k v))
      → ((k : List ℕ) → held k ≡ cond (chunk_of p k == c) (kept k) []) → ShowsChunk q w clock c held f
  part_shown p kept held f space shows part k e =
      let here : (chunk_of p k == c) ≡ true = eq-eqb (chunk_of p k) c (ap (λ (n : ℕ). chunk_of n k) space ∙ e) in
      subst (λ (vs : List Version). Shows clock (value_of w) vs (λ v. f v && is_of_key w k v)) (sym (part k ∙ ap (λ (b : Bool). cond b (kept k) []) here)) (shows k)

-- ---- one source after the other

-- with some of the sources left, the rest of them shows the rest
abbrev pub Visits : {A : Type 0} → Parts → ℕ → (World → A → ℕ → Bool) → List A → (List ℕ → List Version) → (List ℕ → List Version) → List A → Type 0
Visits a c read all old new rest = (w : World) → Meets a w → (test : ℕ → Bool) → ShowsChunk (ring_of a).q w (clock_at a.puts) c old test
    → (done : ℕ → Bool) × ShowsChunk (ring_of a).q w (clock_at a.puts) c new (λ v. test v || done v) × ((v : ℕ) → (done v || list_any (λ y. read w y v) rest) ≡ list_any (λ y. read w y v) all)

module _ (a : Parts) (c : ℕ) where
  -- a source that shows these puts is merged in
  pub gathers : (p : ℕ) (kept : World → List ℕ → List Version) (old more new : List ℕ → List Version) (read : World → ℕ → Bool) → p ≡ (ring_of a).q
      → ((w : World) → Meets a w → (k : List ℕ) → Shows (clock_at a.puts) (value_of w) (kept w k) (λ v. read w v && is_of_key w k v)) → ((w : World) (k : List ℕ) → more k ≡ cond (chunk_of p k == c) (kept w k) [])
      → MergesAll old more new → Gathers a c old new read
  gathers p kept old more new read space shows part merges w m test had =
      more_shown (ring_of a).q w (clock_at a.puts) c old more new test (read w) had (part_shown (ring_of a).q w (clock_at a.puts) c p (kept w) more (read w) space (shows w m) (part w)) merges

  -- a source that has nothing is left out
  pub gathers_none : (p : ℕ) (kept : World → List ℕ → List Version) (old : List ℕ → List Version) (read : World → ℕ → Bool) → p ≡ (ring_of a).q
      → ((w : World) → Meets a w → (k : List ℕ) → Shows (clock_at a.puts) (value_of w) (kept w k) (λ v. read w v && is_of_key w k v)) → ((w : World) (k : List ℕ) → cond (chunk_of p k == c) (kept w k) [] ≡ [])
      → Gathers a c old old read
  gathers_none p kept old read space shows part w m test had =
      nothing_shown (ring_of a).q w (clock_at a.puts) c old test (read w) had (part_shown (ring_of a).q w (clock_at a.puts) c p (kept w) (λ k. []) (read w) space (shows w m) (λ k. sym (part w k)))

  -- the same puts, told in another way
  pub gathers_same : (old new : List ℕ → List Version) (f g : World → ℕ → Bool) → ((w : World) → Meets a w → (v : ℕ) → f w v ≡ g w v) → Gathers a c old new f → Gathers a c old new g
  gathers_same old new f g same h w m test had = other_puts (ring_of a).q w (clock_at a.puts) c new (λ v. test v || f w v) (λ v. test v || g w v) (λ v. ap (λ (b : Bool). test v || b) (same w m v)) (h w m test had)

  -- one source and then another
  pub gathers_both : (old mid new : List ℕ → List Version) (f g : World → ℕ → Bool) → Gathers a c old mid f → Gathers a c mid new g → Gathers a c old new (λ w v. f w v || g w v)
  gathers_both old mid new f g h i w m test had =
      other_puts (ring_of a).q w (clock_at a.puts) c new (λ v. (test v || f w v) || g w v) (λ v. test v || (f w v || g w v)) (λ v. or_assoc (test v) (f w v) (g w v)) (i w m (λ v. test v || f w v) (h w m test had))

  -- nothing was read
  pub gathers_no : (old : List ℕ → List Version) (f : World → ℕ → Bool) → ((w : World) → Meets a w → (v : ℕ) → f w v ≡ false) → Gathers a c old old f
  gathers_no old f no_puts w m test had = other_puts (ring_of a).q w (clock_at a.puts) c old test (λ v. test v || f w v) (λ v. sym (ap (λ (b : Bool). test v || b) (no_puts w m v) ∙ or_false (test v))) had

  module _ {A : Type 0} (read : World → A → ℕ → Bool) (all : List A) (old : List ℕ → List Version) where
    pub visits_first : Visits a c read all old old all
    visits_first w m test had = ((λ v. false), other_puts (ring_of a).q w (clock_at a.puts) c old test (λ v. test v || false) (λ v. sym (or_false (test v))) had, λ v. refl)

    pub visits_more : (mid new : List ℕ → List Version) (rest later : List A) (y : A) → rest ≡ y ∷ later → Gathers a c mid new (λ w. read w y) → Visits a c read all old mid rest → Visits a c read all old new later
    visits_more mid new rest later y is h visited w m test had =
        let p = visited w m test had in (
          λ v. p.0 v || read w y v,
          other_puts (ring_of a).q w (clock_at a.puts) c new (λ v. (test v || p.0 v) || read w y v) (λ v. test v || (p.0 v || read w y v)) (λ v. or_assoc (test v) (p.0 v) (read w y v)) (h w m (λ v. test v || p.0 v) p.1),
          λ v. or_assoc (p.0 v) (read w y v) (list_any (λ z. read w z v) later) ∙ sym (ap (λ (ys : List A). p.0 v || list_any (λ z. read w z v) ys) is) ∙ p.2 v,
        )

    pub visits_all : (new : List ℕ → List Version) (rest : List A) → rest ≡ [] → Visits a c read all old new rest → Gathers a c old new (λ w v. list_any (λ y. read w y v) all)
    visits_all new rest is visited w m test had =
        let p = visited w m test had in
        other_puts (ring_of a).q w (clock_at a.puts) c new (λ v. test v || p.0 v) (λ v. test v || list_any (λ y. read w y v) all)
        (λ v. ap (λ (b : Bool). test v || b) (sym (or_false (p.0 v)) ∙ sym (ap (λ (ys : List A). p.0 v || list_any (λ y. read w y v) ys) is) ∙ p.2 v)) p.1

-- ---- by number

-- some of the sources were visited, and what was read is of keys that have numbers
abbrev pub TakesSome : {A : Type 0} → Parts → ℕ → (World → A → ℕ → Bool) → List A → (ℕ → List Version) → (ℕ → List Version) → List A → Type 0
TakesSome a c read all old new rest = Visits a c read all (in_part a.keys c old) (in_part a.keys c new) rest × (ArePlaced a.keys (of_chunk c old) → ArePlaced a.keys (of_chunk c new))

module _ (a : Parts) (s : IsSized a) (c : ℕ) where
  -- a map of the chunk is merged in
  pub takes : (kept : KeyId → List Version) (old more new : ℕ → List Version) (read : World → ℕ → Bool) → ArePlaced a.keys kept
      → ((w : World) → Meets a w → (k : List ℕ) → Shows (clock_at a.puts) (value_of w) (by_bytes a.keys kept k) (λ v. read w v && is_of_key w k v)) → ((n : ℕ) → more n ≡ kept (id c n))
      → MergesAll old more new → Takes a c old new read
  takes kept old more new read placed shows part merges = (
    gathers a c a.keys.q (λ w. by_bytes a.keys kept) (in_part a.keys c old) (in_part a.keys c more) (in_part a.keys c new) read s.keys shows (λ w. part_at a.keys c more kept part) (part_merged a.keys c old more new merges),
    placed_more a.keys c old more new (placed_part a.keys c more kept part placed) merges,
  )

  -- there is none
  pub takes_none : (kept : KeyId → List Version) (old : ℕ → List Version) (read : World → ℕ → Bool)
      → ((w : World) → Meets a w → (k : List ℕ) → Shows (clock_at a.puts) (value_of w) (by_bytes a.keys kept k) (λ v. read w v && is_of_key w k v)) → ((n : ℕ) → kept (id c n) ≡ [])
      → Takes a c old old read
  takes_none kept old read shows none_there = (
    gathers_none a c a.keys.q (λ w. by_bytes a.keys kept) (in_part a.keys c old) read s.keys shows
        (λ w k. sym (part_at a.keys c (λ n. []) kept (λ n. sym (none_there n)) k) ∙ nothing_at a.keys (of_chunk c (λ n. [])) (nothing_of_chunk a.keys c (λ n. []) (λ n. refl)) k),
    λ p. p,
  )

module _ (a : Parts) (c : ℕ) where
  pub takes_both : (old mid new : ℕ → List Version) (f g : World → ℕ → Bool) → Takes a c old mid f → Takes a c mid new g → Takes a c old new (λ w v. f w v || g w v)
  takes_both old mid new f g h i = (gathers_both a c (in_part a.keys c old) (in_part a.keys c mid) (in_part a.keys c new) f g h.0 i.0, λ p. i.1 (h.1 p))

  module _ {A : Type 0} (read : World → A → ℕ → Bool) (all : List A) (old : ℕ → List Version) where
    pub some_first : TakesSome a c read all old old all
    some_first = (visits_first a c read all (in_part a.keys c old), λ p. p)

    pub some_more : (mid new : ℕ → List Version) (rest later : List A) (y : A) → rest ≡ y ∷ later → Takes a c mid new (λ w. read w y) → TakesSome a c read all old mid rest → TakesSome a c read all old new later
    some_more mid new rest later y is h took = (visits_more a c read all (in_part a.keys c old) (in_part a.keys c mid) (in_part a.keys c new) rest later y is h.0 took.0, λ p. h.1 (took.1 p))

    pub some_all : (new : ℕ → List Version) (rest : List A) → rest ≡ [] → TakesSome a c read all old new rest → Takes a c old new (λ w v. list_any (λ y. read w y v) all)
    some_all new rest is took = (visits_all a c read all (in_part a.keys c old) (in_part a.keys c new) rest is took.0, took.1)

-- ---- keepers

-- one of the nodes passes the test
pub some_node : (test : NodeId → Bool) (nodes : List NodeId) → list_any test nodes ≡ true → (y : NodeId) × (test y ≡ true)
some_node test [] e = absurd cc
some_node test (y ∷ nodes) e = elim (or_cases (test y) (list_any test nodes) e) [ inl here ↦ (y, here) | inr there ↦ some_node test nodes there ]

-- the node of that number is one of them, and passes it
pub named_node : (test : NodeId → Bool) (x : ℕ) (nodes : List NodeId) → in_keepers x nodes ≡ true → test (record { 0 = x }) ≡ true → list_any test nodes ≡ true
named_node test x [] e is = absurd cc
named_node test x (y ∷ nodes) e is = by (x == y.0) refl (λ there. named_node test x nodes there is)
  where
    by : (b : Bool) → (x == y.0) ≡ b → (in_keepers x nodes ≡ true → list_any test nodes ≡ true) → list_any test (y ∷ nodes) ≡ true
    by true same next = or_left (test y) (list_any test nodes) (subst (λ (n : ℕ). test (record { 0 = n }) ≡ true) (equal x y.0 same) is)
    by false apart next = or_right (test y) (list_any test nodes) (next (sym (ap (λ (b : Bool). b || in_keepers x nodes) (node_tie x y.0 ∙ apart)) ∙ e))

module _ (ring : RingValue) (plan : List Planned) (k : Kept) (w : World) (m : Tells ring plan k w) (slot : Slot) where
  -- the nodes that keep anything for the slot keep its hints
  pub keepers_have : (nodes : List NodeId) → ((x : ℕ) → (in_keepers x nodes ≡ false) ↔ ((key : List ℕ) → k.hinted x slot key ≡ [])) → (v : ℕ) → list_any (λ y. w.hinted y.0 slot v) nodes ≡ some_hinted ring w slot v
  keepers_have nodes keepers v = bool_same (list_any (λ y. w.hinted y.0 slot v) nodes) (some_hinted ring w slot v)
      (λ h. (let y = some_node (λ y. w.hinted y.0 slot v) nodes h in some_is (length ring.nodes) (λ x. w.hinted x slot v) y.0.0 (keeper_within ring plan k w m y.0.0 slot v y.1) y.1))
      (λ h. (let x = some_found (length ring.nodes) (λ x. w.hinted x slot v) h in named_node (λ y. w.hinted y.0 slot v) x.0 nodes (there x.0 x.2 (in_keepers x.0 nodes) refl) x.2))
    where
      there : (x : ℕ) → w.hinted x slot v ≡ true → (b : Bool) → in_keepers x nodes ≡ b → in_keepers x nodes ≡ true
      there x h true e = e
      there x h false e = absurd (shown ring plan k w m x slot v h ((keepers x).0 e (key_of_put w v)))

  -- if no node keeps anything for it there are none
  pub none_have : ((x : ℕ) (key : List ℕ) → k.hinted x slot key ≡ []) → (v : ℕ) → some_hinted ring w slot v ≡ false
  none_have empty v = some_none (length ring.nodes) (λ x. w.hinted x slot v) (λ x. by x (w.hinted x slot v) refl)
    where
      by : (x : ℕ) (b : Bool) → w.hinted x slot v ≡ b → w.hinted x slot v ≡ false
      by x false e = e
      by x true e = absurd (shown ring plan k w m x slot v e (empty x (key_of_put w v)))

  -- ---- the owner

  -- the owner that is kept is the slot's
  pub owner_now : (owner : NodeId) → Some owner ≡ option_map (λ x. x.owner) (slot_now k.rows slot) → owner ≡ (stage_now ring plan w slot).owner
  owner_now owner e = by (slot_now k.rows slot) refl
    where
      by : (o : Option SlotNow) → slot_now k.rows slot ≡ o → owner ≡ (stage_now ring plan w slot).owner
      by None at = absurd (let f = e ∙ ap (option_map (λ (x : SlotNow). x.owner)) at in cc)
      by (Some x) at = (let f : Some owner ≡ Some x.owner = e ∙ ap (option_map (λ (x : SlotNow). x.owner)) at in let same : owner ≡ x.owner = cc in same ∙ (kept_is ring plan k.rows w slot x m.slots at).owner)

  pub owner_shows : (owner : NodeId) → Some owner ≡ option_map (λ x. x.owner) (slot_now k.rows slot) → (key : List ℕ)
      → Shows (clock_at k.puts) (value_of w) (k.stored owner.0 slot key) (λ v. w.stored (stage_now ring plan w slot).owner.0 slot v && is_of_key w key v)
  owner_shows owner e key = subst (λ (x : NodeId). Shows (clock_at k.puts) (value_of w) (k.stored owner.0 slot key) (λ v. w.stored x.0 slot v && is_of_key w key v)) (owner_now owner e) (m.stored owner.0 slot key)

-- ---- lists of slots

-- those that are left are kept
pub kept_later : (rows : List (List SlotNow)) (p : ℕ) (rest later : List ℕ) (i : ℕ) → rest ≡ i ∷ later → are_kept rows p rest ≡ true → are_kept rows p later ≡ true
kept_later rows p rest later i is e = (and_parts (is_kept rows (slot_at p i)) (are_kept rows p later) (sym (ap (are_kept rows p) is) ∙ e)).1

pub any_map : {A B : Type 0} (f : A → B) (test : B → Bool) (xs : List A) → list_any (λ x. test (f x)) xs ≡ list_any test (map f xs)
any_map f test [] = refl
any_map f test (x ∷ xs) = ap (λ (b : Bool). test (f x) || b) (any_map f test xs)

-- from nothing
pub from_nothing : (a : Parts) (c : ℕ) (old new : List ℕ → List Version) (read : World → ℕ → Bool) → ((k : List ℕ) → old k ≡ []) → Gathers a c old new read
    → (w : World) → Meets a w → ShowsChunk (ring_of a).q w (clock_at a.puts) c new (read w)
from_nothing a c old new read empty h w m = h w m (λ v. false) (none_shown (ring_of a).q w (clock_at a.puts) c old empty)

-- from listed slots
pub from_slots : (a : Parts) (c : ℕ) (slot : Slot) (from : List ℕ) (old new : List ℕ → List Version) → ((k : List ℕ) → old k ≡ [])
    → Gathers a c old new (λ w v. list_any (λ i. slot_has (ring_of a) (plan_of a) w (slot_at slot.partition i) v) from)
    → (w : World) → Meets a w → ShowsChunk (ring_of a).q w (clock_at a.puts) c new (source_has (ring_of a) (plan_of a) w slot (Slots from))
from_slots a c slot from old new empty h w m =
    other_puts (ring_of a).q w (clock_at a.puts) c new (λ v. list_any (λ i. slot_has (ring_of a) (plan_of a) w (slot_at slot.partition i) v) from) (source_has (ring_of a) (plan_of a) w slot (Slots from))
    (λ v. any_map (slot_at slot.partition) (λ s. slot_has (ring_of a) (plan_of a) w s v) from)
    (from_nothing a c old new (λ u v. list_any (λ i. slot_has (ring_of a) (plan_of a) u (slot_at slot.partition i) v) from) empty h w m)

-- a list of no length is empty
pub none_left : {A : Type 0} (xs : List A) → length xs ≡ 0 → xs ≡ []
none_left [] e = refl
none_left (x ∷ xs) e = absurd cc

-- a slot that is kept has an owner
pub owner_there : (rows : List (List SlotNow)) (slot : Slot) → is_some (slot_now rows slot) ≡ true → None ≡ option_map (λ (x : SlotNow). x.owner) (slot_now rows slot) → ⊥
owner_there rows slot kept gone = by (slot_now rows slot) kept gone
  where
    by : (o : Option SlotNow) → is_some o ≡ true → None ≡ option_map (λ (x : SlotNow). x.owner) o → ⊥
    by None e f = cc
    by (Some x) e f = cc
