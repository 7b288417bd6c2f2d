-- Who keeps hints for what, by the versions that are kept.
use Rattle.std.proofs.Common.{◌≡◌, inl, ◌∙◌, ℕ, ◌<◌, Bool, true, false, not, List, [], ◌∷◌, length, refl, sym, ap, subst, eqb-true, eq-eqb}
use Rattle.std.specs.Prelude.{◌≢◌, ◌↔◌, ◌==◌, ◌&&◌}
use Rattle.std.proofs.lemmas.Bool.{and_parts, and_from}
use Rattle.std.proofs.lemmas.Slice.Eq.{bytes_eq-Decides}
use Rattle.ring_names.specs.declared.ids.Slot.{Slot}
use Rattle.ring_table.specs.Value.{RingValue}
use Rattle.ring_space.specs.Place.{place_of}
use Rattle.ring_versions.specs.declared.version.Version.{Version}
use Rattle.ring_versions.specs.Versions.{Covers}
use Rattle.plan_text.specs.declared.step.Planned.{Planned}
use Rattle.plan_stage.specs.Each.{sibling}
use Rattle.plan_runs.specs.Guards.{keeps_of_key}
use Rattle.plan_runs.specs.Reached.{Reached}
use Rattle.plan_runs.specs.Versions.{is_in_chunk}
use Rattle.plan_runs.specs.World.{World, some_below, key_of_put, is_of_key, slot_at, keeps, keeps_other, keeps_any}
use Rattle.plan_runs.proofs.Passing.{some_found, some_is}
use Rattle.store_parts.specs.KeyTable.{chunk_of}
use Rattle.store_parts.specs.PutsMeet.{clock_at}
use Rattle.store_parts.proofs.PutsFrames.{put_key}
use Rattle.store_parts.specs.Kept.{Kept, Tells}
use Rattle.store_parts.proofs.GetsChanges.{some_none}
use Rattle.store_parts.proofs.StoreInWorld.{reached_of}

-- two tests are one where each is failed in the same case
pub both_tell : {P : Type 0} → (a b : Bool) → (a ≡ false) ↔ P → (b ≡ false) ↔ P → a ≡ b
both_tell true true p q = refl
both_tell true false p q = p.1 (q.0 refl)
both_tell false true p q = sym (q.1 (p.0 refl))
both_tell false false p q = refl

module _ (ring : RingValue) (plan : List Planned) (k : Kept) (w : World) (m : Tells ring plan k w) where
  r : Reached ring plan w
  r = reached_of ring plan k w m

  -- a put that is kept as a hint is among the versions of its key
  pub shown : (x : ℕ) (s : Slot) (v : ℕ) → w.hinted x s v ≡ true → k.hinted x s (key_of_put w v) ≡ [] → ⊥
  shown x s v h none =
      let of = (bytes_eq-Decides (key_of_put w v) (key_of_put w v)).1 refl in
      let c = (m.hinted x s (key_of_put w v)).covers v (and_from (w.hinted x s v) (is_of_key w (key_of_put w v) v) h of) in
      (subst (λ (held : List Version). Covers held (clock_at k.puts v)) none c).1

  -- if there are versions of a key, a put of the key is kept
  pub kept_put : (x : ℕ) (s : Slot) (key : List ℕ) → (k.hinted x s key ≡ [] → ⊥) → (v : ℕ) × (v < length w.puts) × (w.hinted x s v ≡ true) × (key_of_put w v ≡ key)
  kept_put x s key some = by (k.hinted x s key) refl
    where
      by : (held : List Version) → k.hinted x s key ≡ held → (v : ℕ) × (v < length w.puts) × (w.hinted x s v ≡ true) × (key_of_put w v ≡ key)
      by [] e = absurd (some e)
      by (y ∷ ys) e =
          let d = (m.hinted x s key).drawn y (rw e (inl refl)) in
          let b = and_parts (w.hinted x s y.put) (is_of_key w key y.put) d.0 in
          (y.put, (r.hinted x s y.put b.0).0, b.0, (bytes_eq-Decides (key_of_put w y.put) key).0 b.1)

  -- ---- of one key

  pub keeps_key : (key : List ℕ) (s : Slot) (x : ℕ) → (keeps_of_key w key s x ≡ false) ↔ (k.hinted x s key ≡ [])
  keeps_key key s x = (
    λ e. by (k.hinted x s key) refl e,
    λ none. none_of (keeps_of_key w key s x) refl none,
  )
    where
      by : (held : List Version) → k.hinted x s key ≡ held → keeps_of_key w key s x ≡ false → k.hinted x s key ≡ []
      by [] e out = e
      by (y ∷ ys) e out = absurd (
          let p = kept_put x s key (λ none. (let f = sym e ∙ none in absurd cc)) in
          let of = (bytes_eq-Decides (key_of_put w p.0) key).1 p.3 in
          let i = some_is (length w.puts) (λ v. is_of_key w key v && w.hinted x s v) p.0 p.1 (and_from (is_of_key w key p.0) (w.hinted x s p.0) of p.2) in
          cc)

      none_of : (b : Bool) → keeps_of_key w key s x ≡ b → k.hinted x s key ≡ [] → keeps_of_key w key s x ≡ false
      none_of false e none = e
      none_of true e none = absurd (
          let f = some_found (length w.puts) (λ v. is_of_key w key v && w.hinted x s v) e in
          let b = and_parts (is_of_key w key f.0) (w.hinted x s f.0) f.2 in
          let same_key = (bytes_eq-Decides (key_of_put w f.0) key).0 b.0 in
          shown x s f.0 b.1 (rw same_key none))

  -- ---- of any key

  pub keeps_tells : (x : ℕ) (s : Slot) → (keeps w x s ≡ false) ↔ ((key : List ℕ) → k.hinted x s key ≡ [])
  keeps_tells x s = (
    λ e key. by key (k.hinted x s key) refl e,
    λ none. none_of (keeps w x s) refl none,
  )
    where
      by : (key : List ℕ) (held : List Version) → k.hinted x s key ≡ held → keeps w x s ≡ false → k.hinted x s key ≡ []
      by key [] e out = e
      by key (y ∷ ys) e out = absurd (
          let p = kept_put x s key (λ none. (let f = sym e ∙ none in absurd cc)) in
          let i = some_is (length w.puts) (λ v. w.hinted x s v) p.0 p.1 p.2 in
          cc)

      none_of : (b : Bool) → keeps w x s ≡ b → ((key : List ℕ) → k.hinted x s key ≡ []) → keeps w x s ≡ false
      none_of false e none = e
      none_of true e none = absurd (
          let f = some_found (length w.puts) (λ v. w.hinted x s v) e in
          shown x s f.0 f.2 (none (key_of_put w f.0)))

  -- a node that keeps something for a slot keeps a put of a slot of the ring
  kept_slot : (x : ℕ) (s : Slot) → keeps w x s ≡ true → (s.partition < ring.q) × (s.index < ring.n)
  kept_slot x s e =
      let f = some_found (length w.puts) (λ v. w.hinted x s v) e in
      let key = put_key k.keys k.last k.puts w m.puts f.0 f.1 in
      let lies = m.placed key.0 (key_of_put w f.0) key.1 in
      let of = (r.hinted x s f.0 f.2).1 in
      (subst (λ (p : ℕ). p < ring.q) of lies, m.hints x s f.0 f.2)

  -- ---- for other slots of the partition

  pub other_tells : (x : ℕ) (slot : Slot) → (keeps_other ring w x slot ≡ false) ↔ ((s : Slot) → s.partition ≡ slot.partition → s.index ≢ slot.index → (key : List ℕ) → k.hinted x s key ≡ [])
  other_tells x slot = (
    λ e s p i. (keeps_tells x s).0 (by s p i (keeps w x s) refl e),
    λ none. some_none ring.n (λ i. not (i == slot.index) && keeps w x (sibling slot i)) (λ i. each none i (i == slot.index) refl),
  )
    where
      by : (s : Slot) → s.partition ≡ slot.partition → s.index ≢ slot.index → (b : Bool) → keeps w x s ≡ b → keeps_other ring w x slot ≡ false → keeps w x s ≡ false
      by s p i false e out = e
      by s p i true e out = absurd (
          let within = kept_slot x s e in
          let is : sibling slot s.index ≡ s = ap (λ (n : ℕ). sibling (record { partition = n; index = s.index }) s.index) (sym p) in
          let at = some_is ring.n (λ j. not (j == slot.index) && keeps w x (sibling slot j)) s.index within.1
          (and_from (not (s.index == slot.index)) (keeps w x (sibling slot s.index)) (apart (s.index == slot.index) refl) (rw is e)) in
          cc)
        where
          apart : (b : Bool) → (s.index == slot.index) ≡ b → not b ≡ true
          apart true t = absurd (i (eqb-true s.index slot.index t))
          apart false t = refl

      each : ((s : Slot) → s.partition ≡ slot.partition → s.index ≢ slot.index → (key : List ℕ) → k.hinted x s key ≡ []) → (i : ℕ) (b : Bool) → (i == slot.index) ≡ b → (not b && keeps w x (sibling slot i)) ≡ false
      each none i true e = refl
      each none i false e = (keeps_tells x (sibling slot i)).1 (none (sibling slot i) refl (λ h. (let t : (i == slot.index) ≡ true = eq-eqb i slot.index h in cc)))

  -- ---- for any slot

  pub any_tells : (x : ℕ) → (keeps_any ring w x ≡ false) ↔ ((s : Slot) (key : List ℕ) → k.hinted x s key ≡ [])
  any_tells x = (
    λ e s. (keeps_tells x s).0 (by s (keeps w x s) refl e),
    λ none. some_none ring.q (λ p. some_below ring.n (λ i. keeps w x (slot_at p i))) (λ p. some_none ring.n (λ i. keeps w x (slot_at p i)) (λ i. (keeps_tells x (slot_at p i)).1 (none (slot_at p i)))),
  )
    where
      by : (s : Slot) (b : Bool) → keeps w x s ≡ b → keeps_any ring w x ≡ false → keeps w x s ≡ false
      by s false e out = e
      by s true e out = absurd (
          let within = kept_slot x s e in
          let inner = some_is ring.n (λ i. keeps w x (slot_at s.partition i)) s.index within.1 e in
          let outer = some_is ring.q (λ p. some_below ring.n (λ i. keeps w x (slot_at p i))) s.partition within.0 inner in
          cc)

  -- ---- of the keys of a chunk

  -- whether the node keeps for slot s a put of that chunk
  abbrev pub keeps_in_chunk : ℕ → Slot → ℕ → Bool
  keeps_in_chunk x s c = some_below (length w.puts) (λ v. is_in_chunk ring w s c v && w.hinted x s v)

  pub chunk_tells : (x : ℕ) (s : Slot) (c : ℕ) → (keeps_in_chunk x s c ≡ false) ↔ ((key : List ℕ) → chunk_of ring.q key ≡ c → k.hinted x s key ≡ [])
  unfolding chunk_of
  chunk_tells x s c = (
    λ e key lies. by key (k.hinted x s key) refl lies e,
    λ none. none_of (keeps_in_chunk x s c) refl none,
  )
    where
      by : (key : List ℕ) (held : List Version) → k.hinted x s key ≡ held → (place_of ring.q key).chunk ≡ c → keeps_in_chunk x s c ≡ false → k.hinted x s key ≡ []
      by key [] e lies out = e
      by key (y ∷ ys) e lies out = absurd (
          let p = kept_put x s key (λ none. (let f = sym e ∙ none in absurd cc)) in
          let part : ((place_of ring.q (key_of_put w p.0)).partition == s.partition) ≡ true = is_same ((place_of ring.q (key_of_put w p.0)).partition) s.partition (r.hinted x s p.0 p.2).1 in
          let chunk : ((place_of ring.q (key_of_put w p.0)).chunk == c) ≡ true = is_same ((place_of ring.q (key_of_put w p.0)).chunk) c (rw p.3 lies) in
          let i = some_is (length w.puts) (λ v. is_in_chunk ring w s c v && w.hinted x s v) p.0 p.1
          (and_from (is_in_chunk ring w s c p.0) (w.hinted x s p.0) (and_from ((place_of ring.q (key_of_put w p.0)).partition == s.partition) ((place_of ring.q (key_of_put w p.0)).chunk == c) part chunk) p.2) in
          cc)
        where
          is_same : (a b : ℕ) → a ≡ b → (a == b) ≡ true
          is_same a b same = eq-eqb a b same

      none_of : (b : Bool) → keeps_in_chunk x s c ≡ b → ((key : List ℕ) → (place_of ring.q key).chunk ≡ c → k.hinted x s key ≡ []) → keeps_in_chunk x s c ≡ false
      none_of false e none = e
      none_of true e none = absurd (
          let f = some_found (length w.puts) (λ v. is_in_chunk ring w s c v && w.hinted x s v) e in
          let b = and_parts (is_in_chunk ring w s c f.0) (w.hinted x s f.0) f.2 in
          let d = and_parts ((place_of ring.q (key_of_put w f.0)).partition == s.partition) ((place_of ring.q (key_of_put w f.0)).chunk == c) b.0 in
          shown x s f.0 b.1 (none (key_of_put w f.0) (eqb-true ((place_of ring.q (key_of_put w f.0)).chunk) c d.1)))
