-- Keys that are numbered.
use Rattle.std.proofs.Common.{◌≡◌, ◌∙◌, ℕ, ◌<◌, List, sym, ap, subst}
use Rattle.std.proofs.Math.Path.{fun_ext}
use Rattle.std.specs.Prelude.{Some, slice_get, option_map}
use Rattle.ring_names.specs.Names.{place, with_name}
use Rattle.ring_names.proofs.Places.{get-place}
use Rattle.ring_space.specs.Place.{place_of}
use Rattle.ring_space.specs.declared.found.Place.{Place}
use Rattle.plan_runs.specs.World.{World}
use Rattle.ring_table.specs.Value.{RingValue}
use Rattle.ring_names.specs.declared.ids.Slot.{Slot}
use Rattle.ring_versions.specs.declared.version.Version.{Version}
use Rattle.ring_store.specs.Stores.{held_at, shared_space}
use Rattle.ring_store.specs.declared.stores.Stores.{Stores}
use Rattle.ring_hints.specs.Hints.{hinted_at}
use Rattle.ring_hints.specs.declared.hints.Hints.{Hints}
use Rattle.store_maps.specs.declared.key_id.KeyId.{KeyId}
use Rattle.store_parts.specs.KeyTable.{KeyTable}
use Rattle.store_parts.specs.declared.parts.Parts.{Parts}
use Rattle.store_parts.specs.Kept.{Kept, Tells}
use Rattle.store_parts.specs.Numbers.{by_keys, ArePlaced}
use Rattle.store_parts.specs.Parts.{AreSized, Meets, IsSized, IsSound, ring_of, plan_of, kept_of}
use Rattle.store_parts.specs.PutsMeet.{AreNumbered}
use Rattle.store_parts.proofs.Numbers.{held_still, placed_still}
use Rattle.store_parts.proofs.PutsKeys.{numbered_named}
use Rattle.store_parts.proofs.TellsStill.{key_named}

-- a key that was numbered lies in the space
pub lies_in : (old new : KeyTable) (key : List ℕ) (n : ℕ) (at : Place) → new ≡ record old { keys = with_name old.keys key } → place new.keys key ≡ Some n
    → option_map (place_of new.q) (slice_get new.keys n) ≡ Some at → at.partition < new.q → (place_of old.q key).partition < old.q
lies_in old new key n at same numbered lies within =
    let q : new.q ≡ old.q = ap (λ (t : KeyTable). t.q) same in
    let found : option_map (place_of new.q) (slice_get new.keys n) ≡ Some (place_of new.q key) = ap (option_map (place_of new.q)) (get-place new.keys n key numbered) in
    let is : at ≡ place_of new.q key = (let e = sym lies ∙ found in cc) in
    let there : (place_of new.q key).partition < new.q = subst (λ (z : Place). z.partition < new.q) is within in
    subst (λ (z : ℕ). (place_of z key).partition < z) q there

-- what the parts keep, by another table of keys
abbrev pub kept_by : Parts → KeyTable → Kept
kept_by a keys = record (kept_of a) { keys = keys.keys; stored = by_keys keys (held_at a.stores); hinted = by_keys keys (hinted_at a.hints) }

held_on : (t : KeyTable) (key : List ℕ) (held : ℕ → Slot → KeyId → List Version) → AreNumbered t.keys → ((x : ℕ) (s : Slot) → ArePlaced t (held x s)) → by_keys t held ≡ by_keys (record t { keys = with_name t.keys key }) held
held_on t key held numbered placed = fun_ext (λ x. fun_ext (λ s. fun_ext (λ k. sym (held_still t key (held x s) numbered (placed x s) k))))

-- a store that is sound tells of its worlds still after a key was numbered
pub named_still : (a : Parts) (keys : KeyTable) (key : List ℕ) → IsSound a → keys ≡ record a.keys { keys = with_name a.keys.keys key } → (place_of a.keys.q key).partition < a.keys.q
    → (w : World) → Meets a w → Tells (ring_of a) (plan_of a) (kept_by a keys) w
named_still a keys key sound same lies w m =
    let within = subst (λ (q : ℕ). (place_of q key).partition < q) sound.sized.keys lies in
    let more : KeyTable = record a.keys { keys = with_name a.keys.keys key } in
    let named = key_named (ring_of a) (plan_of a) (kept_of a) w key within m in
    subst (λ (t : KeyTable). Tells (ring_of a) (plan_of a) (kept_by a t) w) (sym same)
    (subst (λ (h : ℕ → Slot → List ℕ → List Version). Tells (ring_of a) (plan_of a) (record (kept_of a) { keys = more.keys; stored = by_keys more (held_at a.stores); hinted = h }) w) (held_on a.keys key (hinted_at a.hints) sound.sized.numbered sound.sized.hinted)
    (subst (λ (h : ℕ → Slot → List ℕ → List Version). Tells (ring_of a) (plan_of a) (record (kept_of a) { keys = more.keys; stored = h; hinted = by_keys a.keys (hinted_at a.hints) }) w) (held_on a.keys key (held_at a.stores) sound.sized.numbered sound.sized.stored) named))

-- and its parts are of the ring's size still
pub sized_still : (a : Parts) (ring : RingValue) (table : KeyTable) (stores : Stores) (hints : Hints) (key : List ℕ) → IsSized a → ring ≡ ring_of a → stores ≡ a.stores → hints ≡ a.hints → table ≡ record a.keys { keys = with_name a.keys.keys key }
    → AreSized ring table stores hints
sized_still a ring table stores hints key s same stored hinted named = record {
  space = ap shared_space stored ∙ s.space ∙ ap (λ (r : RingValue). r.q) (sym same);
  keys = ap (λ (t : KeyTable). t.q) named ∙ s.keys ∙ ap (λ (r : RingValue). r.q) (sym same);
  numbered = subst (λ (u : KeyTable). AreNumbered u.keys) (sym named) (numbered_named a.keys.keys key s.numbered);
  stored = λ x t. subst (λ (u : KeyTable). ArePlaced u (held_at stores x t)) (sym named) (subst (λ (z : Stores). ArePlaced (record a.keys { keys = with_name a.keys.keys key }) (held_at z x t)) (sym stored) (placed_still a.keys key (held_at a.stores x t) (s.stored x t)));
  hinted = λ x t. subst (λ (u : KeyTable). ArePlaced u (hinted_at hints x t)) (sym named) (subst (λ (z : Hints). ArePlaced (record a.keys { keys = with_name a.keys.keys key }) (hinted_at z x t)) (sym hinted) (placed_still a.keys key (hinted_at a.hints x t) (s.hinted x t)));
}
