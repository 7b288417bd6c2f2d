use Rattle.std.proofs.Common.{◌≡◌, ℕ, true, sym, subst}
use Rattle.std.specs.Prelude.{Some, slice_get, option_map}
use Rattle.std.proofs.Props.{props}
use Rattle.ring_space.specs.Place.{place_of}
use Rattle.plan_runs.specs.World.{slot_at}
use Rattle.store_parts.specs.Parts.{ring_of, plan_of, kept_of}
use Rattle.store_parts.proofs.StoreInWorld.{holds}
use Rattle.ring_store.specs.Stores.{held_at}
use Rattle.ring_hints.specs.Hints.{hinted_at}
use Rattle.store_parts.proofs.Numbers.{id_named}
use Rattle.store_clients.specs.Keepers.{JoinsTell, MergesOthers}
use Rattle.store_clients.proofs.SlotHasOfKey.{get_key_there, reads_there, finds_shown, at_number, at_key}
use Rattle.store_clients.proofs.SlotJoins.{joins_tell}
use Rattle.store_clients.proofs.looks.look.Goals as goal

pub unreachable-requires : goal.unreachable-requires
unreachable-requires c =
    let a = c.args.parts.now in
    holds a c.requires.sound (hlevel props) (λ w m. (reads_there (ring_of a) (plan_of a) (kept_of a) w m c.args.get c.args.index (sym (c.requires.passes w m))).0 (sym c.in_default.ensures))

pub place-place-requires : goal.place-place-requires
place-place-requires c =
    let a = c.args.parts.now in
    holds a c.requires.sound (hlevel props) (λ w m. get_key_there (ring_of a) (plan_of a) (kept_of a) w m c.args.get c.in-Some.now.now (sym c.in-Some.ensures))

pub id-key-requires : goal.id-key-requires
id-key-requires c =
    let a = c.args.parts.now in
    holds a c.requires.sound (hlevel props) (λ w m. get_key_there (ring_of a) (plan_of a) (kept_of a) w m c.args.get c.in-Some.now.now (sym c.in-Some.ensures))

pub slot_versions-requires : goal.slot_versions-requires
slot_versions-requires c =
    let a = c.args.parts.now in
    let slot = slot_at c.place-place.result.partition c.args.index in
    let key = id_named a.keys c.in-Some.now.now.key c.id-key.result c.id-key.ensures.id in
    holds a c.requires.sound (hlevel props) (λ w m. at_number a.keys c.requires.sound.sized.numbered c.in-Some.now.now.key c.id-key.result key.0 key.1 key.2 JoinsTell a.slots (held_at a.stores) (hinted_at a.hints) slot (joins_tell (ring_of a) (plan_of a) (kept_of a) w m slot key.0))

pub returns-clause-ok : goal.returns-clause-ok
returns-clause-ok c w m =
    let a = c.args.parts.now in
    let get = c.in-Some.now.now in
    let place = c.place-place.result in
    let lies = subst (λ (q : ℕ). option_map (place_of q) (slice_get a.keys.keys get.key) ≡ Some place) c.requires.sound.sized.keys c.place-place.ensures.place in
    let key = id_named a.keys get.key c.id-key.result c.id-key.ensures.id in
    let slot = slot_at place.partition c.args.index in
    let at_slot = c.in_ok-at_slot.at_slot in
    let merged = at_key a.keys c.requires.sound.sized.numbered get.key c.id-key.result key.0 key.1 key.2 (λ these others. MergesOthers these (λ x. true) others at_slot) a.slots (held_at a.stores) (hinted_at a.hints) slot (c.in_ok-at_slot.ensures).ok in
    let there = reads_there (ring_of a) (plan_of a) (kept_of a) w m c.args.get c.args.index (sym (c.requires.passes w m)) in
    record {
      get = get;
      is = sym c.in-Some.ensures;
      at_slot = c.in_ok-at_slot.at_slot;
      shows = finds_shown (ring_of a) (plan_of a) (kept_of a) w m c.args.get c.args.index get place key.0 at_slot (sym c.in-Some.ensures) lies key.1 there.1 merged;
      merged = (c.in_ok-found.ensures).ok;
      numbers = (c.in_ok-puts.ensures).ok;
    }
