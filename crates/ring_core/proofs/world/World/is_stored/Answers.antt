use Rattle.std.proofs.Common.{List, sym, subst}
use Rattle.std.specs.Prelude.{◌↔◌, IsTrue}
use Rattle.std.proofs.Props.{props}
use Rattle.ring_store.specs.Stores.{held_at}
use Rattle.ring_versions.specs.Versions.{Covers}
use Rattle.ring_versions.specs.declared.version.Version.{Version}
use Rattle.plan_runs.specs.World.{slot_at}
use Rattle.store_parts.proofs.Numbers.{id_named, held_named}
use Rattle.store_parts.specs.Parts.{ring_of, plan_of, kept_of}
use Rattle.store_parts.proofs.StoreInWorld.{holds}
use Rattle.ring_core.proofs.SlotHoldsPut.{lies_there, one_of, none_of_one, put_key_within, one_version}
use Rattle.ring_core.proofs.NodeStoresPut.{stored_kept}
use Rattle.ring_core.proofs.world.World.is_stored.Goals as goal

pub unreachable-requires-in_default-first : goal.unreachable-requires-in_default-first
unreachable-requires-in_default-first c =
    let a = c.args.self.now.parts in
    holds a c.args.self.now.sound (hlevel props) (λ w m.
    none_of_one c.in-Some.now.now.version
    (one_version (ring_of a) (plan_of a) (kept_of a) w m c.args.put c.in-Some.now.now (sym c.in-Some.ensures))
    (sym (c.in_default-first.ensures).value))

pub place-place-requires : goal.place-place-requires
place-place-requires c =
    let a = c.args.self.now.parts in
    holds a c.args.self.now.sound (hlevel props) (λ w m. put_key_within (ring_of a) (plan_of a) (kept_of a) w m c.args.put c.in-Some.now.now (sym c.in-Some.ensures))

pub id-key-requires : goal.id-key-requires
id-key-requires c =
    let a = c.args.self.now.parts in
    holds a c.args.self.now.sound (hlevel props) (λ w m. put_key_within (ring_of a) (plan_of a) (kept_of a) w m c.args.put c.in-Some.now.now (sym c.in-Some.ensures))

pub returns : goal.returns
returns c w m =
    let a = c.args.self.now.parts in
    let s = c.args.self.now.sound.sized in
    let put = c.in-Some.now.now in
    let place = c.place-place.result in
    let slot = slot_at place.partition c.args.index in
    let key = id_named a.keys put.key c.id-key.result c.id-key.ensures.id in
    let covers = c.node_covers.result in
    stored_kept (ring_of a) (plan_of a) (kept_of a) w m c.args.node.0 c.args.put c.args.index put c.in-Some-first.version.now key.0 place covers
    (sym c.in-Some.ensures)
    (one_of put.version c.in-Some-first.version.now
    (one_version (ring_of a) (plan_of a) (kept_of a) w m c.args.put put (sym c.in-Some.ensures))
    (sym (c.in-Some-first.ensures).value))
    key.1 (lies_there (ring_of a) a.keys put.key key.0 place s.keys c.place-place.ensures.place key.1)
    (subst (λ (held : List Version). IsTrue covers ↔ Covers held c.in-Some-first.version.now.clock) (sym (held_named a.keys (held_at a.stores c.args.node.0 slot) put.key c.id-key.result key.0 s.numbered key.1 key.2)) c.node_covers.ensures)
