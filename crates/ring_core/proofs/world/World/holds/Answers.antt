use Rattle.std.proofs.Common.{ℕ, ◌<◌, List, sym, subst}
use Rattle.std.specs.Prelude.{◌↔◌, IsTrue}
use Rattle.std.proofs.Props.{props}
use Rattle.ring_hints.specs.Hints.{hinted_at}
use Rattle.ring_store.specs.Stores.{held_at}
use Rattle.ring_versions.specs.Versions.{Covers}
use Rattle.ring_versions.specs.declared.version.Version.{Version}
use Rattle.plan_runs.specs.World.{slot_at}
use Rattle.store_parts.proofs.Numbers.{id_named, held_named, others_named}
use Rattle.ring_core.specs.Tables.{owner_kept}
use Rattle.store_parts.specs.Parts.{ring_of, plan_of, kept_of}
use Rattle.store_parts.proofs.StoreInWorld.{holds}
use Rattle.ring_core.proofs.SlotHoldsPut.{lies_there, one_of, none_of_one, put_key_within, one_version, held_kept}
use Rattle.ring_core.proofs.world.World.holds.Goals as goal

-- src/reads.rt:142:13
pub unreachable-requires-in_default-first : goal.unreachable-requires-in_default-first
unreachable-requires-in_default-first c =
    let a = c.args.self.now.parts in
    holds a c.args.self.now.sound (hlevel props) (λ w m.
    none_of_one c.in-Some.now.now.version
    (one_version (ring_of a) (plan_of a) (kept_of a) w m c.args.put c.in-Some.now.now (sym c.in-Some.ensures))
    (sym (c.in_default-first.ensures).value))

-- src/reads.rt:144:13
pub place-place-requires : goal.place-place-requires
place-place-requires c =
    let a = c.args.self.now.parts in
    holds a c.args.self.now.sound (hlevel props) (λ w m. put_key_within (ring_of a) (plan_of a) (kept_of a) w m c.args.put c.in-Some.now.now (sym c.in-Some.ensures))

pub id-key-requires : goal.id-key-requires
id-key-requires c =
    let a = c.args.self.now.parts in
    holds a c.args.self.now.sound (hlevel props) (λ w m. put_key_within (ring_of a) (plan_of a) (kept_of a) w m c.args.put c.in-Some.now.now (sym c.in-Some.ensures))

pub returns : goal.returns
returns c w m =
    let a = c.args.self.now.parts in
    let s = c.args.self.now.sound.sized in
    let put = c.in-Some.now.now in
    let clock = c.in-Some-first.version.now.clock in
    let place = c.place-place.result in
    let slot = slot_at place.partition c.args.index in
    let key = id_named a.keys put.key c.id-key.result c.id-key.ensures.id in
    let by_owner = c.owner_covers-by_owner.result in
    let by_hints = c.hints_cover-by_hints.result in
    let owner = (owner_kept (kept_of a) slot).0 in
    held_kept (ring_of a) (plan_of a) (kept_of a) w m c.args.put c.args.index put c.in-Some-first.version.now key.0 place by_owner by_hints
    c.requires.index (sym c.in-Some.ensures)
    (one_of put.version c.in-Some-first.version.now
    (one_version (ring_of a) (plan_of a) (kept_of a) w m c.args.put put (sym c.in-Some.ensures))
    (sym (c.in-Some-first.ensures).value))
    key.1 (lies_there (ring_of a) a.keys put.key key.0 place s.keys c.place-place.ensures.place key.1) (subst (λ (q : ℕ). place.partition < q) s.keys c.place-place.ensures.partition)
    (subst (λ (held : List Version). IsTrue by_owner ↔ Covers held clock) (sym (held_named a.keys (held_at a.stores owner slot) put.key c.id-key.result key.0 s.numbered key.1 key.2)) c.owner_covers-by_owner.ensures)
    (subst (λ (held : ℕ → List Version). IsTrue by_hints ↔ ((x : ℕ) × Covers (held x) clock)) (sym (others_named a.keys (hinted_at a.hints) slot put.key c.id-key.result key.0 s.numbered key.1 key.2)) c.hints_cover-by_hints.ensures)
