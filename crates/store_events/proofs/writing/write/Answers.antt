use Rattle.std.proofs.Common.{◌≡◌, ◌∙◌, ℕ, List, refl, sym, subst}
use Rattle.ring_names.specs.declared.ids.Slot.{Slot}
use Rattle.ring_versions.specs.declared.version.Version.{Version}
use Rattle.store_maps.proofs.OneAnswer.{always_err}
use Rattle.std.specs.Prelude.{Ok}
use Rattle.std.proofs.Props.{props}
use Rattle.plan_runs.specs.declared.event.Event.TheVariants.{Write}
use Rattle.plan_runs.specs.declared.event.Reply.TheVariants as reply
use Rattle.plan_runs.specs.Answers.{answer}
use Rattle.plan_runs.specs.World.{World, slot_at}
use Rattle.store_maps.specs.Merges.{at_key}
use Rattle.ring_store.specs.Stores.{held_at}
use Rattle.store_parts.specs.declared.puts.PutNow.{PutNow}
use Rattle.store_parts.specs.Kept.{Tells}
use Rattle.store_parts.specs.Numbers.{by_keys}
use Rattle.store_parts.proofs.Numbers.{id_named, given_at, kept_as, placed_as, placed_given, placed_one}
use Rattle.store_parts.specs.Parts.{ring_of, plan_of, kept_of}
use Rattle.store_parts.proofs.StoreInWorld.{holds}
use Rattle.store_events.proofs.RequiresMet.{slot_ready, mirror_ready}
use Rattle.store_events.proofs.PutAndSlot.{key_within, put_kept, put_slot_in_ring, partition_within, slot_is, slot_kept, index_few}
use Rattle.store_events.proofs.Writes.{write_exists, written}
use Rattle.store_events.proofs.writing.write.Goals as goal

pub unreachable-requires : goal.unreachable-requires
unreachable-requires c =
    let a = c.args.parts.now in
    holds a c.requires.sound (hlevel props) (λ w m.
    put_kept (ring_of a) (plan_of a) (kept_of a) w m c.args.put c.args.index (write_exists (ring_of a) (plan_of a) (kept_of a) w m c.args.put c.args.index (sym (c.requires.passes w m))) (sym c.in_default.ensures))

pub place-place-requires : goal.place-place-requires
place-place-requires c =
    let a = c.args.parts.now in
    holds a c.requires.sound (hlevel props) (λ w m. key_within (ring_of a) (plan_of a) (kept_of a) w m c.args.put c.in-Some.now.now (sym c.in-Some.ensures))

pub unreachable-requires-in_default-at : goal.unreachable-requires-in_default-at
unreachable-requires-in_default-at c =
    let a = c.args.parts.now in
    let place = c.place-place.result in
    holds a c.requires.sound (hlevel props) (λ w m.
    slot_kept (ring_of a) (plan_of a) (kept_of a) w m (slot_at place.partition c.args.index)
    (put_slot_in_ring (ring_of a) (plan_of a) (kept_of a) w m c.args.put c.args.index (write_exists (ring_of a) (plan_of a) (kept_of a) w m c.args.put c.args.index (sym (c.requires.passes w m)))
    place.partition (partition_within (ring_of a) (plan_of a) (kept_of a) w m c.args.put c.in-Some.now.now (sym c.in-Some.ensures) a.keys.q c.requires.sound.sized.keys place c.place-place.ensures.place))
    (sym c.in_default-at.ensures))

pub id-key-requires : goal.id-key-requires
id-key-requires c =
    let a = c.args.parts.now in
    holds a c.requires.sound (hlevel props) (λ w m. key_within (ring_of a) (plan_of a) (kept_of a) w m c.args.put c.in-Some.now.now (sym c.in-Some.ensures))

pub give-requires-clause-partition : goal.give-requires-clause-partition
give-requires-clause-partition c = slot_ready c.args.parts.now c.requires.sound (slot_at c.place-place.result.partition c.args.index) c.in-Some-at.served c.in-Some-at.ensures

pub give-requires-clause-mirror : goal.give-requires-clause-mirror
give-requires-clause-mirror c = mirror_ready c.args.parts.now c.requires.sound (slot_at c.place-place.result.partition c.args.index) c.in-Some-at.served c.in-Some-at.ensures

pub set_ticket-requires : goal.set_ticket-requires
set_ticket-requires c =
    let a = c.args.parts.now in
    holds a c.requires.sound (hlevel props) (λ w m.
    index_few (ring_of a) (plan_of a) (kept_of a) w m c.args.put c.args.index (write_exists (ring_of a) (plan_of a) (kept_of a) w m c.args.put c.args.index (sym (c.requires.passes w m))))

pub returns-clause-ok : goal.returns-clause-ok
returns-clause-ok c w m =
    let a = c.args.parts.now in
    let put = c.in-Some.now.now in
    let at = sym c.in-Some.ensures in
    let place = c.place-place.result in
    let served = c.in-Some-at.served in
    let slot = slot_at place.partition c.args.index in
    let key = id_named a.keys put.key c.id-key.result c.id-key.ensures.id in
    let stored = by_keys a.keys (held_at c.give.new.self) in
    let merged = given_at a.keys c.requires.sound.sized.numbered put.key c.id-key.result key.0 key.1 key.2 put.version served.owner served.mirror slot (held_at a.stores) (held_at c.give.new.self) (c.in_ok-give.ensures).ok in
    subst (λ (puts : List PutNow). (u : World) × (answer (ring_of a) (plan_of a) w (Write c.args.put c.args.index) ≡ Ok (u, reply.Ticket slot served.generation))
    × Tells (ring_of a) (plan_of a) (record (kept_of a) { stored = stored; puts = puts }) u) (sym c.set_ticket.ensures.put)
    (written (ring_of a) (plan_of a) (kept_of a) w m c.args.put c.args.index (sym (c.requires.passes w m)) put key.0 slot served stored at key.1
    (slot_is (ring_of a) (plan_of a) (kept_of a) w m c.args.put put at a.keys.q c.requires.sound.sized.keys place c.place-place.ensures.place c.args.index)
    (sym c.in-Some-at.ensures) merged)

pub returns-clause-follows : goal.returns-clause-follows
returns-clause-follows c =
    let a = c.args.parts.now in
    let s = c.requires.sound.sized in
    let put = c.in-Some.now.now in
    let served = c.in-Some-at.served in
    let key = id_named a.keys put.key c.id-key.result c.id-key.ensures.id in
    record {
      approved = refl;
      sized = record {
        space = (c.in_ok-give.ensures).space ∙ s.space;
        keys = s.keys;
        numbered = s.numbered;
        stored = placed_given a.keys served.owner served.mirror (slot_at c.place-place.result.partition c.args.index) (at_key c.id-key.result put.version) (held_at a.stores) (held_at c.give.new.self) s.stored
            (placed_one a.keys s.numbered put.key c.id-key.result key.0 key.1 key.2 put.version) (c.in_ok-give.ensures).ok;
        hinted = s.hinted;
      };
    }

pub returns-in_err-give-clause-same : goal.returns-in_err-give-clause-same
returns-in_err-give-clause-same c =
    let a = c.args.parts.now in
    always_err c.from_residual.result _ (λ w m.
    subst (λ (held : ℕ → Slot → List ℕ → List Version). Tells (ring_of a) (plan_of a) (record (kept_of a) { stored = held }) w) (kept_as a.keys (held_at a.stores) (held_at c.give.new.self) (c.in_err-give.ensures).err) m)

pub returns-in_err-give-clause-follows : goal.returns-in_err-give-clause-follows
returns-in_err-give-clause-follows c =
    let a = c.args.parts.now in
    let s = c.requires.sound.sized in
    record {
      approved = refl;
      sized = record { space = (c.in_err-give.ensures).space ∙ s.space; keys = s.keys; numbered = s.numbered; stored = placed_as a.keys (held_at a.stores) (held_at c.give.new.self) s.stored (c.in_err-give.ensures).err; hinted = s.hinted };
    }
