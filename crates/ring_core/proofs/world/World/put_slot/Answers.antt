use Rattle.std.proofs.Common.{◌≡◌, ℕ, ◌<◌, Some, sym, subst}
use Rattle.std.specs.Prelude.{slice_get, option_map}
use Rattle.std.proofs.Props.{props}
use Rattle.ring_space.specs.Place.{place_of}
use Rattle.store_parts.specs.Parts.{ring_of, plan_of, kept_of}
use Rattle.store_parts.proofs.StoreInWorld.{holds}
use Rattle.ring_core.proofs.SlotHoldsPut.{put_key_within}
use Rattle.ring_core.proofs.NodeStoresPut.{place_told}
use Rattle.ring_core.proofs.world.World.put_slot.Goals as goal

pub place-place-requires : goal.place-place-requires
place-place-requires c =
    let a = c.args.self.now.parts in
    holds a c.args.self.now.sound (hlevel props) (λ w m. put_key_within (ring_of a) (plan_of a) (kept_of a) w m c.args.put c.in-Some.now.now (sym c.in-Some.ensures))

pub returns-clause-slot : goal.returns-clause-slot
returns-clause-slot c w m =
    let a = c.args.self.now.parts in
    place_told (ring_of a) (plan_of a) (kept_of a) w m c.args.put c.args.index c.in-Some.now.now c.place-place.result (sym c.in-Some.ensures)
    (subst (λ (n : ℕ). option_map (place_of n) (slice_get a.keys.keys c.in-Some.now.now.key) ≡ Some c.place-place.result) c.args.self.now.sound.sized.keys c.place-place.ensures.place)

pub returns-clause-partition : goal.returns-clause-partition
returns-clause-partition c = subst (λ (n : ℕ). c.place-place.result.partition < n) c.args.self.now.sound.sized.keys c.place-place.ensures.partition
