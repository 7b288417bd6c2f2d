use Rattle.std.proofs.Common.{◌≡◌, ◌∙◌, ℕ, ◌<◌, List, length, sym, ap, subst, arith}
use Rattle.std.specs.Prelude.{Some, slice_get, option_map}
use Rattle.std.proofs.Props.{props}
use Rattle.ring_space.specs.Place.{place_of}
use Rattle.ring_table.specs.Value.{RingValue}
use Rattle.ring_hints.specs.Hints.{hinted_at}
use Rattle.ring_versions.specs.declared.version.Version.{Version}
use Rattle.plan_runs.specs.World.{slot_at}
use Rattle.store_parts.specs.Nodes.{is_up_at}
use Rattle.store_clients.specs.Reads.{StopsRead}
use Rattle.store_parts.proofs.Numbers.{id_named, others_named}
use Rattle.store_parts.specs.Parts.{ring_of, plan_of, kept_of}
use Rattle.store_parts.proofs.StoreInWorld.{holds}
use Rattle.store_clients.proofs.SlotHasOfKey.{get_key_there}
use Rattle.store_clients.proofs.SlotReads.{no_get, no_slot, get_ended, slot_read, nodes_stop}
use Rattle.store_clients.proofs.reads.read_refusal.Goals.{In-Some, After-n}
use Rattle.store_clients.proofs.reads.read_refusal.Goals as goal

-- the ring's number of slots
n_is : (c : After-n) → c.n.result ≡ (ring_of c.args.parts.now).n
n_is c = c.n.ensures.value ∙ ap (λ (r : RingValue). r.n) c.ring.ensures.value

-- the get's key has a number
key_there : (c : In-Some) → c.in-Some.now.now.key < length c.args.parts.now.keys.keys
key_there c =
    let a = c.args.parts.now in
    holds a c.requires (hlevel props) (λ w m. get_key_there (ring_of a) (plan_of a) (kept_of a) w m c.args.get c.in-Some.now.now (sym c.in-Some.ensures))

pub returns-in_default : goal.returns-in_default
returns-in_default c w m = (let a = c.args.parts.now in no_get (ring_of a) (plan_of a) (kept_of a) w m c.args.get c.args.index (sym c.in_default.ensures))

pub returns-then-n-index : goal.returns-then-n-index
returns-then-n-index c w m =
    let a = c.args.parts.now in
    let n = n_is (goal.at.returns-then-n-index c).After-n in
    no_slot (ring_of a) (plan_of a) (kept_of a) w m c.args.get c.args.index (omega arith)

pub returns-then-is_some : goal.returns-then-is_some
returns-then-is_some c w m =
    let a = c.args.parts.now in
    let n = n_is (goal.at.returns-then-is_some c).After-n in
    get_ended (ring_of a) (plan_of a) (kept_of a) w m c.args.get c.args.index c.in-Some.now.now (sym c.in-Some.ensures) (omega arith) (sym c.is_some.ensures ∙ c.if-is_some.true)

pub returns-then-has : goal.returns-then-has
returns-then-has c w m =
    let a = c.args.parts.now in
    let n = n_is (goal.at.returns-then-has c).After-n in
    slot_read (ring_of a) (plan_of a) (kept_of a) w m c.args.get c.args.index c.in-Some.now.now (sym c.in-Some.ensures) (omega arith) (sym c.is_some.ensures ∙ c.if-is_some.false) (sym c.has.ensures ∙ c.if-has.true)

pub place-place-requires : goal.place-place-requires
place-place-requires c = key_there (goal.at.place-place-requires c).In-Some

pub id-key-requires : goal.id-key-requires
id-key-requires c = key_there (goal.at.id-key-requires c).In-Some

pub returns : goal.returns
returns c w m =
    let a = c.args.parts.now in
    let get = c.in-Some.now.now in
    let place = c.place-place.result in
    let n = n_is (goal.at.returns c).After-n in
    let lies = subst (λ (q : ℕ). option_map (place_of q) (slice_get a.keys.keys get.key) ≡ Some place) c.requires.sized.keys c.place-place.ensures.place in
    let key = id_named a.keys get.key c.id-key.result c.id-key.ensures.id in
    let slot = slot_at place.partition c.args.index in
    let stops = subst (λ (f : ℕ → List Version). StopsRead a.slots (is_up_at a.nodes) f slot c.down_refusal.result) (sym (others_named a.keys (hinted_at a.hints) slot get.key c.id-key.result key.0 c.requires.sized.numbered key.1 key.2)) c.down_refusal.ensures in
    nodes_stop (ring_of a) (plan_of a) (kept_of a) w m c.args.get c.args.index get (sym c.in-Some.ensures) (omega arith) place key.0 c.down_refusal.result
    (sym c.is_some.ensures ∙ c.if-is_some.false) (sym c.has.ensures ∙ c.if-has.false) lies key.1 stops
