use Rattle.std.proofs.Common.{◌≡◌, ◌∙◌, ℕ, ◌∷◌, [], not, nat_le, length, sym, ap, subst}
use Rattle.std.proofs.Props.{props}
use Rattle.std.specs.Prelude.{Some, slice_get, option_map}
use Rattle.ring_names.specs.declared.refusal.Refusal.TheVariants.{AlreadyDone, StaleTickets}
use Rattle.ring_space.specs.Place.{place_of}
use Rattle.ring_table.specs.Value.{RingValue}
use Rattle.plan_stage.specs.Clauses.{first_failing}
use Rattle.plan_runs.specs.World.{passing_below}
use Rattle.store_parts.specs.Parts.{ring_of, plan_of, kept_of}
use Rattle.store_parts.proofs.StoreInWorld.{holds}
use Rattle.store_clients.specs.Acks.{is_current_in}
use Rattle.store_clients.proofs.Acknowledgements.{no_put, put_key_there, put_tested}
use Rattle.store_clients.proofs.acks.ack_refusal.Goals as goal

pub returns-in_default : goal.returns-in_default
returns-in_default c w m = (let a = c.args.parts.now in no_put (ring_of a) (plan_of a) (kept_of a) w m c.args.put (sym c.in_default.ensures))

pub place-place-requires : goal.place-place-requires
place-place-requires c =
    let a = c.args.parts.now in
    holds a c.requires (hlevel props) (λ w m. put_key_there (ring_of a) (plan_of a) (kept_of a) w m c.args.put c.in-Some.now.now (sym c.in-Some.ensures))

pub returns : goal.returns
returns c w m =
    let a = c.args.parts.now in
    let put = c.in-Some.now.now in
    let place = c.place-place.result in
    let current = c.current_tickets-current.result in
    let n : c.n.result ≡ (ring_of a).n = c.n.ensures.value ∙ ap (λ (r : RingValue). r.n) c.ring-ring.ensures.value in
    let needed : c.w.result ≡ (ring_of a).w = c.w.ensures.value ∙ ap (λ (r : RingValue). r.w) c.ring-ring.ensures.value in
    let counted = c.current_tickets-current.ensures ∙ ap (λ (z : ℕ). length (passing_below z (is_current_in a.slots put place.partition))) n in
    let lies = subst (λ (q : ℕ). option_map (place_of q) (slice_get a.keys.keys put.key) ≡ Some place) c.requires.sized.keys c.place-place.ensures.place in
    c.refusal_by.ensures
    ∙ ap (λ (z : ℕ). first_failing ((not put.acked, AlreadyDone) ∷ (nat_le z current, StaleTickets current) ∷ [])) needed
    ∙ put_tested (ring_of a) (plan_of a) (kept_of a) w m c.args.put current put place (sym c.in-Some.ensures) lies counted
