-- What runs of an approved plan promise, of a running store.
use Rattle.std.proofs.Common.{◌≡◌, ◌∙◌, ℕ, ◌≤◌, true, List, refl, arith, eqb-true, ltb-true}
use Rattle.std.specs.Prelude.{◌==◌, nat_lt, Result, Ok, Err, IfOk}
use Rattle.std.specs.Int.{bit_at}
use Rattle.ring_names.specs.declared.refusal.Refusal.{Refusal}
use Rattle.plan_runs.specs.declared.event.Event.{Event}
use Rattle.plan_runs.specs.declared.event.Event.TheVariants.{EndGet}
use Rattle.plan_runs.specs.declared.event.Reply.{Reply}
use Rattle.plan_runs.specs.declared.event.Reply.TheVariants.{Answer}
use Rattle.plan_check.specs.Headline.{KeepsPromises}
use Rattle.plan_runs.specs.Versions.{put_slot}
use Rattle.plan_runs.specs.World.{World as TheWorld, is_acked}
use Rattle.plan_runs.proofs.Passed.{among}
use Rattle.plan_runs.proofs.Succeeding.{is_held_from}
use Rattle.ring_core.specs.declared.world.World.{World}
use Rattle.ring_core.specs.World.{ring_of, plan_of, Meets}
use Rattle.ring_core.specs.Promises.{MeetsEveryRead, SeesAcknowledged, IsFresh}
use Rattle.ring_core.proofs.Masks.{Masked}

-- the mask of the slots that hold an acknowledged put has one of any R
pub mask_meets : (a : World) (put mask : ℕ) → KeepsPromises (ring_of a) (plan_of a) → (ring_of a).n ≤ 7 → Masked a put mask (ring_of a).n → (w : TheWorld) → Meets a w → is_acked w put ≡ true → MeetsEveryRead (ring_of a) mask
mask_meets a put mask k few is w m acked slots different within count =
    let one = (k.safe m.run.0 w m.run.1).held put acked slots different within count in
    let less : nat_lt one.0 (ring_of a).n ≡ true = among (λ i. nat_lt i (ring_of a).n) one.0 slots within one.1 in
    let small = ltb-true one.0 (ring_of a).n less in
    let held = is_held_from (ring_of a) (plan_of a) w put (put_slot (ring_of a) w put one.0) one.2 in
    let bit : (bit_at mask one.0 == 1) ≡ true = is w m one.0 (omega arith) ∙ rw (less, held) refl in
    (one.0, one.1, eqb-true (bit_at mask one.0) 1 bit)

-- a get that ends is answered what was acknowledged before it started
ends_fresh : (a : World) (g : ℕ) (found : List ℕ) → SeesAcknowledged a g found
ends_fresh a g found before between start mid u key run leads m last v of_key acked = m.approved.keeps.fresh before between start mid u key g found run leads last v of_key acked

fresh : (a : World) (e : Event) (r : Reply) → IsFresh a e r
fresh a (EndGet g) (Answer found) = ends_fresh a g found
fresh a e r = tt

pub all_fresh : (a : World) (e : Event) (o : Result Reply Refusal) → IfOk o (λ r. IsFresh a e r)
all_fresh a e (Ok r) = fresh a e r
all_fresh a e (Err x) = tt
