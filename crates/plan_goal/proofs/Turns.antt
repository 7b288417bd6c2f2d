-- A store that goes through plans one after the other.
use Rattle.std.proofs.Common.{◌≡◌, ◌∙◌, ℕ, true, List, [], ◌∷◌, refl, sym, subst}
use Rattle.ring_table.specs.Value.{RingValue}
use Rattle.plan_text.specs.declared.step.Planned.{Planned}
use Rattle.plan_runs.specs.declared.event.Entry.{Entry}
use Rattle.plan_runs.specs.declared.event.Event.TheVariants.{StartGet}
use Rattle.plan_runs.specs.declared.event.Reply.TheVariants as reply
use Rattle.plan_runs.specs.Guards.{guards}
use Rattle.plan_runs.specs.Runs.{Leads}
use Rattle.plan_runs.specs.World.{World, is_acked, opening_world}
use Rattle.plan_runs.proofs.Answered.{answered}
use Rattle.plan_runs.proofs.Lasting.{event_extends}
use Rattle.plan_runs.proofs.Passed.{all_met}
use Rattle.plan_check.specs.Firm.{Holding}
use Rattle.plan_check.specs.Safe.{Safe}
use Rattle.plan_check.proofs.Apart.{Inv, groups_apart, run_apart, run_inv, start_apart, start_inv}
use Rattle.plan_check.proofs.Entering.{Apart}
use Rattle.plan_check.proofs.Few.{transfers_are_few}
use Rattle.plan_check.proofs.Fresh.{Watched, watched_through}
use Rattle.plan_check.proofs.Holdings.{meets_reads, run_holding, start_holding}
use Rattle.plan_check.proofs.Members.{servers_are_members}
use Rattle.plan_check.proofs.Mirrored.{Holds, holds}
use Rattle.plan_check.proofs.Promised.{end_answers, start_watched}
use Rattle.plan_goal.specs.Sequence.{GetsSeePuts, GoesOn, HasNumbers, HasOwners, InTurn, IsSoundPlan, handed_on, later, within}
use Rattle.plan_goal.proofs.Handing.{handed_apart, handed_holding, handed_inv, handed_watched, same_acked}

-- what is known of a ring, its plan and a world
record Knows (ring : RingValue) (plan : List Planned) (w : World) : Type 0 where
  sound : IsSoundPlan ring plan
  apart : Apart ring plan w
  inv : Inv ring plan w
  holding : Holding ring plan w

known_plan : (ring : RingValue) (plan : List Planned) → IsSoundPlan ring plan → Holds ring plan
known_plan ring plan s = holds ring plan s.is_ring s.is_plan s.sound

-- through a run
knows_after : (ring : RingValue) (plan : List Planned) (run : List Entry) (w u : World) → Knows ring plan w → Leads ring plan w run u → Knows ring plan u
knows_after ring plan run w u b l =
    let k = known_plan ring plan b.sound in
    record {
      sound = b.sound;
      apart = run_apart ring plan k.known b.sound.sound.1.left run w u b.inv.reached b.apart l;
      inv = run_inv ring plan k run w u b.inv l;
      holding = run_holding ring plan k run w u b.inv b.holding l;
    }

-- where another plan takes over
knows_handed : (ring next : RingValue) (plan more : List Planned) (w : World) → Knows ring plan w → IsSoundPlan next more → HasNumbers ring next → HasOwners ring plan w next
    → Knows next more (handed_on w)
knows_handed ring next plan more w b s t o = record {
  sound = s;
  apart = handed_apart ring next plan more w t o b.apart;
  inv = handed_inv ring next plan more w t o b.inv;
  holding = handed_holding ring next plan more (known_plan ring plan b.sound).known w t o b.inv b.holding;
}

-- and through many
knows_on : (ring : RingValue) (plan : List Planned) (w : World) → Knows ring plan w → (last : RingValue) (its : List Planned) (u : World) → GoesOn ring plan w last its u → Knows last its u
knows_on ring plan w b last its u (within run _ l) = knows_after ring plan run w u b l
knows_on ring plan w b next more u (later last _ its _ run v _ before s t o l) =
    knows_after next more run (handed_on v) u (knows_handed last next its more v (knows_on ring plan w b last its v before) s t o) l

knows : (ring : RingValue) (plan : List Planned) (w : World) → InTurn ring plan w → Knows ring plan w
knows ring plan w t =
    let b : Knows t.first t.its (opening_world t.first) =
    record { sound = t.sound; apart = start_apart t.first t.its t.sound.is_ring; inv = start_inv t.first t.its t.sound.is_ring; holding = start_holding t.first t.its } in
    knows_on t.first t.its (opening_world t.first) b ring plan w t.goes_on

-- the store is safe
pub stays_safe : (ring : RingValue) (plan : List Planned) (w : World) → InTurn ring plan w → Safe ring plan w
stays_safe ring plan w t =
    let b = knows ring plan w t in
    let k = known_plan ring plan b.sound in
    let m = b.sound.sound.1 in
    record {
      held = λ v a. meets_reads ring plan k w b.inv.reached b.holding v a;
      apart = groups_apart ring plan w b.apart;
      few = transfers_are_few ring plan k.known m.settled b.sound.sound.0 m.covers w b.inv.reached;
      members = servers_are_members ring plan k.known m.members w b.inv.reached;
    }

-- ---- a get that is under way

-- through a run
watched_after : (ring : RingValue) (plan : List Planned) (run : List Entry) (w u : World) (v g : ℕ) → Knows ring plan w → Watched ring plan w v g → Leads ring plan w run u → Watched ring plan u v g
watched_after ring plan run w u v g b c l = (watched_through ring plan (known_plan ring plan b.sound) run w u b.inv b.holding v g c l).1

-- and through many
watched_on : (ring : RingValue) (plan : List Planned) (w : World) (v g : ℕ) → Knows ring plan w → Watched ring plan w v g → (last : RingValue) (its : List Planned) (u : World) → GoesOn ring plan w last its u
    → Watched last its u v g
watched_on ring plan w v g b c last its u (within run _ l) = watched_after ring plan run w u v g b c l
watched_on ring plan w v g b c next more u (later last _ its _ run x _ before s t o l) =
    let d = knows_on ring plan w b last its x before in
    watched_after next more run (handed_on x) u v g (knows_handed last next its more x d s t o)
    (handed_watched last next its more (known_plan last its d.sound).known x t o d.inv.reached v g (watched_on ring plan w v g b c last its x before)) l

pub gets_see : (ring : RingValue) (plan : List Planned) (start : World) → InTurn ring plan start → GetsSeePuts ring plan start
gets_see ring plan start t key g begun first last its mid w found on ended v of acked = end_answers last its (known_plan last its m.sound).known mid w v g found m.inv c ended
  where
    b : Knows ring plan start
    b = knows ring plan start t

    entry : Entry
    entry = record { event = StartGet key; reply = reply.Get g }

    n : Knows ring plan begun
    n = knows_after ring plan (entry ∷ []) start begun b (begun, first, refl)

    m : Knows last its mid
    m = knows_on ring plan begun n last its mid on

    c : Watched last its mid v g
    c = watched_on ring plan begun v g n (start_watched ring plan start begun key g v n.holding first of acked) last its mid on

-- ---- what is acknowledged stays so

acked_through : (ring : RingValue) (plan : List Planned) (run : List Entry) (w u : World) → Leads ring plan w run u → (v : ℕ) → is_acked w v ≡ true → is_acked u v ≡ true
acked_through ring plan [] w u l v e = subst (λ (z : World). is_acked z v ≡ true) (sym l) e
acked_through ring plan (x ∷ xs) w u l v e =
    let a = answered ring plan w l.0 x.event x.reply l.1 in
    let next = (event_extends ring plan w x.event (all_met (guards ring plan w x.event) a.0)).acked v e in
    acked_through ring plan xs l.0 u l.2 v (subst (λ (z : World). is_acked z v ≡ true) a.1 next)

pub acks_stay : (ring : RingValue) (plan : List Planned) (w u : World) (run : List Entry) → Leads ring plan (handed_on w) run u → (v : ℕ) → is_acked w v ≡ true → is_acked u v ≡ true
acks_stay ring plan w u run l v e = acked_through ring plan run (handed_on w) u l v (same_acked w v ∙ e)
