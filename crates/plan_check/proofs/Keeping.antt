-- What is noted of the clauses says which parts of what a plan must meet it meets.
use Rattle.std.proofs.Common.{◌≡◌, ℕ, ◌<◌, Bool, true, false, not, List, length, None, refl}
use Rattle.std.specs.Prelude.{◌&&◌}
use Rattle.ring_table.specs.Value.{RingValue}
use Rattle.ring_table.specs.Valid.{IsRing}
use Rattle.plan_text.specs.declared.step.Planned.{Planned}
use Rattle.plan_text.specs.Valid.{Suits}
use Rattle.plan_order.specs.Before.{Before}
use Rattle.plan_order.specs.Facts.{AreFactsOf, is_ordered}
use Rattle.plan_order.specs.declared.facts.Ends.{Ends}
use Rattle.plan_cert.specs.declared.cert.Cert.{Cert}
use Rattle.plan_cover.specs.Clauses.{chains_from, node_clauses}
use Rattle.plan_stage.specs.Clauses.{below, first_failing}
use Rattle.plan_stage.specs.Missed.{HoldsBut, StaysNoted}
use Rattle.plan_stage.specs.Partition.{Test, step_clauses}
use Rattle.plan_stage.proofs.Noted.{hold-wider}
use Rattle.plan_stage.specs.declared.missed.Missed.{Missed}
use Rattle.plan_check.specs.Sound.{AreCovered, AreInTurn, AreSettled, HaveLeft, ReadEnough, ServeAsMembers}
use Rattle.plan_check.proofs.Certifies.{covered_wider, facts_before, left_wider, members_wider, settled_wider, turn_wider}
use Rattle.plan_check.proofs.Firsts.{holds}
use Rattle.plan_check.proofs.Refused.{Parts, all_covered-met, all_left-met, all_settled-met, members-met, nodes-met, parts-held, sources-met, turn-met}

-- clauses that hold by what is noted hold by more
pub holds_wider : (a b : Missed) (ring : RingValue) (plan : List Planned) (O : Test) (p : ℕ) → StaysNoted a b → HoldsBut a ring plan O p → HoldsBut b ring plan O p
holds_wider a b ring plan O p s h = record { slots = h.slots; steps = λ n t at. hold-wider a b (step_clauses ring plan O p n t) s (h.steps n t at) }

pub not_not : (x : Bool) → not (not x) ≡ true → x ≡ true
not_not true h = refl
not_not false h = absurd cc

pub not_both : (x y : Bool) → (x && y) ≡ false → x ≡ true → y ≡ false
not_both true y h e = h
not_both false y h e = absurd cc

pub no_both : (x y : Bool) → y ≡ false → (x && y) ≡ false
no_both true y e = e
no_both false y e = refl

pub neither : (x y : Bool) → x ≡ false → y ≡ false → (not x && not y) ≡ true
neither x y e f = rw (e, f) refl

-- a plan that suits its ring, the plan's facts, and what is noted about all partitions' clauses
module _ (ring : RingValue) (plan : List Planned) (facts : List Ends) (a : Missed) (suits : Suits ring plan) (are : AreFactsOf plan facts)
    (h : (p : ℕ) → p < ring.q → HoldsBut a ring plan (is_ordered plan facts) p) where
  abbrev O : Test
  O = is_ordered plan facts

  parts : Parts ring plan O a
  parts = parts-held ring plan O a h

  wider : (x y : ℕ) → holds O x y → Before plan x y
  wider = facts_before plan facts are

  pub kept_turn : AreInTurn ring plan (Before plan)
  kept_turn = turn_wider (holds O) (Before plan) wider ring plan (turn-met ring plan O a suits parts)

  pub kept_sources : a.sources ≡ false → ReadEnough ring plan
  kept_sources off = sources-met ring plan O a suits parts off

  pub kept_settled : a.settled ≡ false → AreSettled plan (Before plan)
  kept_settled off = settled_wider (holds O) (Before plan) wider ring plan (all_settled-met ring plan O a suits parts off)

  pub kept_left : IsRing ring → a.left ≡ false → HaveLeft ring plan (Before plan)
  kept_left is off = left_wider (holds O) (Before plan) wider ring plan (all_left-met ring plan O a is suits parts off)

  pub kept_members : IsRing ring → a.joined ≡ false → a.dropped ≡ false → ServeAsMembers ring plan (Before plan)
  kept_members is joined off = members_wider (holds O) (Before plan) wider ring plan (members-met ring plan O a is suits parts joined off)

  pub kept_covers : (cert : Cert) → first_failing (below (λ x. node_clauses ring plan cert O (record { 0 = x })) (length ring.nodes)) ≡ None
      → AreCovered ring plan (Before plan) (λ x side. chains_from x side cert.chains)
  kept_covers cert none = covered_wider (holds O) (Before plan) wider ring plan (λ x side. chains_from x side cert.chains)
      (all_covered-met ring plan cert O (nodes-met ring plan cert O none))
