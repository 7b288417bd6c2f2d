-- A plan around the dead, and the history that goes on by it.
use Rattle.std.specs.Prelude.{◌≡◌, ℕ, List, [], ◌∷◌, ◌++◌, Option, Ok}
use Rattle.ring_names.specs.declared.ids.NodeId.{NodeId}
use Rattle.ring_names.specs.declared.ids.Slot.{Slot}
use Rattle.texts.specs.Left.{whole_text}
use Rattle.ring_table.specs.Value.{RingValue}
use Rattle.ring_table.specs.Spelling.{ring_text}
use Rattle.plan_text.specs.declared.step.Planned.{Planned}
use Rattle.plan_text.specs.Spelling.{plan_text}
use Rattle.plan_cert.specs.declared.cert.Cert.{Cert}
use Rattle.plan_cert.specs.Spelling.{cert_text}
use Rattle.plan_runs.specs.declared.event.Entry.{Entry}
use Rattle.plan_runs.specs.Runs.{IsRun}
use Rattle.plan_runs.specs.World.{World}
use Rattle.plan_check.specs.Certified.{IsCertified}
use Rattle.plan_check.specs.Headline.{KeepsPromises}
use Rattle.history_text.specs.Replays.{Parts}
use Rattle.history_text.specs.Spelling.{history_text}
use Rattle.ring_core.specs.Replays.{IsHistory, Replays}
use Rattle.ring_core.specs.World.{ring_of, plan_of}
use Rattle.ring_core.specs.declared.world.World.{World as Store}
use Rattle.plan_around.specs.Alike.{LeadAlike}
use Rattle.plan_runs.specs.declared.back.Back.{Back}
use Rattle.plan_runs.specs.declared.back.Back.TheVariants.{Allowed}
use Rattle.history_laws.specs.Past.{IsSamePast}
use Rattle.plan_goal.specs.GoalsReached.{AreNamed, dead_names}
use Rattle.change_text.specs.declared.options.Options.{Options}
use Rattle.ringplan_request.specs.declared.making.Detour.{Detour}
use Rattle.ringplan_request.specs.declared.making.Extent.{Extent}
use Rattle.plan_around.specs.Apart.{AreApart}
use Rattle.plan_around.specs.Chosen.{GoesBy, halted_at}
use Rattle.plan_around.specs.declared.chosen.Chosen.{Chosen}
use Rattle.plan_around.specs.Ends.{EndsWell}

-- the history is a run of the plan. In the world to which it leads, no step that is to come asks anything of
-- the dead
abbrev pub RunsApart : RingValue → List Planned → List NodeId → List Entry → Type 0
RunsApart ring plan dead history = ∥ ((w : World) × IsRun ring plan history w × AreApart ring plan dead w) ∥₁

-- the checker accepts the plan by the certificate, so the plan keeps its promises. The history is a run that
-- leads to where the dead are asked for nothing more. This is the text of the ring, the plan, the certificate
-- and the history, whose writers have these names
pub record GoesOn (ring : RingValue) (dead : List NodeId) (writers : List (List ℕ)) (plan : List Planned) (cert : Cert) (history : List Entry) (bytes : List ℕ) : Type 0 where
  pub certified : IsCertified ring plan cert
  pub keeps : KeepsPromises ring plan
  pub run : RunsApart ring plan dead history
  pub text : bytes ≡ ring_text ring ++ (plan_text ring plan ++ (cert_text ring cert ++ history_text ring writers history))

-- the store is in a world to which the history leads by the plan
pub record IsAfter (start : RingValue) (steps : List Planned) (history : List Entry) (store : Store) : Type 0 where
  pub ring : ring_of store ≡ start
  pub plan : plan_of store ≡ steps
  pub replays : Replays start steps store history

-- whatever history led to the store, it and this one, which is a run of the new plan, lead to worlds that are alike
abbrev pub LeadsOn : Back → List Slot → RingValue → Store → List Planned → List Entry → Type 0
LeadsOn back left ring store new later = (earlier : List Entry) → Replays ring (plan_of store) store earlier → LeadAlike back left ring (plan_of store) new earlier later

-- the history leads by the old plan to a world from which the new one ends where it should
abbrev pub LeadsWell : Extent → Back → RingValue → List Planned → List Planned → List NodeId → List Slot → List Entry → Type 0
LeadsWell extent back ring old new dead left earlier = ∥ ((w : World) × IsRun ring old earlier w × EndsWell extent back ring old w new dead left) ∥₁

-- whether any mirror may be undone: that is allowed, or a slot is to stay with its owner
abbrev pub back_with : List Slot → Back → Back
back_with [] back = back
back_with (slot ∷ slots) back = Allowed

-- the text goes on so by some plan, which ends where it should. The history tells what the old history tells,
-- and leads to a store like the old one
pub record GoesAround (extent : Extent) (back : Back) (ring : RingValue) (dead : List NodeId) (left : List Slot) (writers : List (List ℕ)) (old : List Planned) (earlier : List Entry)
    (text : List ℕ) : Type 0 where
  pub plan : List Planned
  pub cert : Cert
  pub history : List Entry
  pub past : IsSamePast (back_with left back) old plan earlier history
  pub stores : LeadAlike back left ring old plan earlier history
  pub ends : LeadsWell extent back ring old plan dead left earlier
  pub goes_on : GoesOn ring dead writers plan cert history text

-- the bytes are the texts of a ring, a plan, a certificate and a history, which is a run of the plan. A plan
-- that was chosen to go on by may follow. The text goes on from there as the options ask, by the chosen plan if
-- there is one
pub record IsAround (bytes : List ℕ) (options : Options) (detour : Detour) (text : List ℕ) : Type 0 where
  pub parts : Parts
  pub chosen : Option Chosen
  pub read : whole_text halted_at bytes ≡ Ok (parts, chosen)
  pub by : GoesBy parts.0 chosen text
  pub dead : List NodeId
  pub named : AreNamed parts.0 (dead_names options) dead
  pub earlier : IsHistory parts.0 parts.1.0 parts.1.1.1.0
  pub around : GoesAround detour.extent detour.back parts.0 dead options.left.items parts.1.1.1.1 parts.1.0 parts.1.1.1.0 text
