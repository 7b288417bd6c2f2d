-- Nodes that keep hints are declared, in every run.
use Rattle.std.proofs.Common.{◌≡◌, inl, inr, ℕ, ◌<◌, true, List, [], ◌∷◌, length, sym, subst}
use Rattle.ring_names.specs.declared.ids.Slot.{Slot}
use Rattle.ring_table.specs.Value.{RingValue}
use Rattle.plan_text.specs.declared.step.Planned.{Planned}
use Rattle.plan_text.specs.Valid.{Suits}
use Rattle.plan_runs.specs.declared.event.Event.{Event}
use Rattle.plan_runs.specs.declared.event.Entry.{Entry}
use Rattle.plan_runs.specs.World.{World, opening_world}
use Rattle.plan_runs.specs.Guards.{guards}
use Rattle.plan_runs.specs.Effects.{effect}
use Rattle.plan_runs.specs.Runs.{Leads}
use Rattle.plan_runs.proofs.Answered.{answered}
use Rattle.plan_runs.proofs.Passed.{AllMet, all_met}
use Rattle.store_parts.specs.Kept.{Kept, Tells}
use Rattle.store_parts.proofs.StoreInWorld.{suits_of}
use Rattle.plan_runs.proofs.Members.{member_within}
use Rattle.plan_runs.proofs.Frames.{hinted_was}

-- each node that keeps a hint is declared
abbrev KeepersFit : RingValue → World → Type 0
KeepersFit ring w = (x : ℕ) (slot : Slot) (v : ℕ) → w.hinted x slot v ≡ true → x < length ring.nodes

keepers_after : (ring : RingValue) (plan : List Planned) (w : World) (e : Event) → Suits ring plan → AllMet (guards ring plan w e) → KeepersFit ring w → KeepersFit ring (effect ring plan w e)
unfolding guards
keepers_after ring plan w e suits met fit x slot v h = elim (hinted_was ring plan w e x slot v h) [
  | inl f ↦ fit x slot v f
  | inr f ↦ (
      let hint = subst (λ (q : Event). AllMet (guards ring plan w q)) f.2 met in
      subst (λ (z : ℕ). z < length ring.nodes) (sym f.3) (member_within ring plan w f.1.0 suits hint.1.0))
]

run_keepers : (ring : RingValue) (plan : List Planned) (run : List Entry) (w v : World) → Suits ring plan → KeepersFit ring w → Leads ring plan w run v → KeepersFit ring v
run_keepers ring plan [] w v suits fit leads = subst (λ (z : World). KeepersFit ring z) (sym leads) fit
run_keepers ring plan (x ∷ xs) w v suits fit leads =
    let a = answered ring plan w leads.0 x.event x.reply leads.1 in
    run_keepers ring plan xs leads.0 v suits
    (subst (λ (z : World). KeepersFit ring z) a.1 (keepers_after ring plan w x.event suits (all_met (guards ring plan w x.event) a.0) fit)) leads.2

-- a node that keeps a hint is declared
pub keeper_within : (ring : RingValue) (plan : List Planned) (k : Kept) (w : World) → Tells ring plan k w → (x : ℕ) (slot : Slot) (v : ℕ) → w.hinted x slot v ≡ true → x < length ring.nodes
keeper_within ring plan k w m = run_keepers ring plan m.run.0 (opening_world ring) w (suits_of ring plan k w m) (λ x slot v e. absurd cc) m.run.1
