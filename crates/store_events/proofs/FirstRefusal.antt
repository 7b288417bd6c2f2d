-- The first test that fails, one test after another.
use Rattle.std.proofs.Common.{◌≡◌, ◌∙◌, ℕ, ◌<◌, Bool, true, false, not, List, [], ◌∷◌, refl, sym, ap}
use Rattle.std.specs.Prelude.{Some}
use Rattle.ring_names.specs.declared.ids.NodeId.{NodeId}
use Rattle.ring_names.specs.declared.ids.Slot.{Slot}
use Rattle.ring_names.specs.declared.refusal.Refusal.{Refusal}
use Rattle.ring_names.specs.declared.refusal.Refusal.TheVariants.{UnknownNumber, NotMember, NodeDown, KeeperInPartition, KeeperTaken, AlreadyDone}
use Rattle.ring_table.specs.Value.{RingValue}
use Rattle.plan_text.specs.declared.step.Planned.{Planned}
use Rattle.plan_text.specs.Valid.{is_ring_slot}
use Rattle.plan_stage.specs.Clauses.{Guard, first_failing}
use Rattle.plan_runs.specs.declared.event.Event.TheVariants.{Hint, Handoff}
use Rattle.plan_runs.specs.World.{World, keeps, keeps_other}
use Rattle.plan_runs.specs.Guards.{guards, put_exists, serves_in}
use Rattle.plan_runs.specs.Versions.{put_slot}
use Rattle.store_parts.specs.Nodes.{is_up_at, is_member_at}
use Rattle.store_parts.specs.GuardsKept.{serves_in_kept, served_up_kept}
use Rattle.store_parts.proofs.NodesNow.{nodes_meet}
use Rattle.store_parts.proofs.SlotsGuards.{serves_kept, hint_kept, handoff_kept}
use Rattle.store_parts.specs.Kept.{Kept, Tells}

-- a test that fails is the first that does, where it comes first
pub fails : (b : Bool) (e : Refusal) (gs : List Guard) → b ≡ false → Some e ≡ first_failing ((b, e) ∷ gs)
fails true e gs h = absurd cc
fails false e gs h = refl

-- a guard that is passed leaves the decision to the guards behind it
pub passes_on : (b : Bool) (e : Refusal) (gs : List Guard) → b ≡ true → first_failing gs ≡ first_failing ((b, e) ∷ gs)
passes_on true e gs h = refl
passes_on false e gs h = absurd cc

module _ (ring : RingValue) (plan : List Planned) (k : Kept) (w : World) (m : Tells ring plan k w) where
  -- ---- why a hint is refused

  -- of a put that is not there
  pub hint_of_none : (v i : ℕ) (x : NodeId) → put_exists ring w v i ≡ false → Some UnknownNumber ≡ first_failing (guards ring plan w (Hint v i x))
  hint_of_none v i x none = hint_kept ring plan k.nodes w false false false v i x (nodes_meet ring plan k.nodes w m.nodes) (sym none) (λ e. absurd cc)

  -- of a put that is there
  module _ (v i : ℕ) (x : NodeId) (slot : Slot) (other : Bool) (there : put_exists ring w v i ≡ true) (is : slot ≡ put_slot ring w v i) (l : slot.partition < ring.q) (same : other ≡ keeps_other ring w x.0 slot) where
    serves : Bool
    serves = serves_in_kept ring k.rows slot.partition x.0

    last : List Guard
    last = (not other, KeeperTaken) ∷ []

    third : List Guard
    third = (not serves, KeeperInPartition) ∷ last

    second : List Guard
    second = (is_up_at k.nodes x.0, NodeDown x.0) ∷ third

    hint_is : first_failing ((is_member_at k.nodes x.0, NotMember x.0) ∷ second) ≡ first_failing (guards ring plan w (Hint v i x))
    unfolding serves last third second
    hint_is = hint_kept ring plan k.nodes w true serves other v i x (nodes_meet ring plan k.nodes w m.nodes) (sym there) (λ e. (
      serves_kept ring plan k.rows w slot.partition x.0 m.slots l ∙ ap (λ (s : Slot). serves_in ring plan w s.partition x.0) is,
      same ∙ ap (λ (s : Slot). keeps_other ring w x.0 s) is,
    ))

    pub hint_no_member : is_member_at k.nodes x.0 ≡ false → Some (NotMember x.0) ≡ first_failing (guards ring plan w (Hint v i x))
    hint_no_member b = fails (is_member_at k.nodes x.0) (NotMember x.0) second b ∙ hint_is

    pub hint_down : is_member_at k.nodes x.0 ≡ true → is_up_at k.nodes x.0 ≡ false → Some (NodeDown x.0) ≡ first_failing (guards ring plan w (Hint v i x))
    unfolding second
    hint_down a b = fails (is_up_at k.nodes x.0) (NodeDown x.0) third b ∙ passes_on (is_member_at k.nodes x.0) (NotMember x.0) second a ∙ hint_is

    pub hint_serves : is_member_at k.nodes x.0 ≡ true → is_up_at k.nodes x.0 ≡ true → serves_in_kept ring k.rows slot.partition x.0 ≡ true → Some KeeperInPartition ≡ first_failing (guards ring plan w (Hint v i x))
    unfolding serves third second
    hint_serves a b d = fails (not serves) KeeperInPartition last (ap not d) ∙ passes_on (is_up_at k.nodes x.0) (NodeDown x.0) third b ∙ passes_on (is_member_at k.nodes x.0) (NotMember x.0) second a ∙ hint_is

    -- only the last test is left
    pub hint_last : is_member_at k.nodes x.0 ≡ true → is_up_at k.nodes x.0 ≡ true → serves_in_kept ring k.rows slot.partition x.0 ≡ false → first_failing ((not other, KeeperTaken) ∷ []) ≡ first_failing (guards ring plan w (Hint v i x))
    unfolding serves last third second
    hint_last a b d = passes_on (not serves) KeeperInPartition last (ap not d) ∙ passes_on (is_up_at k.nodes x.0) (NodeDown x.0) third b ∙ passes_on (is_member_at k.nodes x.0) (NotMember x.0) second a ∙ hint_is

  -- ---- why a handoff is refused

  module _ (x : NodeId) (s : Slot) where
    behind : List Guard
    behind = (keeps w x.0 s, AlreadyDone) ∷ (is_up_at k.nodes x.0, NodeDown x.0) ∷ served_up_kept k.nodes k.rows s

    handoff_is : first_failing ((is_ring_slot ring s, UnknownNumber) ∷ behind) ≡ first_failing (guards ring plan w (Handoff x s))
    unfolding behind
    handoff_is = handoff_kept ring plan k.nodes k.rows w (keeps w x.0 s) x s (nodes_meet ring plan k.nodes w m.nodes) m.slots (λ e. refl)

    pub handoff_no_slot : is_ring_slot ring s ≡ false → Some UnknownNumber ≡ first_failing (guards ring plan w (Handoff x s))
    handoff_no_slot a = fails (is_ring_slot ring s) UnknownNumber behind a ∙ handoff_is

    pub handoff_not_kept : is_ring_slot ring s ≡ true → keeps w x.0 s ≡ false → Some AlreadyDone ≡ first_failing (guards ring plan w (Handoff x s))
    unfolding behind
    handoff_not_kept a b = fails (keeps w x.0 s) AlreadyDone ((is_up_at k.nodes x.0, NodeDown x.0) ∷ served_up_kept k.nodes k.rows s) b ∙ passes_on (is_ring_slot ring s) UnknownNumber behind a ∙ handoff_is

    pub handoff_down : is_ring_slot ring s ≡ true → keeps w x.0 s ≡ true → is_up_at k.nodes x.0 ≡ false → Some (NodeDown x.0) ≡ first_failing (guards ring plan w (Handoff x s))
    unfolding behind
    handoff_down a b d = fails (is_up_at k.nodes x.0) (NodeDown x.0) (served_up_kept k.nodes k.rows s) d
        ∙ passes_on (keeps w x.0 s) AlreadyDone ((is_up_at k.nodes x.0, NodeDown x.0) ∷ served_up_kept k.nodes k.rows s) b ∙ passes_on (is_ring_slot ring s) UnknownNumber behind a ∙ handoff_is

    -- only the tests of the slot's nodes are left
    pub handoff_last : is_ring_slot ring s ≡ true → keeps w x.0 s ≡ true → is_up_at k.nodes x.0 ≡ true → first_failing (served_up_kept k.nodes k.rows s) ≡ first_failing (guards ring plan w (Handoff x s))
    unfolding behind
    handoff_last a b d = passes_on (is_up_at k.nodes x.0) (NodeDown x.0) (served_up_kept k.nodes k.rows s) d
        ∙ passes_on (keeps w x.0 s) AlreadyDone ((is_up_at k.nodes x.0, NodeDown x.0) ∷ served_up_kept k.nodes k.rows s) b ∙ passes_on (is_ring_slot ring s) UnknownNumber behind a ∙ handoff_is
