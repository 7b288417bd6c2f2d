-- Plans that lead from a ring to another one, and do not touch dead nodes.
use Rattle.std.specs.Prelude.{◌≡◌, ℕ, ◌+◌, ◌<◌, Bool, true, false, not, ◌&&◌, ◌||◌, List, [], ◌∷◌, map, length, Some}
use Rattle.std.specs.List.{list_all}
use Rattle.ring_names.specs.Lists.{has}
use Rattle.ring_names.specs.declared.ids.NodeId.{NodeId}
use Rattle.ring_names.specs.declared.ids.Slot.{Slot}
use Rattle.ring_names.specs.declared.refusal.Refusal.{Refusal}
use Rattle.ring_names.specs.declared.refusal.Refusal.TheVariants.{NoPlan, OutOfMemory}
use Rattle.ring_table.specs.Value.{RingValue, is_member}
use Rattle.ring_table.specs.declared.allowance.Allowance.{Allowance}
use Rattle.ring_table.specs.declared.node.Node.{Node}
use Rattle.plan_text.specs.declared.step.Step.{Step}
use Rattle.plan_text.specs.declared.step.Step.TheVariants.{Join, Mirror, Copy, Switch, Drop, Retire}
use Rattle.plan_text.specs.declared.step.Planned.{Planned}
use Rattle.plan_text.specs.Changes.{numbers}
use Rattle.plan_text.specs.Steps.{joined, retired}
use Rattle.plan_text.specs.Valid.{Suits as PlanSuits}
use Rattle.plan_cert.specs.declared.cert.Cert.{Cert}
use Rattle.plan_cert.specs.Valid.{Suits as CertSuits}
use Rattle.plan_stage.specs.Parties.{source_slots}
use Rattle.plan_cover.specs.declared.present.Serving.{Serving}
use Rattle.plan_moves.specs.Moves.{served_before}
use Rattle.plan_moves.specs.Owners.{last_owners}
use Rattle.plan_check.specs.Certified.{IsCertified}
use Rattle.plan_check.specs.First.{first_refusal}
use Rattle.plan_check.specs.Headline.{KeepsPromises}

-- what a ring declares of a node, but for whether the node is a member: its name and its allowance
abbrev pub declared : Node → List ℕ × Allowance
declared x = (x.name, x.allowance)

-- the two rings have as many partitions, slots, quorums and losses, and declare the same nodes
pub record IsLike (ring other : RingValue) : Type 0 where
  pub q : other.q ≡ ring.q
  pub n : other.n ≡ ring.n
  pub r : other.r ≡ ring.r
  pub w : other.w ≡ ring.w
  pub loss : other.loss ≡ ring.loss
  pub nodes : map declared other.nodes ≡ map declared ring.nodes

-- each of the nodes is among the others
abbrev pub are_among : List NodeId → List NodeId → Bool
are_among xs ys = list_all (λ x. has x.0 (numbers ys)) xs

-- the same nodes, in any order
abbrev pub is_alike : List NodeId → List NodeId → Bool
is_alike xs ys = are_among xs ys && are_among ys xs

-- each partition has the same owners, in any order
abbrev pub are_alike : List (List NodeId) → List (List NodeId) → Bool
are_alike [] [] = true
are_alike [] (y ∷ ys) = false
are_alike (x ∷ xs) [] = false
are_alike (x ∷ xs) (y ∷ ys) = is_alike x y && are_alike xs ys

-- whether the node is a member once the plan is done: it was or joined, and did not retire
abbrev pub member_after : RingValue → List Planned → ℕ → Bool
member_after ring plan x = (is_member ring.nodes (record { 0 = x }) || has x (joined plan)) && not (has x (retired plan))

-- whether the node should be a member: the other ring has it, or the node is dead and stays what it is
abbrev pub member_wanted : RingValue → RingValue → List NodeId → ℕ → Bool
member_wanted ring wanted dead x = is_member wanted.nodes (record { 0 = x }) || (has x (numbers dead) && is_member ring.nodes (record { 0 = x }))

-- the plan leaves the members that there should be
abbrev pub HasMembers : RingValue → RingValue → List NodeId → List Planned → Type 0
HasMembers ring wanted dead plan = (x : ℕ) → x < length ring.nodes → member_after ring plan x ≡ member_wanted ring wanted dead x

-- the nodes that a step lets join, reads from, gives a slot to, drops or retires, where the slots are served so
abbrev pub touched : (Slot → Serving) → Step → List NodeId
touched serve (Join x) = x ∷ []
touched serve (Mirror s x) = x ∷ []
touched serve (Copy s from) = map (λ t. (serve t).owner) (source_slots s from)
touched serve (Switch s) = []
touched serve (Drop s x) = x ∷ []
touched serve (Retire x) = x ∷ []

-- the node is not dead
abbrev pub is_spared : List NodeId → NodeId → Bool
is_spared dead x = not (has x.0 (numbers dead))

-- none of the nodes is
abbrev pub are_spared : List NodeId → List NodeId → Bool
are_spared dead xs = list_all (is_spared dead) xs

-- no step of the plan from number n on touches a dead node
abbrev pub spares_from : RingValue → List Planned → List NodeId → ℕ → List Planned → Bool
spares_from ring plan dead n [] = true
spares_from ring plan dead n (x ∷ xs) = are_spared dead (touched (served_before ring plan n) x.step) && spares_from ring plan dead (n + 1) xs

-- no step of the plan does
abbrev pub spares : RingValue → List Planned → List NodeId → Bool
spares ring plan dead = spares_from ring plan dead 0 plan

-- the rings differ only in owners and members, and the plan and the certificate are of the first. Once the plan
-- is done, each partition has the owners that it should have, and the ring the members. No step touches a dead
-- node
pub record Leads (ring wanted : RingValue) (dead : List NodeId) (plan : List Planned) (cert : Cert) : Type 0 where
  pub alike : IsLike ring wanted
  pub plan_suits : PlanSuits ring plan
  pub cert_suits : CertSuits ring cert
  pub owners : are_alike (last_owners ring plan) wanted.owners ≡ true
  pub members : HasMembers ring wanted dead plan
  pub spared : spares ring plan dead ≡ true

-- the plan leads there, and the checker accepts it by the certificate, so the plan keeps its promises
pub record IsReached (ring wanted : RingValue) (dead : List NodeId) (plan : List Planned) (cert : Cert) : Type 0 where
  pub leads : Leads ring wanted dead plan cert
  pub certified : IsCertified ring plan cert
  pub keeps : KeepsPromises ring plan

-- why there is none: memory ran out, no plan was found, or for this reason the checker refused a plan that
-- leads there. That is by some certificate, since the search, which gives both, promises nothing
pub data IsUnreached (ring wanted : RingValue) (dead : List NodeId) (e : Refusal) : Type 0 where
  no_memory : e ≡ OutOfMemory → IsUnreached ring wanted dead e
  none_found : e ≡ NoPlan → IsUnreached ring wanted dead e
  not_accepted : (plan : List Planned) (cert : Cert) → Leads ring wanted dead plan cert → first_refusal ring plan cert ≡ Some e → IsUnreached ring wanted dead e
