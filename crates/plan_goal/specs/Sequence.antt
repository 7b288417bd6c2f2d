-- Plans that are followed one after the other over one store.
use Rattle.std.specs.Prelude.{◌≡◌, ℕ, ◌<◌, ◌≤◌, true, false, List, None, Some, Ok, length, map}
use Rattle.ring_table.specs.Value.{RingValue, owner_of}
use Rattle.ring_table.specs.Valid.{IsRing}
use Rattle.plan_text.specs.declared.step.Planned.{Planned}
use Rattle.plan_text.specs.Valid.{IsPlan}
use Rattle.plan_runs.specs.declared.event.Entry.{Entry}
use Rattle.plan_runs.specs.declared.event.Event.TheVariants.{StartGet, EndGet}
use Rattle.plan_runs.specs.declared.event.Reply.TheVariants as reply
use Rattle.plan_runs.specs.declared.words.Key.{Key}
use Rattle.plan_runs.specs.Answers.{answer}
use Rattle.plan_runs.specs.Runs.{Leads}
use Rattle.plan_runs.specs.World.{PutRecord, World, is_acked, is_of_key, opening_world, slot_at, stage_now}
use Rattle.plan_check.specs.Headline.{IsAnswered}
use Rattle.plan_check.specs.Sound.{Sound}

-- the put without its tickets
abbrev pub without_tickets : PutRecord → PutRecord
without_tickets x = record x { ticket = λ i. None }

-- what a plan hands on if another takes its place: puts, gets, what nodes store and keep as hints, who is up,
-- and losses. No step of the other one is done, and no copy is open. A mirror is one no longer, and no ticket
-- that was given counts any more
abbrev pub handed_on : World → World
handed_on w = record w {
  done = λ n. false;
  is_open = λ n. false;
  marked = λ n c. false;
  puts = map without_tickets w.puts;
  lost = λ s. 0;
}

-- the next ring has the ring's numbers of partitions and slots, its quorums and losses, and at least as many nodes
pub record HasNumbers (ring next : RingValue) : Type 0 where
  pub q : next.q ≡ ring.q
  pub n : next.n ≡ ring.n
  pub r : next.r ≡ ring.r
  pub w : next.w ≡ ring.w
  pub loss : next.loss ≡ ring.loss
  pub nodes : length ring.nodes ≤ length next.nodes

-- it has the owners of the moment
abbrev pub HasOwners : RingValue → List Planned → World → RingValue → Type 0
HasOwners ring plan w next = (p i : ℕ) → p < ring.q → i < ring.n → owner_of next (slot_at p i) ≡ Some (stage_now ring plan w (slot_at p i)).owner

-- every step of the plan is done
abbrev pub IsDone : List Planned → World → Type 0
IsDone plan w = (n : ℕ) → n < length plan → w.done n ≡ true

-- a sound plan of a ring
pub record IsSoundPlan (ring : RingValue) (plan : List Planned) : Type 0 where
  pub is_ring : IsRing ring
  pub is_plan : IsPlan plan
  pub sound : Sound ring plan

-- a store goes on from a world: a run of the plan that is under way leads to another world. Or, sound plans
-- later, a run of the last of them leads there, which began with what the plan before handed on
pub data GoesOn (ring : RingValue) (plan : List Planned) (w : World) : RingValue → List Planned → World → Type 0 where
  within : (run : List Entry) (u : World) → Leads ring plan w run u → GoesOn ring plan w ring plan u
  later : (last next : RingValue) (its more : List Planned) (run : List Entry) (v u : World) → GoesOn ring plan w last its v → IsSoundPlan next more → HasNumbers last next
      → HasOwners last its v next → Leads next more (handed_on v) run u → GoesOn ring plan w next more u

-- the worlds of a store that goes through sound plans one after the other, with the ring and the plan that are under way
pub record InTurn (ring : RingValue) (plan : List Planned) (w : World) : Type 0 where
  pub first : RingValue
  pub its : List Planned
  pub sound : IsSoundPlan first its
  pub goes_on : GoesOn first its (opening_world first) ring plan w

-- a get sees each put of its key that was acknowledged before the get started, also if plans took turns
-- meanwhile
abbrev pub GetsSeePuts : RingValue → List Planned → World → Type 0
GetsSeePuts ring plan start = (key : Key) (g : ℕ) (begun : World) → answer ring plan start (StartGet key) ≡ Ok (begun, reply.Get g)
    → (last : RingValue) (its : List Planned) (mid w : World) (found : List ℕ) → GoesOn ring plan begun last its mid → answer last its mid (EndGet g) ≡ Ok (w, reply.Answer found)
    → (v : ℕ) → is_of_key start key v ≡ true → is_acked start v ≡ true → IsAnswered w v found
