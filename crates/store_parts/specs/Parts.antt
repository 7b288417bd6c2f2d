-- What a running store's parts say of a world, and how events change both.
use Rattle.std.specs.Prelude.{◌≡◌, ℕ, List, Option, None, Ok}
use Rattle.ring_names.specs.declared.refusal.Refusal.{Refusal}
use Rattle.ring_table.specs.Value.{RingValue}
use Rattle.plan_text.specs.declared.step.Planned.{Planned}
use Rattle.plan_stage.specs.Clauses.{first_failing}
use Rattle.plan_runs.specs.declared.event.Event.{Event}
use Rattle.plan_runs.specs.declared.event.Reply.{Reply}
use Rattle.plan_runs.specs.Answers.{answer}
use Rattle.plan_runs.specs.Guards.{guards}
use Rattle.plan_runs.specs.World.{World}
use Rattle.store_parts.specs.Lasts.{last_of}
use Rattle.ring_names.specs.declared.ids.Slot.{Slot}
use Rattle.ring_store.specs.Stores.{held_at, shared_space}
use Rattle.ring_hints.specs.Hints.{hinted_at}
use Rattle.ring_store.specs.declared.stores.Stores.{Stores}
use Rattle.ring_hints.specs.declared.hints.Hints.{Hints}
use Rattle.store_parts.specs.KeyTable.{KeyTable}
use Rattle.store_parts.specs.Kept.{Kept, Tells}
use Rattle.store_parts.specs.Numbers.{by_keys, ArePlaced}
use Rattle.store_parts.specs.PutsMeet.{AreNumbered}
use Rattle.store_parts.specs.declared.parts.Parts.{Parts}

-- the ring and the plan that it follows
abbrev pub ring_of : Parts → RingValue
ring_of a = a.approved.now.ring

abbrev pub plan_of : Parts → List Planned
plan_of a = a.approved.now.plan

-- what the parts keep
abbrev pub kept_of : Parts → Kept
kept_of a = record {
  nodes = a.nodes;
  steps = a.steps;
  rows = a.slots;
  keys = a.keys.keys;
  last = last_of a.lasts;
  puts = a.puts;
  gets = a.gets;
  losses = a.losses;
  stored = by_keys a.keys (held_at a.stores);
  hinted = by_keys a.keys (hinted_at a.hints);
}

-- the store is in that world
abbrev pub Meets : Parts → World → Type 0
Meets a w = Tells (ring_of a) (plan_of a) (kept_of a) w

-- what is kept is of the ring's size, and only keys that have numbers are stored or kept
pub record AreSized (ring : RingValue) (table : KeyTable) (stores : Stores) (hints : Hints) : Type 0 where
  pub space : shared_space stores ≡ ring.q
  pub keys : table.q ≡ ring.q
  pub numbered : AreNumbered table.keys
  pub stored : (x : ℕ) (s : Slot) → ArePlaced table (held_at stores x s)
  pub hinted : (x : ℕ) (s : Slot) → ArePlaced table (hinted_at hints x s)

abbrev pub IsSized : Parts → Type 0
IsSized a = AreSized (ring_of a) a.keys a.stores a.hints

-- and the store is in some world
pub record IsSound (a : Parts) : Type 0 where
  pub met : ∥ ((w : World) × Meets a w) ∥₁
  pub sized : IsSized a

-- it has changed, and follows the same plan
pub record Follows (old new : Parts) : Type 0 where
  pub approved : new.approved.now ≡ old.approved.now
  pub sized : IsSized new

-- ---- events

-- this is why the event is refused, if it is: the refusal of its first guard that fails
abbrev pub Tests : Parts → Event → Option Refusal → Type 0
Tests a e o = (w : World) → Meets a w → o ≡ first_failing (guards (ring_of a) (plan_of a) w e)

-- no guard of the event fails
abbrev pub Passes : Parts → Event → Type 0
Passes a e = Tests a e None

-- in whatever world the store was, it is in the next one, and the reply is the event's
abbrev pub Answers : Parts → Event → Reply → Parts → Type 0
Answers old e r new = (w : World) → Meets old w → (u : World) × (answer (ring_of old) (plan_of old) w e ≡ Ok (u, r)) × Meets new u

-- it is there still
abbrev pub Stays : Parts → Parts → Type 0
Stays old new = (w : World) → Meets old w → Meets new w
