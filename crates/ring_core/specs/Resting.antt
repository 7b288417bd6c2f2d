-- A store at rest.
use Rattle.std.specs.Prelude.{◌≡◌, ◌≤◌, ℕ, List, length}
use Rattle.ring_table.specs.Value.{RingValue}
use Rattle.plan_text.specs.declared.step.Planned.{Planned}
use Rattle.plan_runs.specs.World.{World as TheWorld}
use Rattle.ring_store.specs.Stores.{held_at}
use Rattle.ring_hints.specs.Hints.{hinted_at}
use Rattle.store_parts.specs.Lasts.{last_of}
use Rattle.store_parts.specs.Kept.{Kept, Tells}
use Rattle.store_parts.specs.Numbers.{by_keys}
use Rattle.store_parts.specs.Parts.{AreSized}
use Rattle.store_parts.specs.declared.parts.Parts.{Parts}
use Rattle.ring_core.specs.declared.resting.Rest.{Rest}
use Rattle.ring_core.specs.declared.world.World.{World}
use Rattle.ring_core.specs.World.{ring_of, plan_of, put_count, get_count, Meets}

-- what a store keeps apart from its plan
abbrev pub rest_in : Parts → Rest
rest_in a = record {
  alloc = a.alloc;
  nodes = a.nodes;
  steps = a.steps;
  slots = a.slots;
  keys = a.keys;
  lasts = a.lasts;
  puts = a.puts;
  gets = a.gets;
  stores = a.stores;
  hints = a.hints;
  losses = a.losses;
}

abbrev pub rest_of : World → Rest
rest_of a = rest_in a.parts

-- what is kept, as a world is told by it
abbrev pub kept_in : Rest → Kept
kept_in rest = record {
  nodes = rest.nodes;
  steps = rest.steps;
  rows = rest.slots;
  keys = rest.keys.keys;
  last = last_of rest.lasts;
  puts = rest.puts;
  gets = rest.gets;
  losses = rest.losses;
  stored = by_keys rest.keys (held_at rest.stores);
  hinted = by_keys rest.keys (hinted_at rest.hints);
}

-- how many puts and gets it has
abbrev pub puts_in : Rest → ℕ
puts_in rest = length rest.puts

abbrev pub gets_in : Rest → ℕ
gets_in rest = length rest.gets

-- what is kept is that of a store of this ring and this plan, which is in some world
pub record IsReady (ring : RingValue) (plan : List Planned) (rest : Rest) : Type 0 where
  pub met : ∥ ((w : TheWorld) × Tells ring plan (kept_in rest) w) ∥₁
  pub sized : AreSized ring rest.keys rest.stores rest.hints
  pub puts : puts_in rest ≤ 4294967295
  pub gets : gets_in rest ≤ 4294967295

-- one store is in each world in which another is, and has as many puts and gets
pub record IsSame (a b : World) : Type 0 where
  pub ring : ring_of b ≡ ring_of a
  pub plan : plan_of b ≡ plan_of a
  pub meets : (w : TheWorld) → Meets a w → Meets b w
  pub puts : put_count b ≡ put_count a
  pub gets : get_count b ≡ get_count a
