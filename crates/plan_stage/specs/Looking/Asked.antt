-- How the checker looks at a clause: what is asked of a slot's step, and of a node's holdings.
use Rattle.std.specs.Prelude.{ℕ, Bool, true, not, ◌&&◌, ◌||◌, nat_lt, List, Some, None, is_some, reverse, slice_get}
use Rattle.std.specs.List.{list_all, take_while}
use Rattle.ring_names.specs.declared.ids.NodeId.{NodeId}
use Rattle.plan_text.specs.declared.step.Planned.{Planned}
use Rattle.plan_text.specs.Steps.{switch_of}
use Rattle.plan_stage.specs.declared.held.Held.{Held}
use Rattle.plan_stage.specs.declared.holding.Holding.{Holding}
use Rattle.plan_stage.specs.declared.holding.Holdings.{Holdings}
use Rattle.plan_stage.specs.Each.{passes}
use Rattle.plan_stage.specs.Partition.{Test, ends_before}
use Rattle.plan_stage.specs.Looking.Held.{held_among, held_beside}

-- whether step m is a switch
abbrev pub switches : List Planned → ℕ → Bool
switches plan m = passes (λ s. is_some (switch_of s)) plan m

-- step m is not a switch, or comes before or after step n
abbrev pub is_settling : List Planned → Test → ℕ → ℕ → Bool
is_settling plan O n m = not (switches plan m) || (O m n || O n m)

-- the holding begins at the start or at a step below t
abbrev pub begins_before : ℕ → Holding → Bool
begins_before t h = elim h.begin [ None ↦ true | Some b ↦ nat_lt b t ]

-- by step t the node no longer owns the slot
abbrev pub is_ended_before : Test → ℕ → Holding → Bool
is_ended_before O t h = ends_before O h.end t

-- holdings stand in the order in which they begin. Those in front of the first that begins at step t or later
-- are ended by step t
abbrev pub are_left : Test → ℕ → List Holding → Bool
are_left O t hs = list_all (is_ended_before O t) (take_while (begins_before t) hs)

-- where the holding begins before step t, the node no longer owns the slot by then
abbrev pub is_left_before : Test → ℕ → Holding → Bool
is_left_before O t h = not (begins_before t h) || is_ended_before O t h

-- so it is for each holding of the node that is kept
abbrev pub has_left_held : Test → ℕ → NodeId → Held → Bool
has_left_held O t x a = list_all (is_left_before O t) (held_among a.first x) && are_left O t (reverse (held_beside a.others x))

-- so it is in the slot of that index
abbrev pub has_left_at : Test → ℕ → Holdings → ℕ → NodeId → Bool
has_left_at O t a i x = elim (slice_get a.slots.items i) [ None ↦ true | Some held ↦ has_left_held O t x held ]

-- by step t the node has dropped what it had
abbrev pub is_dropped_before : Test → ℕ → Holding → Bool
is_dropped_before O t h = ends_before O h.drop t

-- so it is for each holding of the node that is kept
abbrev pub has_dropped_held : Test → ℕ → NodeId → Held → Bool
has_dropped_held O t x a = list_all (is_dropped_before O t) (held_among a.first x) && list_all (is_dropped_before O t) (held_beside a.others x)

-- so it is in the slot of that index
abbrev pub has_dropped_at : Test → ℕ → Holdings → ℕ → NodeId → Bool
has_dropped_at O t a i x = elim (slice_get a.slots.items i) [ None ↦ true | Some held ↦ has_dropped_held O t x held ]
