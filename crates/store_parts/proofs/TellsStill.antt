-- What a store keeps that tells of a world tells of it still if versions read as before, and after a key was
-- numbered.
use Rattle.std.proofs.Common.{◌≡◌, inl, inr, ℕ, ◌<◌, List, [], ◌++◌, ◌∷◌, subst}
use Rattle.std.specs.Prelude.{Option, Some, None, is_some, if◌then◌else◌}
use Rattle.ring_names.specs.Names.{place, with_name}
use Rattle.ring_table.specs.Value.{RingValue}
use Rattle.ring_space.specs.Place.{place_of}
use Rattle.plan_text.specs.declared.step.Planned.{Planned}
use Rattle.plan_runs.specs.World.{World}
use Rattle.store_parts.specs.PutsMeet.{clock_at}
use Rattle.store_parts.proofs.PutsLists.{appended_at}
use Rattle.store_parts.proofs.PutsKeys.{numbered_named, none_behind_named, puts_stay_named, gets_stay_named}
use Rattle.store_parts.specs.HintsFit.{KeysFit}
use Rattle.store_parts.specs.Kept.{Kept, Tells}

-- a key that was numbered lies in the ring as well
pub named_fit : (ring : RingValue) (keys : List (List ℕ)) (key : List ℕ) → (place_of ring.q key).partition < ring.q → KeysFit ring keys → KeysFit ring (with_name keys key)
named_fit ring keys key lies fit = by (place keys key)
  where
    by : (o : Option ℕ) → KeysFit ring (if is_some o then keys else keys ++ key ∷ [])
    by (Some n) j other at = fit j other at
    by None j other at = elim (appended_at keys key j other at) [
      | inl last ↦ subst (λ (bs : List ℕ). (place_of ring.q bs).partition < ring.q) last.1 lies
      | inr before ↦ fit j other before.1
    ]

-- a key was numbered, if it was new
pub key_named : (ring : RingValue) (plan : List Planned) (k : Kept) (w : World) (key : List ℕ) → (place_of ring.q key).partition < ring.q → Tells ring plan k w → Tells ring plan (record k { keys = with_name k.keys key }) w
key_named ring plan k w key lies m = record {
  is_ring = m.is_ring;
  is_plan = m.is_plan;
  approved = m.approved;
  run = m.run;
  nodes = m.nodes;
  steps = m.steps;
  slots = m.slots;
  lost = m.lost;
  losses = m.losses;
  numbered = numbered_named k.keys key m.numbered;
  placed = named_fit ring k.keys key lies m.placed;
  behind = none_behind_named k.last k.keys key m.behind;
  puts = puts_stay_named k.keys k.last k.puts w key m.behind m.puts;
  reads = m.reads;
  gets = gets_stay_named ring (clock_at k.puts) k.keys k.gets w key m.gets;
  stored = m.stored;
  hints = m.hints;
  hinted = m.hinted;
}
