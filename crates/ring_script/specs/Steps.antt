-- What playing events does to a store, and to the text that is printed.
use Rattle.std.specs.Prelude.{◌≡◌, ℕ, ◌+◌, ◌≤◌, List, ◌∷◌, ◌++◌, length}
use Rattle.std.specs.Fmt.{decimal}
use Rattle.plan_runs.specs.declared.event.Event.{Event}
use Rattle.plan_runs.specs.Answers.{answer}
use Rattle.plan_runs.specs.World.{World as TheWorld}
use Rattle.ring_core.specs.declared.world.World.{World}
use Rattle.ring_core.specs.World.{ring_of, plan_of, Meets, put_count, get_count}
use Rattle.ring_script.specs.Play.{behind, said, world_after, event_lines}

-- the event of that place was answered: the store is in the world behind it, and the text has its line
pub record Happens (old : World) (e : Event) (new : World) (before : List ℕ) (k : ℕ) (after : List ℕ) : Type 0 where
  pub ring : ring_of new ≡ ring_of old
  pub plan : plan_of new ≡ plan_of old
  pub puts : put_count new ≤ put_count old + 1
  pub gets : get_count new ≤ get_count old + 1
  pub world : (w : TheWorld) → Meets old w → Meets new (behind w (answer (ring_of old) (plan_of old) w e))
  pub text : (w : TheWorld) → Meets old w → after ≡ before ++ decimal k ++ 32 ∷ said (answer (ring_of old) (plan_of old) w e)

-- all events were answered, one behind the other
pub record Plays (old : World) (events : List Event) (new : World) (before after : List ℕ) : Type 0 where
  pub ring : ring_of new ≡ ring_of old
  pub plan : plan_of new ≡ plan_of old
  pub puts : put_count new ≤ put_count old + length events
  pub gets : get_count new ≤ get_count old + length events
  pub world : (w : TheWorld) → Meets old w → Meets new (world_after (ring_of old) (plan_of old) w events)
  pub text : (w : TheWorld) → Meets old w → after ≡ before ++ event_lines (ring_of old) (plan_of old) w 0 events
