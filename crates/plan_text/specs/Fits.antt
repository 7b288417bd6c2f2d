-- Which lines' steps can be kept.
use Rattle.std.specs.Prelude.{◌≡◌, ◌+◌, ◌<◌, ◌≤◌, true, List, [], length}
use Rattle.texts.specs.Numbers.{are_small}
use Rattle.ring_table.specs.Value.{RingValue}
use Rattle.plan_text.specs.declared.step.Step.{Step}
use Rattle.plan_text.specs.declared.step.Planned.{Planned}
use Rattle.plan_text.specs.Steps.{dependencies, joins, retires}
use Rattle.plan_text.specs.Valid.{HasSources, IsPlanned, step_suits}

-- the step can be the next one of the plan
pub record IsNext (plan : List Planned) (x : Planned) : Type 0 where
  pub after : are_small x.after ≡ true
  pub planned : IsPlanned (length plan) x
  pub room : length plan < 131072
  pub few : dependencies plan + length x.after ≤ 524288

-- the step suits the ring, and neither joins nor retires a node
pub record IsMove (ring : RingValue) (s : Step) : Type 0 where
  pub suits : step_suits ring s ≡ true
  pub sources : HasSources s
  pub joins : joins s ≡ []
  pub retires : retires s ≡ []
