-- How the checker looks at a clause: the stage for which a walk stands.
use Rattle.plan_stage.specs.declared.stage.Stage.{Stage}
use Rattle.plan_stage.specs.declared.walk.Walk.{Walk}

-- the stage of the same owner, mirror and leftovers
abbrev pub stage_of : Walk → Stage
stage_of a = record { owner = a.owner; mirror = a.mirror; copied = a.copied; leftovers = a.leftovers }
