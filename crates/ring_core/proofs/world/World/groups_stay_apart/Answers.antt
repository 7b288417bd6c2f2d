use Rattle.ring_core.proofs.world.World.groups_stay_apart.Goals as goal

pub returns : goal.returns
returns c w m = (m.approved.keeps.safe m.run.0 w m.run.1).apart
