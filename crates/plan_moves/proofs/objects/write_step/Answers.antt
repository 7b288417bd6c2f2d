use Rattle.plan_moves.proofs.objects.write_step.Goals as goal

pub returns-in-Mirror-clause-ok : goal.returns-in-Mirror-clause-ok
returns-in-Mirror-clause-ok c = rw c.in-Mirror.is c.write_mirror.ensures.ok

pub returns-in-Drop-clause-ok : goal.returns-in-Drop-clause-ok
returns-in-Drop-clause-ok c = rw c.in-Drop.is c.write_drop.ensures.ok
