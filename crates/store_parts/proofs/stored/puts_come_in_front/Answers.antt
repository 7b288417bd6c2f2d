use Rattle.store_parts.proofs.StoredGrows.{mirror_more, served_more, copied_more}
use Rattle.std.proofs.Common.{refl}
use Rattle.plan_runs.specs.Versions.{put_slot}
use Rattle.store_parts.proofs.stored.puts_come_in_front.Goals as goal

pub returns-clause-node : goal.returns-clause-node
returns-clause-node c test x s more y t v = refl

pub returns-clause-mirror : goal.returns-clause-mirror
returns-clause-mirror c = mirror_more

pub returns-clause-served : goal.returns-clause-served
returns-clause-served c = served_more

pub returns-clause-write : goal.returns-clause-write
returns-clause-write c ring plan w v i y t u = served_more ring plan w (put_slot ring w v i) _ y t u

pub returns-clause-handoff : goal.returns-clause-handoff
returns-clause-handoff c ring plan w x s y t u = served_more ring plan w s (w.hinted x.0 s) y t u

pub returns-clause-chunk : goal.returns-clause-chunk
returns-clause-chunk c ring plan w n d y t u = copied_more ring plan w n d y t u

pub returns-clause-hint : goal.returns-clause-hint
returns-clause-hint c ring plan w v i x y t u = refl
