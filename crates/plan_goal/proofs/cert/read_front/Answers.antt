use Rattle.std.proofs.Common.{subst}
use Rattle.texts.specs.Judging.{Gives, map_ok}
use Rattle.plan_goal.specs.Certs.{front_at, parts}
use Rattle.plan_goal.proofs.Fronts.{gives-front}
use Rattle.plan_goal.proofs.cert.read_front.Goals as goal

pub returns-clause-read : goal.returns-clause-read
returns-clause-read c = subst (λ s. Gives (map_ok parts c.read_both.result) (map_ok (λ x. parts x.0) (front_at s))) c.of-lines.ensures
    (gives-front c.read_both.result c.read_both.new.lines (front_at c.of-lines.result) c.read_both.ensures.read)
