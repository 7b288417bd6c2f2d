use Rattle.plan_check.proofs.Occupied.{occupied, ends_later, mirror_ends_later}
use Rattle.plan_check.proofs.Serving.{serving}
use Rattle.plan_check.proofs.laws.servers_occupy.Goals as goal

pub returns-clause-occupy : goal.returns-clause-occupy
returns-clause-occupy c = λ slot x k p i le s. record {
  since = occupied c.args.ring.now c.args.plan.now slot x k c.n.ensures.valid p i le s;
  first_later = λ f e is. ends_later c.args.ring.now c.args.plan.now slot x k e le f is;
  mirror_later = λ b f e is. mirror_ends_later c.args.ring.now c.args.plan.now slot x k b e le f is;
}

pub returns-clause-serve : goal.returns-clause-serve
returns-clause-serve c = λ staged slot x k p i le o. serving c.args.ring.now c.args.plan.now slot x k staged p i le o
