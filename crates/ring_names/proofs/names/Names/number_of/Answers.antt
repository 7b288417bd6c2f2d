use Rattle.std.proofs.Common.{◌∙◌, sym, arith}
use Rattle.ring_names.proofs.Places.{place-below}
use Rattle.ring_names.proofs.names.Names.number_of.Goals as goal

pub overflow_cast-result : goal.overflow_cast-result
overflow_cast-result c = let b = place-below c.self.inside.names c.in-Some.number c.args.name.now (sym c.number_of.ensures ∙ c.in-Some.is) in let room = c.self.invariant in omega arith
