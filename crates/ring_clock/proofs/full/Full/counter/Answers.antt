use Rattle.std.proofs.Common.{◌∙◌, ap}
use Rattle.ring_clock.specs.Clock.{counter}
use Rattle.ring_clock.proofs.Places.{its_counter, no_counter}
use Rattle.ring_clock.proofs.full.Full.counter.Goals as goal

pub returns-then-writer-self : goal.returns-then-writer-self
returns-then-writer-self c = c.from.ensures ∙ its_counter c.self.inside.group c.self.inside.counters c.args.writer.0 c.if-writer-self.true ∙ ap (λ es. counter es c.args.writer.0) c.self.view_is

pub returns-else-writer-self : goal.returns-else-writer-self
returns-else-writer-self c = no_counter c.self.inside.group c.self.inside.counters c.args.writer.0 c.self.told c.if-writer-self.false ∙ ap (λ es. counter es c.args.writer.0) c.self.view_is
