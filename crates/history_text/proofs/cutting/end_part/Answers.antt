use Rattle.std.proofs.Common.{◌≡◌, sym, ◌∙◌, true, false}
use Rattle.history_text.proofs.Rooms.{small, large}
use Rattle.history_text.proofs.cutting.end_part.Goals as goal

pub returns-then-is_small-clause-text : goal.returns-then-is_small-clause-text
returns-then-is_small-clause-text c = λ t n h. (let s = c.is_small.ensures.0 c.if-is_small.true in small c.push_text.new.self _ n (c.in-Ok.ensures t n h) s.0 s.1)

pub returns-else-is_small-clause-text : goal.returns-else-is_small-clause-text
returns-else-is_small-clause-text c = λ t n h. large c.push_text.new.self _ n (c.in-Ok.ensures t n h) (λ s. (let bad : true ≡ false = sym (c.is_small.ensures.1 s) ∙ c.if-is_small.false in absurd cc))
