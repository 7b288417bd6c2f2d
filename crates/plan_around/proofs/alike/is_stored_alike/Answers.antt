use Rattle.std.proofs.Common.{◌∙◌, sym}
use Rattle.plan_around.proofs.alike.is_stored_alike.Goals as goal

pub returns : goal.returns
returns c t w u m n = sym (c.is_stored-theirs.ensures u n) ∙ sym (c.is_same.ensures t) ∙ c.is_stored-mine.ensures w m
