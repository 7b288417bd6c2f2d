use Rattle.std.proofs.Common.{◌∙◌}
use Rattle.plan_text.proofs.Searched.{search-has}
use Rattle.plan_moves.proofs.waits.is_among.Goals as goal

pub returns : goal.returns
returns c =
    c.is_ok.ensures.value ∙ search-has c.args.steps.now c.args.number c.binary_search.result c.binary_search.ensures.position c.requires
