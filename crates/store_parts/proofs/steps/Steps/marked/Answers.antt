use Rattle.std.proofs.Common.{◌∙◌}
use Rattle.store_parts.proofs.Marked.{marked_by}
use Rattle.store_parts.proofs.steps.Steps.marked.Goals as goal

pub returns : goal.returns
returns c = c.count_below.ensures ∙ marked_by 16 c.args.step c.args.self.now c.marks.result c.marks.ensures
