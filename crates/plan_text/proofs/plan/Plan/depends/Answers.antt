use Rattle.std.proofs.Common.{◌∙◌}
use Rattle.plan_text.proofs.Searched.{search-has, deps-ascend, depends-deps}
use Rattle.plan_text.proofs.plan.Plan.depends.Goals as goal

pub returns : goal.returns
returns c =
    c.is_ok.ensures.value ∙ search-has c.deps.result.now c.args.a c.binary_search.result c.binary_search.ensures.position (deps-ascend 0 c.args.self.now c.args.b c.deps.result.now c.deps.ensures.valid.each c.deps.ensures.value) ∙ depends-deps c.args.self.now c.args.a c.args.b c.deps.result.now c.deps.ensures.value
