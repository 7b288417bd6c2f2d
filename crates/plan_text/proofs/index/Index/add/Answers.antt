use Rattle.std.proofs.Common.{◌∙◌, subst, sym}
use Rattle.std.proofs.lemmas.Result.{on_ok_weaker}
use Rattle.plan_text.proofs.Pushed.{on_both}
use Rattle.plan_text.proofs.Indexed.{OnSlot, HoldsSteps-join, HoldsSteps-retire, HoldsSteps-slot, on_slot}
use Rattle.plan_text.proofs.index.Index.add.Goals as goal

pub returns-in-Join-clause-ok : goal.returns-in-Join-clause-ok
returns-in-Join-clause-ok c =
    on_both c.add.result (λ more fresh plan h n x e. HoldsSteps-join c.args.self.now c.add.new.self plan x c.in-Join.node c.args.number n (e ∙ c.in-Join.is) more fresh h) c.add.ensures.firsts c.add.ensures.different

pub returns-in-Retire-clause-ok : goal.returns-in-Retire-clause-ok
returns-in-Retire-clause-ok c =
    on_both c.add-in-Retire.result (λ more fresh plan h n x e. HoldsSteps-retire c.args.self.now c.add-in-Retire.new.self plan x c.in-Retire.node c.args.number n (e ∙ c.in-Retire.is) more fresh h) c.add-in-Retire.ensures.firsts c.add-in-Retire.ensures.different

pub returns-in-Mirror-clause-ok : goal.returns-in-Mirror-clause-ok
returns-in-Mirror-clause-ok c =
    on_ok_weaker c.add-in-Mirror.result (λ more plan h n x e. HoldsSteps-slot c.args.self.now c.add-in-Mirror.new.self plan x c.in-Mirror.slot c.args.number n (subst (OnSlot c.in-Mirror.slot) (sym e) (on_slot c.in-Mirror.slot c.args.step.now c.in-Mirror.is)) more h) c.add-in-Mirror.ensures.ok
