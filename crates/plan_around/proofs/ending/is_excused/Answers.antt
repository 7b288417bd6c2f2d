use Rattle.std.proofs.Common.{◌≡◌, ◌∙◌, Bool, List, subst, sym, true}
use Rattle.plan_goal.specs.Sized.{is_flagged}
use Rattle.plan_around.specs.Ends.{hinted, owned, stays, touched}
use Rattle.plan_around.proofs.ending.is_excused.Goals as goal

pub returns-then-has_dead_owner : goal.returns-then-has_dead_owner
returns-then-has_dead_owner c = λ t w m. touched (owned (sym c.has_dead_owner.ensures ∙ c.if-has_dead_owner.true))

pub returns-then-is_flagged : goal.returns-then-is_flagged
returns-then-is_flagged c = λ t w m.
    let flagged = subst (λ (marks : List Bool). is_flagged marks c.args.partition ≡ true) c.as_slice.ensures.value (sym c.is_flagged.ensures ∙ c.if-is_flagged.true) in
    let kept = c.requires.hinted c.args.partition flagged w m in
    touched (hinted kept.0 kept.1 kept.2 kept.3)

pub returns-then-has_dead_targets : goal.returns-then-has_dead_targets
returns-then-has_dead_targets c = λ t w m. touched (c.has_dead_targets.ensures c.if-has_dead_targets.true c.args.it.now.ring.now w)

pub returns : goal.returns
returns c = λ t w m. stays (c.requires.left c.args.partition (subst (λ (marks : List Bool). is_flagged marks c.args.partition ≡ true) c.as_slice-2.ensures.value (sym c.is_flagged-2.ensures ∙ t)))
