use Rattle.std.proofs.Common.{◌∙◌, ap, sym}
use Rattle.plan_check.specs.Approval.{Approval}
use Rattle.ring_core.proofs.RestSame.{same_store, sound_again}
use Rattle.ring_core.proofs.world.World.resume.Goals as goal

pub invariant_of-result : goal.invariant_of-result
invariant_of-result c =
    let e = c.parts.ensures.approved in
    let all = sound_again c.args.approved.now.ring c.args.approved.now.plan c.parts.result c.args.rest (ap (λ (a : Approval). a.ring) e) (ap (λ (a : Approval). a.plan) e) c.parts.ensures.rest c.requires in
    record { sound = all.0; puts = all.1; gets = all.2 }

pub returns-clause-same : goal.returns-clause-same
returns-clause-same c = λ a ring plan rest.
    let e = c.parts.ensures.approved in
    same_store a _ (ap (λ (x : Approval). x.ring) e ∙ sym ring) (ap (λ (x : Approval). x.plan) e ∙ sym plan) (c.parts.ensures.rest ∙ sym rest)
