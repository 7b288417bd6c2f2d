use Rattle.std.proofs.Common.{◌∙◌, ap, sym}
use Rattle.std.specs.Prelude.{◌||◌}
use Rattle.plan_order.specs.Facts.{has_ends}
use Rattle.plan_order.proofs.Keeping.{added, ends_of}
use Rattle.plan_order.proofs.facts.add_ends.Goals as goal

pub returns-in_ok-push-clause-ok : goal.returns-in_ok-push-clause-ok
returns-in_ok-push-clause-ok c = λ a b.
    let put = ap (has_ends a b) c.in_ok-push.ensures.items ∙ added (record { first = c.in-Some-Some.first.now; last = c.in-Some-Some.last.now }) c.args.ends.now.items a b in
    let path = ends_of c.args.path.now c.in-Some-Some.first.now c.in-Some-Some.last.now (c.in-Some-Some.ensures).value (c.in-Some-Some.ensures').value a b in
    put ∙ ap (λ t. t || has_ends a b c.args.ends.now.items) (sym path)
