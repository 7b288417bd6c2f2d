use Rattle.std.proofs.Common.{◌∙◌, ap, List}
use Rattle.plan_order.proofs.Keeping.{looked_up}
use Rattle.plan_order.specs.Facts.{has_ends, AreSorted}
use Rattle.plan_order.specs.declared.facts.Ends.{Ends}
use Rattle.plan_order.proofs.facts.Facts.has.Goals as goal

pub returns : goal.returns
returns c =
    let sorted : AreSorted c.deref.result.now = rw c.deref.ensures.value c.self.invariant in
    c.is_ok.ensures.value
    ∙ looked_up (record { first = c.args.a; last = c.args.b }) c.deref.result.now c.binary_search.result sorted c.binary_search.ensures.bound c.binary_search.ensures.position
    ∙ ap (λ (es : List Ends). has_ends c.args.a c.args.b es) (c.deref.ensures.value ∙ c.self.view_is)
