use Rattle.std.proofs.Common.{List, sym, subst, subst₂}
use Rattle.std.specs.Prelude.{IfOk, IfSome, IfNone}
use Rattle.plan_runs.specs.declared.event.Event.{Event}
use Rattle.ring_board.specs.declared.asked.Asked.{Asked}
use Rattle.ring_board.specs.Blocks.{Leaves, HasNoBlock}
use Rattle.ring_board.proofs.blocks.behind_line.Goals as goal

pub returns-in-StartPut-clause-some : goal.returns-in-StartPut-clause-some
returns-in-StartPut-clause-some c =
    subst₂ (λ (a : List Asked) (e : Event). IfSome c.behind_put_line.result (λ rest. Leaves a e c.args.list.now rest.now a)) c.as_slice.ensures.value (sym c.in-StartPut.is) c.behind_put_line.ensures.some

pub returns-in-StartPut-clause-none : goal.returns-in-StartPut-clause-none
returns-in-StartPut-clause-none c =
    subst₂ (λ (a : List Asked) (e : Event). IfNone c.behind_put_line.result (HasNoBlock a e c.args.list.now)) c.as_slice.ensures.value (sym c.in-StartPut.is) c.behind_put_line.ensures.none

pub returns-in-StartGet-clause-none : goal.returns-in-StartGet-clause-none
returns-in-StartGet-clause-none c =
    subst (λ (e : Event). IfOk c.behind_get_line.result (λ o. IfNone o (HasNoBlock c.args.asked.now.items e c.args.list.now))) (sym c.in-StartGet.is) c.behind_get_line.ensures.none
