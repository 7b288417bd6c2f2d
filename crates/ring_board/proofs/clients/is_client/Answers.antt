use Rattle.std.proofs.Common.{rules, ◌≡◌, List, ◌∷◌, sym, subst}
use Rattle.std.proofs.lemmas.Bool.{true≢false}
use Rattle.plan_runs.specs.declared.event.Event.{Event}
use Rattle.ring_board.specs.Blocks.{AreBlocks}
use Rattle.ring_board.proofs.clients.is_client.Goals as goal

pub returns-in-None-clause-exactly : goal.returns-in-None-clause-exactly
returns-in-None-clause-exactly c = (
  λ t. absurd (true≢false (sym t)),
  λ client. (
      let none = rw c.in-None.is at c.in_ok-left.ensures.none in
      let lines_is : c.lines.lines.now ≡ c.in-Some.line.now ∷ c.in-Some.later.now = search rules in
      absurd (none c.in-Some.later.now (subst (λ (ls : List Event). AreBlocks c.lines.asked.items ls c.lines.rest.now) lines_is (c.lines.invariant.1 client)))),
)
