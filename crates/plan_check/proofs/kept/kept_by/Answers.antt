use Rattle.std.proofs.Common.{◌∙◌, not, sym, arith, lt-ltb, refl}
use Rattle.std.specs.Prelude.{nat_lt}
use Rattle.std.proofs.lemmas.Bool.{and_parts, not-true}
use Rattle.ring_names.specs.declared.refusal.Refusal.TheVariants.{BadSource, MovingSource, NotJoined, RetiredInUse, SharedInPlan}
use Rattle.plan_cover.specs.Clauses.{chains_from}
use Rattle.plan_check.proofs.Keeping.{kept_covers, kept_left, kept_members, kept_settled, kept_sources, kept_turn, neither, no_both, not_both, not_not}
use Rattle.plan_check.proofs.kept.kept_by.Goals as goal

pub returns-clause-kept : goal.returns-clause-kept
returns-clause-kept c =
    let ring = c.args.context.now.ring.now in
    let plan = c.args.context.now.plan.now in
    let facts = c.args.context.now.facts.now in
    let cert = c.args.cert.now in
    let a = c.args.missed in
    let suits = c.args.context.now.suits in
    let turn = kept_turn ring plan facts a suits c.requires.facts c.requires.holds in
    let left = kept_left ring plan facts a suits c.requires.facts c.requires.holds c.loss.ensures.valid in
    record {
      held = λ h. (
          let b = and_parts (not a.sources) (not c.are_both.result) (sym c.is_neither.ensures ∙ h) in
          c.puts_stay_held.ensures turn (kept_sources ring plan facts a suits c.requires.facts c.requires.holds (not-true a.sources b.0))
          (λ l. left (not_both (nat_lt 0 c.loss.result) a.left (sym c.are_both.ensures ∙ not-true c.are_both.result b.1)
          (lt-ltb 0 c.loss.result (let v = c.loss.ensures.value in omega arith)))));
      apart = λ h. c.groups_stay_apart.ensures turn (left (not-true a.left h));
      few = λ h. (
          let b = and_parts (not a.settled) (not (not c.args.covered)) (sym c.is_neither-2.ensures ∙ h) in
          c.transfers_stay_few.ensures turn (kept_settled ring plan facts a suits c.requires.facts c.requires.holds (not-true a.settled b.0))
          (λ x side. chains_from x side cert.chains)
          (kept_covers ring plan facts a suits c.requires.facts c.requires.holds cert (c.requires.covered (not_not c.args.covered b.1))));
      members = λ h. (
          let b = and_parts (not a.joined) (not a.dropped) (sym c.is_neither-3.ensures ∙ h) in
          c.servers_stay_members.ensures turn
          (kept_members ring plan facts a suits c.requires.facts c.requires.holds c.loss.ensures.valid (not-true a.joined b.0) (not-true a.dropped b.1)));
    }

pub returns-clause-all : goal.returns-clause-all
returns-clause-all c =
    let a = c.args.missed in
    λ none covered. (
      c.is_neither.ensures ∙ neither a.sources c.are_both.result (none (BadSource 0)) (c.are_both.ensures ∙ no_both (nat_lt 0 c.loss.result) a.left (none (SharedInPlan 0))),
      rw (none (SharedInPlan 0)) refl,
      c.is_neither-2.ensures ∙ neither a.settled (not c.args.covered) (none (MovingSource 0)) (rw covered refl),
      c.is_neither-3.ensures ∙ neither a.joined a.dropped (none (NotJoined 0)) (none (RetiredInUse 0)),
    )
