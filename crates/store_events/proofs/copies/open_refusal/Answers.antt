use Rattle.std.proofs.Common.{◌∙◌, sym}
use Rattle.std.proofs.lemmas.Bool.{or_right, or_from, or_left}
use Rattle.plan_runs.proofs.Passed.{ready}
use Rattle.store_parts.specs.Steps.{is_done_at, is_open_at}
use Rattle.store_parts.proofs.StageGuards.{ready_kept}
use Rattle.store_parts.specs.Parts.{plan_of}
use Rattle.store_events.proofs.RequiresMet.{copy_there}
use Rattle.store_events.proofs.EventTests.{open_unknown, open_done, open_unready, open_ready}
use Rattle.store_events.proofs.copies.open_refusal.Goals.{then-is_done-via-then-is_done, then-is_done-via-else-is_done+then-is_open}
use Rattle.store_events.proofs.copies.open_refusal.Goals as goal

pub returns-then-not-has_copy : goal.returns-then-not-has_copy
returns-then-not-has_copy c = open_unknown c.args.parts.now c.args.step (sym c.has_copy.ensures ∙ c.if-not-has_copy.true)

pub returns-then-is_done : goal.returns-then-is_done
returns-then-is_done c =
    let a = c.args.parts.now in
    let done = is_done_at a.steps c.args.step in
    let opened = is_open_at a.steps c.args.step in
    open_done a c.args.step (sym c.has_copy.ensures ∙ c.if-not-has_copy.false) (elim c.then-is_done.branch [
      | then-is_done-via-then-is_done w ↦ or_left done opened (sym c.is_done.ensures ∙ w.if-is_done.true)
      | then-is_done-via-else-is_done+then-is_open w ↦ or_right done opened (sym w.is_open.ensures ∙ w.if-is_open.true)
    ])

pub is_ready-requires : goal.is_ready-requires
is_ready-requires c = copy_there (plan_of c.args.parts.now) c.args.step (sym c.has_copy.ensures ∙ c.if-not-has_copy.false)

pub returns-then-not-is_ready : goal.returns-then-not-is_ready
returns-then-not-is_ready c =
    open_unready c.args.parts.now c.args.step (sym c.has_copy.ensures ∙ c.if-not-has_copy.false)
    (or_from _ _ (sym c.is_done.ensures ∙ c.if-is_done.false) (sym c.is_open.ensures ∙ c.if-is_open.false)) (sym c.is_ready.ensures ∙ c.if-not-is_ready.true)

pub party_refusal-requires-clause-ready : goal.party_refusal-requires-clause-ready
party_refusal-requires-clause-ready c w m =
    let a = c.args.parts.now in (
      sym c.has_copy.ensures ∙ c.if-not-has_copy.false,
      ready (plan_of a) w c.args.step (sym (ready_kept (plan_of a) a.steps w c.args.step m.steps) ∙ sym c.is_ready.ensures ∙ c.if-not-is_ready.false),
      sym (m.steps.done c.args.step) ∙ sym c.is_done.ensures ∙ c.if-is_done.false,
    )

pub returns : goal.returns
returns c =
    open_ready c.args.parts.now c.args.step c.party_refusal.result (sym c.has_copy.ensures ∙ c.if-not-has_copy.false)
    (or_from _ _ (sym c.is_done.ensures ∙ c.if-is_done.false) (sym c.is_open.ensures ∙ c.if-is_open.false)) (sym c.is_ready.ensures ∙ c.if-not-is_ready.false) c.party_refusal.ensures
