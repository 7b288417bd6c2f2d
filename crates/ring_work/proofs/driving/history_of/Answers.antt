use Rattle.std.proofs.Common.{List, sym, subst}
use Rattle.ring_table.specs.Value.{RingValue}
use Rattle.plan_text.specs.declared.step.Planned.{Planned}
use Rattle.plan_runs.specs.declared.event.Entry.{Entry}
use Rattle.ring_work.specs.Driven.{IsHistory, IsWhole}
use Rattle.ring_work.proofs.Histories.{history, whole}
use Rattle.ring_work.proofs.driving.history_of.Goals as goal

pub returns-clause-run : goal.returns-clause-run
returns-clause-run g c =
    let a = c.args.ledgered in
    let ring = g.L.RunLedger.ring in
    let plan = g.L.RunLedger.plan in
    let here : IsHistory ring plan a.history.items = history ring plan a.world a.history.items a.replays in
    let there = subst (λ (h : List Entry). IsHistory ring plan h) (sym c.into_entries.ensures.items) here in
    let by_ring = subst (λ (r : RingValue). IsHistory r plan c.into_entries.result.items) (sym c.requires.ring) there in
    subst (λ (p : List Planned). IsHistory c.args.approved.now.ring p c.into_entries.result.items) (sym c.requires.plan) by_ring

pub returns-clause-whole : goal.returns-clause-whole
returns-clause-whole g c = λ finished. (
    let a = c.args.ledgered in
    let ring = g.L.RunLedger.ring in
    let plan = g.L.RunLedger.plan in
    let here : IsWhole ring plan a.history.items = whole ring plan a.world a.history.items c.is_finished-finished.result a.replays c.is_finished-finished.ensures finished in
    let there = subst (λ (h : List Entry). IsWhole ring plan h) (sym c.into_entries.ensures.items) here in
    let by_ring = subst (λ (r : RingValue). IsWhole r plan c.into_entries.result.items) (sym c.requires.ring) there in
    subst (λ (p : List Planned). IsWhole c.args.approved.now.ring p c.into_entries.result.items) (sym c.requires.plan) by_ring)
