use Rattle.std.proofs.Common.{◌∙◌, true, false, sym}
use Rattle.plan_runs.specs.World.{slot_at}
use Rattle.store_parts.proofs.NodesNow.{nodes_meet}
use Rattle.store_parts.proofs.SlotsGuards.{write_kept}
use Rattle.store_parts.specs.Parts.{ring_of, plan_of}
use Rattle.store_events.proofs.writing.write_refusal.Goals as goal

pub returns-in-Some : goal.returns-in-Some
returns-in-Some c w m =
    let a = c.args.parts.now in
    let s = c.in-Some.ensures w m in
    c.served_refusal.ensures
    ∙ write_kept (ring_of a) (plan_of a) a.nodes a.slots w true c.in-Some.slot c.args.put c.args.index (nodes_meet (ring_of a) (plan_of a) a.nodes w m.nodes) m.slots (sym s.0) (λ e. (s.1, s.2))

pub returns-in-None : goal.returns-in-None
returns-in-None c w m =
    let a = c.args.parts.now in
    let s = c.in-None.ensures w m in
    write_kept (ring_of a) (plan_of a) a.nodes a.slots w false (slot_at 0 0) c.args.put c.args.index (nodes_meet (ring_of a) (plan_of a) a.nodes w m.nodes) m.slots (sym s) (λ e. absurd cc)
