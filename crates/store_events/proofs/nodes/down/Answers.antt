use Rattle.std.proofs.Common.{sym, refl}
use Rattle.store_parts.specs.Parts.{ring_of, plan_of, kept_of}
use Rattle.store_events.proofs.NodesOn.{down_on}
use Rattle.store_events.proofs.nodes.down.Goals as goal

pub returns-clause-next : goal.returns-clause-next
returns-clause-next c w m = (let a = c.args.parts.now in down_on (ring_of a) (plan_of a) (kept_of a) w c.args.node m _ (sym (c.requires.passes w m)) c.lower.ensures)

pub returns-clause-follows : goal.returns-clause-follows
returns-clause-follows c = (let s = c.requires.sound.sized in record { approved = refl; sized = record { space = s.space; keys = s.keys; numbered = s.numbered; stored = s.stored; hinted = s.hinted } })
