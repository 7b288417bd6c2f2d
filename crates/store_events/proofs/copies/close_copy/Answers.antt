use Rattle.std.proofs.Common.{sym, refl}
use Rattle.store_parts.specs.Parts.{ring_of, plan_of, kept_of}
use Rattle.store_events.proofs.CopiesOn.{close_on}
use Rattle.store_events.proofs.copies.close_copy.Goals as goal

pub returns-clause-next : goal.returns-clause-next
returns-clause-next c w m = (let a = c.args.parts.now in close_on (ring_of a) (plan_of a) (kept_of a) w c.args.step m _ (sym (c.requires.passes w m)) c.finish.ensures)

pub returns-clause-follows : goal.returns-clause-follows
returns-clause-follows c = (let s = c.requires.sound.sized in record { approved = refl; sized = record { space = s.space; keys = s.keys; numbered = s.numbered; stored = s.stored; hinted = s.hinted } })
