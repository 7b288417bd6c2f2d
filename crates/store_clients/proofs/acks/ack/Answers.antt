use Rattle.std.proofs.Common.{sym, subst, List}
use Rattle.store_parts.specs.Kept.{Tells}
use Rattle.store_parts.specs.Parts.{ring_of, plan_of, kept_of}
use Rattle.store_parts.specs.declared.puts.PutNow.{PutNow}
use Rattle.store_clients.proofs.Acknowledgements.{acked_on}
use Rattle.store_clients.proofs.acks.ack.Goals as goal

pub returns-clause-next : goal.returns-clause-next
returns-clause-next c w m =
    let old = c.args.parts.now in
    let a = acked_on (ring_of old) (plan_of old) (kept_of old) w c.args.put m (sym (c.requires.passes w m)) in
    (a.0, a.1, subst (λ (puts : List PutNow). Tells (ring_of old) (plan_of old) (record (kept_of old) { puts = puts }) a.0) (sym c.acknowledge.ensures) a.2)
