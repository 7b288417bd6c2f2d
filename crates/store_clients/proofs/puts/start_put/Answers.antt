use Rattle.std.proofs.Common.{◌∙◌, ℕ, List, refl, sym, ap, subst, arith}
use Rattle.std.specs.Prelude.{Some, Ok}
use Rattle.std.proofs.Props.{props}
use Rattle.plan_runs.specs.declared.event.Reply.TheVariants as reply
use Rattle.store_parts.specs.declared.puts.PutNow.{PutNow}
use Rattle.store_parts.specs.Lasts.{last_of}
use Rattle.store_maps.proofs.OneAnswer.{always_err}
use Rattle.store_parts.specs.Kept.{Tells}
use Rattle.store_parts.specs.Parts.{ring_of, plan_of, kept_of}
use Rattle.store_parts.proofs.StoreInWorld.{holds}
use Rattle.store_clients.specs.Puts.{IsNewPut}
use Rattle.store_clients.proofs.CountersFew.{few_joined}
use Rattle.store_clients.proofs.KeysNumbered.{kept_by, named_still, sized_still}
use Rattle.store_clients.proofs.PutStarts.{put_on, lasts_same}
use Rattle.store_clients.proofs.puts.start_put.Goals as goal

pub new_put-requires-clause-clocks : goal.new_put-requires-clause-clocks
new_put-requires-clause-clocks c d j =
    let a = c.args.parts.now in
    let few = c.requires.few in
    holds a c.requires.sound (hlevel props) (λ w m. (
    let most = few_joined (ring_of a) (plan_of a) (kept_of a) w m c.as_slice-2.result.now (last_of a.lasts c.in_ok-key_number.key_number c.args.writer.0) d c.args.writer.0 j in
    omega arith))

pub returns-in_err-put-clause-same : goal.returns-in_err-put-clause-same
returns-in_err-put-clause-same c =
    let a = c.args.parts.now in
    always_err c.from_residual-in_err-put.result _
    (λ w m. named_still a c.number_of.new.keys c.as_slice.result.now c.requires.sound (c.in_ok-key_number.ensures).keys (c.in_ok-key_number.ensures).lies w m)

pub returns-in_err-number-clause-same : goal.returns-in_err-number-clause-same
returns-in_err-number-clause-same c =
    let a = c.args.parts.now in
    let last = last_of c.push_put.new.lasts in
    always_err c.from_residual-in_err-number.result _ (λ w m.
    let named = named_still a c.number_of.new.keys c.as_slice.result.now c.requires.sound (c.in_ok-key_number.ensures).keys (c.in_ok-key_number.ensures).lies w m in
    let lasts = lasts_same (ring_of a) (plan_of a) (kept_by a c.number_of.new.keys) w last (c.in_err-number.ensures).same_lasts named in
    subst (λ (puts : List PutNow). Tells (ring_of a) (plan_of a) (record (kept_by a c.number_of.new.keys) { last = last; puts = puts }) w) (sym (c.in_err-number.ensures).same_puts) lasts)

pub returns-clause-ok : goal.returns-clause-ok
returns-clause-ok c w m =
    let a = c.args.parts.now in
    let writer = c.args.writer in
    let seen = c.args.seen.now in
    let last = last_of c.push_put.new.lasts in
    let put = c.in_ok-put.put in
    let n = c.in_ok-key_number.key_number in
    let named = named_still a c.number_of.new.keys c.as_slice.result.now c.requires.sound (c.in_ok-key_number.ensures).keys (c.in_ok-key_number.ensures).lies w m in
    let number = (c.in_ok-key_number.ensures).number ∙ ap (λ (bs : List ℕ). Some bs) c.as_slice.ensures in
    let made = subst (λ (gs : List ℕ). IsNewPut a.puts a.gets (last_of a.lasts) n writer.0 c.args.value.now gs put) c.as_slice-2.ensures.value (c.in_ok-put.ensures).ok in
    let s = put_on (ring_of a) (plan_of a) (kept_by a c.number_of.new.keys) w writer c.args.key.now c.args.value.now seen put n last named (sym (c.requires.passes w m)) number made (c.in_ok-number.ensures).lasts in (
      s.0,
      s.1 ∙ ap (λ (z : ℕ). Ok (s.0, reply.Put z)) (sym (c.in_ok-number.ensures).number),
      subst (λ (puts : List PutNow). Tells (ring_of a) (plan_of a) (record (kept_by a c.number_of.new.keys) { last = last; puts = puts }) s.0) (sym (c.in_ok-number.ensures).puts) s.2,
    )

pub returns-in_err-put-clause-follows : goal.returns-in_err-put-clause-follows
returns-in_err-put-clause-follows c = record { approved = refl; sized = sized_still c.args.parts.now _ _ _ _ c.as_slice.result.now c.requires.sound.sized refl refl refl (c.in_ok-key_number.ensures).keys }

pub returns-in_err-number-clause-follows : goal.returns-in_err-number-clause-follows
returns-in_err-number-clause-follows c = record { approved = refl; sized = sized_still c.args.parts.now _ _ _ _ c.as_slice.result.now c.requires.sound.sized refl refl refl (c.in_ok-key_number.ensures).keys }

pub returns-clause-follows : goal.returns-clause-follows
returns-clause-follows c = record { approved = refl; sized = sized_still c.args.parts.now _ _ _ _ c.as_slice.result.now c.requires.sound.sized refl refl refl (c.in_ok-key_number.ensures).keys }
