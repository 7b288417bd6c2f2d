use Rattle.std.proofs.Common.{◌∙◌, ℕ, List, refl, sym, ap, subst}
use Rattle.std.specs.Prelude.{Some, None, Ok}
use Rattle.plan_runs.specs.declared.event.Reply.TheVariants as reply
use Rattle.store_parts.specs.declared.gets.GetNow.{GetNow}
use Rattle.store_maps.proofs.OneAnswer.{always_err}
use Rattle.store_parts.specs.Kept.{Tells}
use Rattle.store_parts.specs.Parts.{ring_of, plan_of, kept_of}
use Rattle.store_clients.proofs.GetsStartEnd.{started_on}
use Rattle.store_clients.proofs.KeysNumbered.{kept_by, named_still, sized_still}
use Rattle.store_clients.proofs.gets.start_get.Goals as goal

pub returns-in_err-push-clause-same : goal.returns-in_err-push-clause-same
returns-in_err-push-clause-same c =
    let a = c.args.parts.now in
    always_err c.from_residual-in_err-push.result _ (λ w m.
    let named = named_still a c.number_of.new.keys c.as_slice.result.now c.requires.sound (c.in_ok-key_number.ensures).keys (c.in_ok-key_number.ensures).lies w m in
    subst (λ (gets : List GetNow). Tells (ring_of a) (plan_of a) (record (kept_by a c.number_of.new.keys) { gets = gets }) w) (sym (c.in_err-push.ensures).err) named)

pub returns-clause-ok : goal.returns-clause-ok
returns-clause-ok c w m =
    let a = c.args.parts.now in
    let key = c.args.key.now in
    let get : GetNow = record { key = c.in_ok-key_number.key_number; read = c.none.result; found = c.new.result; reply = None } in
    let named = named_still a c.number_of.new.keys c.as_slice.result.now c.requires.sound (c.in_ok-key_number.ensures).keys (c.in_ok-key_number.ensures).lies w m in
    let number = (c.in_ok-key_number.ensures).number ∙ ap (λ (bs : List ℕ). Some bs) c.as_slice.ensures in
    let s = started_on (ring_of a) (plan_of a) (kept_by a c.number_of.new.keys) w key get named number c.none.ensures.numbers c.new.ensures refl in (
      s.0,
      s.1 ∙ ap (λ (n : ℕ). Ok (s.0, reply.Get n)) (sym c.len-number.ensures),
      subst (λ (gets : List GetNow). Tells (ring_of a) (plan_of a) (record (kept_by a c.number_of.new.keys) { gets = gets }) s.0) (sym (c.in_ok-push.ensures).ok) s.2,
    )

pub returns-in_err-push-clause-follows : goal.returns-in_err-push-clause-follows
returns-in_err-push-clause-follows c = record { approved = refl; sized = sized_still c.args.parts.now _ _ _ _ c.as_slice.result.now c.requires.sound.sized refl refl refl (c.in_ok-key_number.ensures).keys }

pub returns-clause-follows : goal.returns-clause-follows
returns-clause-follows c = record { approved = refl; sized = sized_still c.args.parts.now _ _ _ _ c.as_slice.result.now c.requires.sound.sized refl refl refl (c.in_ok-key_number.ensures).keys }
