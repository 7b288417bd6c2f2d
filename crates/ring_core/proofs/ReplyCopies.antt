-- Events whose reply lists no puts, and what is so of a reply with its copy.
use Rattle.std.proofs.Common.{◌≡◌, ℕ, Bool, true, false, List, refl, subst}
use Rattle.std.proofs.Props.{props}
use Rattle.std.specs.Prelude.{Result, Ok, Err, IfOk, OnErr}
use Rattle.ring_names.specs.declared.refusal.Refusal.{Refusal}
use Rattle.ring_table.specs.Value.{RingValue}
use Rattle.plan_text.specs.declared.step.Planned.{Planned}
use Rattle.plan_runs.specs.declared.event.Event.{Event}
use Rattle.plan_runs.specs.declared.event.Event.TheVariants.{Read, EndGet}
use Rattle.plan_runs.specs.declared.event.Reply.{Reply}
use Rattle.plan_runs.specs.Answers.{reply_to}
use Rattle.plan_runs.specs.World.{World}
use Rattle.plan_runs.proofs.Answered.{answered}
use Rattle.ring_core.specs.Numbers.{lists_puts}
use Rattle.store_parts.specs.declared.parts.Parts.{Parts}
use Rattle.store_parts.specs.Parts.{ring_of, plan_of, IsSound, Answers}
use Rattle.store_parts.proofs.StoreInWorld.{holds}

-- the event is answered by a list of puts
abbrev pub is_asked : Event → Bool
is_asked (Read g i) = true
is_asked (EndGet g) = true
is_asked e = false

told_none : (ring : RingValue) (plan : List Planned) (w : World) (e : Event) → is_asked e ≡ false → lists_puts (reply_to ring plan w e) ≡ false
told_none ring plan w (Read g i) is = absurd cc
told_none ring plan w (EndGet g) is = absurd cc
told_none ring plan w e is = refl

-- such a reply lists none
pub lists_none : (old new : Parts) (e : Event) (r : Reply) → IsSound old → Answers old e r new → is_asked e ≡ false → lists_puts r ≡ false
lists_none old new e r sound answers is = holds old sound (hlevel props) (λ w m. (
    let a = answers w m in
    let told = (answered (ring_of old) (plan_of old) w a.0 e r a.1).2 in
    subst (λ (x : Reply). lists_puts x ≡ false) told (told_none (ring_of old) (plan_of old) w e is)))

-- the reply without its copy
abbrev pub alone : Result (Reply × Reply) Refusal → Result Reply Refusal
alone (Ok r) = Ok r.0
alone (Err e) = Err e

pub ok_alone : (P : Reply → Type 0) (o : Result (Reply × Reply) Refusal) → IfOk o (λ r. P r.0) → IfOk (alone o) P
ok_alone P (Ok r) h = h
ok_alone P (Err e) h = h

pub err_alone : (P : Type 0) (o : Result (Reply × Reply) Refusal) → OnErr o P → OnErr (alone o) P
err_alone P (Ok r) h = h
err_alone P (Err e) h = h

pub ok_beside : (P : Reply → Type 0) (o : Result (Reply × Reply) Refusal) → IfOk (alone o) P → IfOk o (λ r. P r.0)
ok_beside P (Ok r) h = h
ok_beside P (Err e) h = h

pub not_asked : (e : Event) → ((g i : ℕ) → e ≡ Read g i → ⊥) → ((g : ℕ) → e ≡ EndGet g → ⊥) → is_asked e ≡ false
not_asked (Read g i) read ends = absurd (read g i refl)
not_asked (EndGet g) read ends = absurd (ends g refl)
not_asked e read ends = cc
