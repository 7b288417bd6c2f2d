-- What a store that was sound is after an event.
use Rattle.std.proofs.Common.{◌≡◌, ◌+◌, ◌<◌, ◌≤◌, Bool, true, false, length, subst, arith}
use Rattle.std.proofs.Props.{props}
use Rattle.std.proofs.Math.Logic.{∥∥₁_map}
use Rattle.std.specs.Prelude.{Result, Ok, Err, IfOk, OnErr, if◌then◌else◌}
use Rattle.ring_names.specs.declared.refusal.Refusal.{Refusal}
use Rattle.plan_runs.specs.declared.event.Event.{Event}
use Rattle.plan_runs.specs.declared.event.Event.TheVariants.{StartPut, StartGet}
use Rattle.plan_runs.specs.declared.event.Reply.{Reply}
use Rattle.plan_runs.specs.World.{World}
use Rattle.plan_runs.proofs.Answered.{answered}
use Rattle.plan_runs.proofs.Frames.{puts_many, gets_many}
use Rattle.plan_runs.specs.Leaves.{starts_put, starts_get}
use Rattle.store_parts.specs.declared.parts.Parts.{Parts}
use Rattle.store_parts.specs.Parts.{ring_of, plan_of, IsSound, Answers, Stays, Follows}
use Rattle.store_parts.proofs.StoreInWorld.{holds}
use Rattle.ring_core.specs.Numbers.{HasNumber}

-- it is sound still
pub sound_still : (old new : Parts) (e : Event) (result : Result Reply Refusal) → IsSound old → Follows old new → IfOk result (λ r. Answers old e r new) → OnErr result (Stays old new) → IsSound new
sound_still old new e (Ok r) s f answers stays = record { met = ∥∥₁_map s.met (λ m. ((answers m.0 m.1).0, (answers m.0 m.1).2)); sized = f.sized }
sound_still old new e (Err refusal) s f answers stays = record { met = ∥∥₁_map s.met (λ m. (m.0, stays m.0 m.1)); sized = f.sized }

-- there is one more put if a put starts, and one more get if a get starts
counted : (old new : Parts) (e : Event) (result : Result Reply Refusal) → IsSound old → IfOk result (λ r. Answers old e r new) → OnErr result (Stays old new)
    → (length new.puts ≤ length old.puts + (if starts_put e then 1 else 0)) × (length new.gets ≤ length old.gets + (if starts_get e then 1 else 0))
counted old new e (Ok r) s answers stays = holds old s (hlevel props) (λ w m. (
    let a = answers w m in
    let is = (answered (ring_of old) (plan_of old) w a.0 e r a.1).1 in
    let p = subst (λ (u : World). length u.puts ≡ length w.puts + (if starts_put e then 1 else 0)) is (puts_many (ring_of old) (plan_of old) w e) in
    let g = subst (λ (u : World). length u.gets ≡ length w.gets + (if starts_get e then 1 else 0)) is (gets_many (ring_of old) (plan_of old) w e) in
    let np = a.2.puts.each in
    let op = m.puts.each in
    let ng = a.2.gets.each in
    let og = m.gets.each in
    (omega arith, omega arith)))
counted old new e (Err refusal) s answers stays = holds old s (hlevel props) (λ w m. (
    let np = (stays w m).puts.each in
    let op = m.puts.each in
    let ng = (stays w m).gets.each in
    let og = m.gets.each in
    (omega arith, omega arith)))

-- there is room for it where the event has a number
put_room : (a : Parts) (e : Event) → HasNumber a e → length a.puts ≤ 4294967295 → length a.puts + (if starts_put e then 1 else 0) ≤ 4294967295
put_room a (StartPut writer key value seen) number few = omega arith
put_room a e number few = omega arith

get_room : (a : Parts) (e : Event) → HasNumber a e → length a.gets ≤ 4294967295 → length a.gets + (if starts_get e then 1 else 0) ≤ 4294967295
get_room a (StartGet key) number few = omega arith
get_room a e number few = omega arith

pub puts_few : (old new : Parts) (e : Event) (result : Result Reply Refusal) → IsSound old → IfOk result (λ r. Answers old e r new) → OnErr result (Stays old new) → HasNumber old e → length old.puts ≤ 4294967295 → length new.puts ≤ 4294967295
puts_few old new e result s answers stays number few = (let n = (counted old new e result s answers stays).0 in let r = put_room old e number few in omega arith)

pub gets_few : (old new : Parts) (e : Event) (result : Result Reply Refusal) → IsSound old → IfOk result (λ r. Answers old e r new) → OnErr result (Stays old new) → HasNumber old e → length old.gets ≤ 4294967295 → length new.gets ≤ 4294967295
gets_few old new e result s answers stays number few = (let n = (counted old new e result s answers stays).1 in let r = get_room old e number few in omega arith)

at_most_one : (b : Bool) → (if b then 1 else 0) ≤ 1
at_most_one true = omega arith
at_most_one false = omega arith

-- whatever the event, there is at most one put more, and at most one get
pub counts_grow : (old new : Parts) (e : Event) (result : Result Reply Refusal) → IsSound old → IfOk result (λ r. Answers old e r new) → OnErr result (Stays old new) → (length new.puts ≤ length old.puts + 1) × (length new.gets ≤ length old.gets + 1)
counts_grow old new e result s answers stays =
    let n = counted old new e result s answers stays in
    let p = n.0 in
    let g = n.1 in
    let one_put = at_most_one (starts_put e) in
    let one_get = at_most_one (starts_get e) in
    (omega arith, omega arith)

-- if there are few puts and gets, every event has a number
pub has_number : (a : Parts) (e : Event) → length a.puts < 4294967295 → length a.gets < 4294967295 → HasNumber a e
has_number a (StartPut writer key value seen) p g = p
has_number a (StartGet key) p g = g
has_number a e p g = tt
