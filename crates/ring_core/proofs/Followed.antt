-- Entries that are followed one behind the other.
use Rattle.std.proofs.Common.{◌≡◌, ◌∙◌, ℕ, suc, ◌+◌, ◌<◌, List, [], ◌∷◌, ◌++◌, length, take, drop, get_or, drop-cons, length-append, Ok, refl, sym, ap, subst, arith}
use Rattle.std.proofs.lemmas.List.{length-take, take-append-drop}
use Rattle.ring_names.specs.declared.refusal.Refusal.{Refusal}
use Rattle.ring_table.specs.Value.{RingValue}
use Rattle.plan_text.specs.declared.step.Planned.{Planned}
use Rattle.plan_runs.specs.declared.event.Entry.{Entry}
use Rattle.plan_runs.specs.Answers.{answer}
use Rattle.plan_runs.specs.Runs.{Leads}
use Rattle.plan_runs.specs.World.{World as TheWorld, opening_world}
use Rattle.plan_runs.proofs.Split.{joined}
use Rattle.ring_core.specs.declared.world.World.{World}
use Rattle.ring_core.specs.World.{ring_of, plan_of, Meets, Answers, IsOneMore}
use Rattle.ring_core.specs.Replays.{Replays, Follows}
use Rattle.ring_core.specs.Faults.{FailsAt, IsFirstFault}
use Rattle.ring_core.proofs.FirstFault.{fault_behind}

-- one entry more was followed
pub follows_one : (start old new : World) (front : List Entry) (x : Entry) → Follows start front old → ring_of new ≡ ring_of old → plan_of new ≡ plan_of old → IsOneMore old new
    → Answers old x.event x.reply new → Follows start (front ++ x ∷ []) new
follows_one start old new front x f of_ring of_plan more answers = record {
  ring = of_ring ∙ f.ring;
  plan = of_plan ∙ f.plan;
  puts = (let a = more.0 in let b = f.puts in let n = length-append front (x ∷ []) in omega arith);
  gets = (let a = more.1 in let b = f.gets in let n = length-append front (x ∷ []) in omega arith);
  world = λ w m. (
      let there = f.world w m in
      let next = answers there.0 there.2 in
      let here : answer (ring_of start) (plan_of old) there.0 x.event ≡ Ok (next.0, x.reply) = subst (λ (r : RingValue). answer r (plan_of old) there.0 x.event ≡ Ok (next.0, x.reply)) f.ring next.1 in
      let same : answer (ring_of start) (plan_of start) there.0 x.event ≡ Ok (next.0, x.reply) = subst (λ (s : List Planned). answer (ring_of start) s there.0 x.event ≡ Ok (next.0, x.reply)) f.plan here in
      (next.0, joined (ring_of start) (plan_of start) w there.0 next.0 front (x ∷ []) there.1 (next.0, same, refl), next.2));
}

-- what was followed from the start on is a run
pub replays_all : (start new : World) (ring : RingValue) (plan : List Planned) (history : List Entry) → ring_of start ≡ ring → plan_of start ≡ plan → Meets start (opening_world ring)
    → Follows start history new → Replays ring plan new history
replays_all start new ring plan history of_ring of_plan m f =
    let there = f.world (opening_world ring) m in
    let here : Leads ring (plan_of start) (opening_world ring) history there.0 = subst (λ (r : RingValue). Leads r (plan_of start) (opening_world ring) history there.0) of_ring there.1 in
    ∣ (there.0, there.2, subst (λ (s : List Planned). Leads ring s (opening_world ring) history there.0) of_plan here) ∣₁

-- after entries that were followed, the entry that fails is the first fault
pub fault_after : (start old : World) (front : List Entry) (x : Entry) (rest : List Entry) (k : ℕ) (e : Refusal) → Follows start front old → length front ≡ k
    → ((w : TheWorld) → Meets old w → FailsAt (ring_of old) (plan_of old) w k x e) → (w : TheWorld) → Meets start w → IsFirstFault (ring_of start) (plan_of start) w 0 (front ++ x ∷ rest) e
fault_after start old front x rest k e f place fails w m =
    let there = f.world w m in
    let here = subst (λ (r : RingValue). FailsAt r (plan_of old) there.0 k x e) f.ring (fails there.0 there.2) in
    let same = subst (λ (s : List Planned). FailsAt (ring_of start) s there.0 k x e) f.plan here in
    let counted = subst (λ (n : ℕ). FailsAt (ring_of start) (plan_of start) there.0 n x e) (let l = place in let n : k ≡ 0 + length front = omega arith in n) same in
    fault_behind (ring_of start) (plan_of start) w there.0 0 front x rest e there.1 counted

-- so is the entry of the history at that place
pub fault_followed : (start old : World) (history : List Entry) (k : ℕ) (x : Entry) (e : Refusal) → Follows start (take k history) old → k < length history → get_or history k x ≡ x
    → ((w : TheWorld) → Meets old w → FailsAt (ring_of old) (plan_of old) w k x e) → (w : TheWorld) → Meets start w → IsFirstFault (ring_of start) (plan_of start) w 0 history e
fault_followed start old history k x e f within is fails w m =
    let rest = drop (suc k) history in
    let all : history ≡ take k history ++ x ∷ rest =
    sym (take-append-drop k history) ∙ ap (λ (ys : List Entry). take k history ++ ys) (drop-cons history k x within ∙ ap (λ (y : Entry). y ∷ rest) is) in
    let place : length (take k history) ≡ k = (let n = length-take k history in omega arith) in
    subst (λ (xs : List Entry). IsFirstFault (ring_of start) (plan_of start) w 0 xs e) (sym all) (fault_after start old (take k history) x rest k e f place fails w m)

-- so from the first event on
pub fault_from_start : (start : World) (ring : RingValue) (plan : List Planned) (history : List Entry) (e : Refusal) → ring_of start ≡ ring → plan_of start ≡ plan → Meets start (opening_world ring)
    → ((w : TheWorld) → Meets start w → IsFirstFault (ring_of start) (plan_of start) w 0 history e) → IsFirstFault ring plan (opening_world ring) 0 history e
fault_from_start start ring plan history e of_ring of_plan m fault =
    let here = subst (λ (r : RingValue). IsFirstFault r (plan_of start) (opening_world ring) 0 history e) of_ring (fault (opening_world ring) m) in
    subst (λ (s : List Planned). IsFirstFault ring s (opening_world ring) 0 history e) of_plan here
