-- What a sound plan promises of every run: at every moment the store is safe, and gets see the puts
-- acknowledged before them.
use Rattle.std.proofs.Common.{◌≡◌, ◌∙◌, ℕ, ◌+◌, ◌<◌, ◌≤◌, Bool, true, false, List, [], ◌∷◌, ◌++◌, length, length-append, Option, Some, None, refl, sym, subst}
use Rattle.std.proofs.Common.{arith, lt-ltb, leb-true}
use Rattle.std.specs.Prelude.{nat_lt, is_some, Ok}
use Rattle.std.proofs.lemmas.Slice.Eq.{bytes_eq-Decides}
use Rattle.ring_names.specs.Lists.{has}
use Rattle.ring_table.specs.Value.{RingValue}
use Rattle.ring_table.specs.Valid.{IsRing}
use Rattle.plan_text.specs.declared.step.Planned.{Planned}
use Rattle.plan_text.specs.Valid.{IsPlan}
use Rattle.plan_runs.specs.declared.event.Event.TheVariants.{StartGet, EndGet}
use Rattle.plan_runs.specs.declared.event.Entry.{Entry}
use Rattle.plan_runs.specs.declared.event.Reply.TheVariants as reply
use Rattle.plan_runs.specs.World.{GetRecord, World, opening_world, some_below, passing_below, is_of_key, is_acked, key_of_put, found_at}
use Rattle.plan_runs.specs.Succession.{Succeeds, latest}
use Rattle.plan_runs.specs.Guards.{slots_read, guards}
use Rattle.plan_runs.specs.Effects.{answers, has_found, effect}
use Rattle.plan_runs.specs.Answers.{answer}
use Rattle.plan_check.specs.Firm.{Holding}
use Rattle.plan_check.specs.Headline.{IsAnswered, GetsAreFresh, KeepsPromises}
use Rattle.plan_check.specs.Kept.{HoldsPuts}
use Rattle.plan_check.specs.Sound.{Sound}
use Rattle.plan_runs.proofs.Answered.{answered}
use Rattle.plan_check.proofs.Apart.{Inv, run_inv, start_inv, apart_always}
use Rattle.plan_runs.proofs.Changed.{part_new}
use Rattle.plan_check.proofs.Chunks.{quorum_more}
use Rattle.plan_check.proofs.Few.{few_always}
use Rattle.plan_check.proofs.Fresh.{some_latest, SeesPut, Watched, watched_through}
use Rattle.plan_check.proofs.Holdings.{next_inv, next_holding, holding_always, held_always}
use Rattle.plan_runs.proofs.Lasting.{event_extends, names_ended, succeeds_stays}
use Rattle.plan_runs.proofs.Latest.{latest_of_is}
use Rattle.plan_check.proofs.Members.{members_always}
use Rattle.plan_check.proofs.Mirrored.{Known, Holds, holds}
use Rattle.plan_runs.proofs.Passed.{AllMet, all_met}
use Rattle.plan_runs.proofs.Passing.{some_is, below_is, is_below, passing_ascend, none_twice}
use Rattle.plan_check.proofs.Quorums.{meet}
use Rattle.plan_runs.proofs.Succeeding.{succeeds_through}
use Rattle.plan_stage.proofs.Truth.{list_all-all}

-- ---- a get starts

-- it has read nothing, and the acknowledged puts of its key are firm enough
new_watched : (ring : RingValue) (plan : List Planned) (w : World) (a : GetRecord) (v : ℕ) → ((i : ℕ) → a.found i ≡ None)
    → Holding ring plan (record w { gets = w.gets ++ a ∷ [] }) → is_of_key w a.key v ≡ true → is_acked w v ≡ true
    → Watched ring plan (record w { gets = w.gets ++ a ∷ [] }) v (length w.gets)
new_watched ring plan w a v none h of acked =
    let f = h.acked v acked in
    record {
      exists = (let n = length-append w.gets (a ∷ []) in omega arith);
      key = part_new (λ (x : GetRecord). x.key) [] w.gets a (length w.gets) refl ∙ sym ((bytes_eq-Decides (key_of_put w v) a.key).0 of);
      acked = acked;
      slots = f.0;
      firm = f.1;
      enough = f.2;
      read = λ i is vs e. absurd (let g = sym e ∙ part_new (λ (x : GetRecord). x.found i) None w.gets a (length w.gets) refl ∙ none i in cc);
    }

-- so once it has started
effect_watched : (ring : RingValue) (plan : List Planned) (w : World) (key : List ℕ) (v : ℕ) → Holding ring plan (effect ring plan w (StartGet key))
    → is_of_key w key v ≡ true → is_acked w v ≡ true
    → Watched ring plan (effect ring plan w (StartGet key)) v (length w.gets)
unfolding effect
effect_watched ring plan w key v h of acked = new_watched ring plan w (record { key = key; found = λ i. None; reply = None }) v (λ i. refl) h of acked

-- as it was answered
pub start_watched : (ring : RingValue) (plan : List Planned) (w u : World) (key : List ℕ) (g v : ℕ) → Holding ring plan u
    → answer ring plan w (StartGet key) ≡ Ok (u, reply.Get g) → is_of_key w key v ≡ true → is_acked w v ≡ true → Watched ring plan u v g
start_watched ring plan w u key g v h l of acked =
    let a = answered ring plan w u (StartGet key) (reply.Get g) l in
    let number : length w.gets ≡ g = (let e = a.2 in cc) in
    let now : Watched ring plan (effect ring plan w (StartGet key)) v (length w.gets) = effect_watched ring plan w key v
    (subst (λ (z : World). Holding ring plan z) (sym a.1) h) of acked in
    subst (λ (z : World). Watched ring plan z v g) a.1 (subst (λ (n : ℕ). Watched ring plan (effect ring plan w (StartGet key)) v n) number now)

-- ---- a get ends

-- a slot that was read has a finding
found_is : (o : Option (List ℕ)) → is_some o ≡ true → (vs : List ℕ) × (o ≡ Some vs)
found_is None e = absurd cc
found_is (Some vs) e = (vs, refl)

-- R slots were read, and one of them showed the put
answers_it : (ring : RingValue) (plan : List Planned) → Known ring plan → (w : World) (v g : ℕ) → Inv ring plan w → Watched ring plan w v g
    → ring.r ≤ slots_read ring w g → IsAnswered w v (answers ring w g)
answers_it ring plan k w v g i c enough = (s.0, s.1, succeeds_through w s.0 seen.0 v s.2 seen.3)
  where
    read : ℕ → Bool
    read j = is_some (found_at w g j)

    slots : List ℕ
    slots = passing_below ring.n read

    both : (j : ℕ) × (has j slots ≡ true) × (has j c.slots ≡ true)
    both =
        let many : ring.w ≤ length c.slots + w.losses = c.enough in
        let long : ring.r ≤ length slots = enough in
        let spent = i.reached.spent in
        let more = quorum_more ring.n ring.r ring.w ring.loss k.is_ring.quorum in
        meet ring.n slots c.slots (none_twice slots (passing_ascend 0 ring.n read)) c.firm.different
        (list_all-all (λ j. nat_lt j ring.n) slots (λ j e. lt-ltb j ring.n (below_is ring.n read j e).0)) c.firm.within (omega arith)

    place : (both.0 < ring.n) × (read both.0 ≡ true)
    place = below_is ring.n read both.0 both.1

    found : (vs : List ℕ) × (found_at w g both.0 ≡ Some vs)
    found = found_is (found_at w g both.0) place.1

    seen : SeesPut w v found.0
    seen = c.read both.0 both.2 found.0 found.1

    test : ℕ → Bool
    test u = some_below ring.n (has_found w g u)

    all : List ℕ
    all = passing_below (length w.puts) test

    has_it : has_found w g seen.0 both.0 ≡ true
    has_it = subst (λ (o : Option (List ℕ)). (elim o [ Some vs ↦ has seen.0 vs | None ↦ false ]) ≡ true) (sym found.1) seen.1

    s : (u : ℕ) × (has u (latest w all) ≡ true) × Succeeds w u seen.0
    s = some_latest w all (length w.puts) (length w.puts) seen.0 (λ u e. (below_is (length w.puts) test u e).0)
        (is_below (length w.puts) test seen.0 seen.2 (some_is ring.n (has_found w g seen.0) both.0 place.0 has_it)) (omega arith)

-- the guard of its end
read_enough : (ring : RingValue) (plan : List Planned) (w : World) (g : ℕ) → AllMet (guards ring plan w (EndGet g)) → ring.r ≤ slots_read ring w g
unfolding guards
read_enough ring plan w g m = leb-true ring.r (slots_read ring w g) m.1.1.0

-- so the reply of its end has it
pub end_answers : (ring : RingValue) (plan : List Planned) → Known ring plan → (w u : World) (v g : ℕ) (found : List ℕ) → Inv ring plan w
    → Watched ring plan w v g → answer ring plan w (EndGet g) ≡ Ok (u, reply.Answer found) → IsAnswered u v found
end_answers ring plan k w u v g found i c l =
    let a = answered ring plan w u (EndGet g) (reply.Answer found) l in
    let met = all_met (guards ring plan w (EndGet g)) a.0 in
    let is : answers ring w g ≡ found = (let e = a.2 in cc) in
    let now = answers_it ring plan k w v g i c (read_enough ring plan w g met) in
    let exists : now.0 < length w.puts = (below_is (length w.puts) (λ q. some_below ring.n (has_found w g q)) now.0 (latest_of_is w _ _ now.0 now.1).0).0 in
    let later : Succeeds (effect ring plan w (EndGet g)) now.0 v = succeeds_stays w (effect ring plan w (EndGet g)) (event_extends ring plan w (EndGet g) met)
    (names_ended ring plan w i.reached) now.0 v exists now.2 in
    (now.0, subst (λ (vs : List ℕ). has now.0 vs ≡ true) is now.1, subst (λ (z : World). Succeeds z now.0 v) a.1 later)

-- ---- runs

-- a get sees the puts that were acknowledged before it started
pub gets_fresh : (ring : RingValue) (plan : List Planned) → Holds ring plan → GetsAreFresh ring plan
gets_fresh ring plan k before between start mid w key g found run l ended v of acked =
    let i = run_inv ring plan k before (opening_world ring) start (start_inv ring plan k.known.is_ring) run in
    let h = holding_always ring plan k before start run in
    let first : Entry = record { event = StartGet key; reply = reply.Get g } in
    let j = next_inv ring plan k first start l.0 l.1 i in
    let n = next_holding ring plan k first start l.0 l.1 i h in
    let c = watched_through ring plan k between l.0 mid j n v g (start_watched ring plan start l.0 key g v n l.1 of acked) l.2 in
    end_answers ring plan k.known mid w v g found c.0 c.1 ended

-- each promise from its own clauses: what is acknowledged is held, and gets see it
pub holds_puts : (ring : RingValue) (plan : List Planned) → Holds ring plan → HoldsPuts ring plan
holds_puts ring plan k = record { held = held_always ring plan k; fresh = gets_fresh ring plan k }

-- a sound plan keeps its promises
pub keeps_promises : (ring : RingValue) (plan : List Planned) → IsRing ring → IsPlan plan → Sound ring plan → KeepsPromises ring plan
keeps_promises ring plan r p sound =
    let k = holds ring plan r p sound in
    let m = sound.1 in
    record {
      safe = λ run w is. record {
        held = held_always ring plan k run w is;
        apart = apart_always ring plan k.known m.left run w is;
        few = few_always ring plan k.known m.settled sound.0 m.covers run w is;
        members = members_always ring plan k.known m.members run w is;
      };
      fresh = gets_fresh ring plan k;
    }
