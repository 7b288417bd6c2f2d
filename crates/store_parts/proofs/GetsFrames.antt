-- Gets that are kept meet the world at its start. They stay its gets through events that change no get, when
-- keys come and when another put has a clock.
use Rattle.std.proofs.Common.{◌≡◌, ◌∙◌, ℕ, ◌<◌, true, false, List, [], ◌∷◌, ◌++◌, length, refl, sym, ap, subst}
use Rattle.std.specs.Prelude.{Ok, slice_get}
use Rattle.ring_table.specs.Value.{RingValue}
use Rattle.ring_clock.specs.declared.entry.Entry.{Entry}
use Rattle.plan_text.specs.declared.step.Planned.{Planned}
use Rattle.plan_runs.specs.declared.event.Event.{Event}
use Rattle.plan_runs.specs.declared.event.Reply.{Reply}
use Rattle.plan_runs.specs.World.{GetRecord, World, opening_world}
use Rattle.plan_runs.specs.Succession.{replied}
use Rattle.plan_runs.specs.Effects.{has_found}
use Rattle.plan_runs.specs.Answers.{answer}
use Rattle.plan_runs.specs.Reached.{Reached}
use Rattle.plan_runs.proofs.Answered.{answered}
use Rattle.plan_runs.specs.Guards.{guards}
use Rattle.plan_runs.proofs.Frames.{same_gets}
use Rattle.plan_runs.proofs.Lasting.{event_extends}
use Rattle.plan_runs.proofs.Passed.{all_met}
use Rattle.plan_runs.proofs.Passing.{some_found}
use Rattle.store_parts.specs.Shows.{Shows, value_of}
use Rattle.store_parts.specs.GetsFind.{found_by}
use Rattle.store_parts.proofs.ShownSets.{other_clock, other_value}
use Rattle.store_parts.specs.declared.gets.GetNow.{GetNow}
use Rattle.store_parts.specs.GetsMeet.{GetsMeet}
use Rattle.plan_runs.specs.Leaves.{changes_gets}
use Rattle.store_parts.proofs.PutsLists.{stays_there}

-- no gets are those of the world at the start
pub gets_open : (ring : RingValue) (clock : ℕ → List Entry) (keys : List (List ℕ)) → GetsMeet ring clock keys [] (opening_world ring)
gets_open ring clock keys = record {
  each = refl;
  at = λ g get x a b. absurd cc;
}

-- ---- events that change no get

-- what a get found, and what its reply had, are puts of the world
found_there : (ring : RingValue) (plan : List Planned) (w : World) (g v : ℕ) → Reached ring plan w → found_by ring w g v ≡ true → v < length w.puts
found_there ring plan w g v reached h = (let s = some_found ring.n (has_found w g v) h in (reached.found g s.0 v s.2).0)

-- the gets that are kept are those of each world that has the same records, and the values of the puts that are there
pub gets_as_before : (ring : RingValue) (plan : List Planned) (clock : ℕ → List Entry) (keys : List (List ℕ)) (gets : List GetNow) (w u : World)
    → Reached ring plan w → u.gets ≡ w.gets → ((v : ℕ) → v < length w.puts → value_of u v ≡ value_of w v) → GetsMeet ring clock keys gets w → GetsMeet ring clock keys gets u
gets_as_before ring plan clock keys gets w u reached same values m = record {
  each = m.each ∙ sym (ap (λ (xs : List GetRecord). length xs) same);
  at = λ g get x a b. (
      let p = m.at g get x a (ap (λ (xs : List GetRecord). slice_get xs g) (sym same) ∙ b) in
      record {
        key = p.key;
        reads = p.reads;
        found = subst (λ (xs : List GetRecord). Shows clock (value_of u) get.found (found_by ring (record w { gets = xs }) g)) (sym same)
            (other_value clock (value_of w) (value_of u) get.found (found_by ring w g) (λ v h. values v (found_there ring plan w g v reached h)) p.found);
        reply = p.reply;
        answered = λ h. subst (λ (xs : List GetRecord). Shows clock (value_of u) get.found (replied xs g)) (sym same)
            (other_value clock (value_of w) (value_of u) get.found (replied w.gets g) (λ v k. values v (reached.replied g v k).0) (p.answered h));
      });
}

-- each put that is there keeps its value
values_stay : (ring : RingValue) (plan : List Planned) (w u : World) (e : Event) (r : Reply) → answer ring plan w e ≡ Ok (u, r) → (v : ℕ) → v < length w.puts → value_of u v ≡ value_of w v
values_stay ring plan w u e r h v l =
    let a = answered ring plan w u e r h in
    subst (λ (z : World). value_of z v ≡ value_of w v) a.1 ((event_extends ring plan w e (all_met (guards ring plan w e) a.0)).value v l)

-- the gets that are kept stay those of the world through each event that changes no get
pub gets_stay : (ring : RingValue) (plan : List Planned) (w u : World) (e : Event) (r : Reply) (clock : ℕ → List Entry) (keys : List (List ℕ)) (gets : List GetNow)
    → Reached ring plan w → answer ring plan w e ≡ Ok (u, r) → changes_gets e ≡ false → GetsMeet ring clock keys gets w → GetsMeet ring clock keys gets u
gets_stay ring plan w u e r clock keys gets reached h none m =
    let a = answered ring plan w u e r h in
    gets_as_before ring plan clock keys gets w u reached (ap (λ (z : World). z.gets) (sym a.1) ∙ same_gets ring plan w e none) (values_stay ring plan w u e r h) m

-- ---- keys and clocks that come

-- they stay so when a key comes behind
pub gets_stay_with_key : (ring : RingValue) (clock : ℕ → List Entry) (keys : List (List ℕ)) (gets : List GetNow) (w : World) (key : List ℕ) → GetsMeet ring clock keys gets w → GetsMeet ring clock (keys ++ key ∷ []) gets w
gets_stay_with_key ring clock keys gets w key m = record {
  each = m.each;
  at = λ g get x a b. (let p = m.at g get x a b in record {
    key = stays_there keys (key ∷ []) get.key x.key p.key;
    reads = p.reads;
    found = p.found;
    reply = p.reply;
    answered = p.answered;
  });
}

-- they stay so where the clocks of the puts that are there are the same
pub gets_stay_with_clocks : (ring : RingValue) (plan : List Planned) (clock other : ℕ → List Entry) (keys : List (List ℕ)) (gets : List GetNow) (w : World)
    → Reached ring plan w → ((v : ℕ) → v < length w.puts → other v ≡ clock v) → GetsMeet ring clock keys gets w → GetsMeet ring other keys gets w
gets_stay_with_clocks ring plan clock other keys gets w reached same m = record {
  each = m.each;
  at = λ g get x a b. (let p = m.at g get x a b in record {
    key = p.key;
    reads = p.reads;
    found = other_clock clock other (value_of w) get.found (found_by ring w g) (λ v h. same v (found_there ring plan w g v reached h)) p.found;
    reply = p.reply;
    answered = λ h. other_clock clock other (value_of w) get.found (replied w.gets g) (λ v k. same v (reached.replied g v k).0) (p.answered h);
  });
}
