-- Watches that rest.
use Rattle.std.proofs.Common.{◌≡◌, ◌≢◌, ℕ, List, [], ◌++◌, refl, sym, ap, subst, ◌∙◌}
use Rattle.std.specs.Global.{Vec}
use Rattle.std.specs.Prelude.{IfOk, IfErr, OnOk, Result, Ok, Err}
use Rattle.ring_names.specs.declared.refusal.Refusal.{Refusal}
use Rattle.ring_names.specs.declared.refusal.Refusal.TheVariants.{OutOfMemory}
use Rattle.ring_table.specs.Value.{RingValue}
use Rattle.plan_text.specs.declared.step.Planned.{Planned}
use Rattle.plan_check.specs.Approval.{Approval}
use Rattle.history_text.specs.StreamReading.{read_from}
use Rattle.history_text.specs.State.{IsEmptied, IsRun as HasNoEnd}
use Rattle.history_text.proofs.Readings.{emptied_reading}
use Rattle.ring_core.specs.World.{ring_of, plan_of}
use Rattle.ring_core.proofs.RestSame.{same_store}
use Rattle.ring_core.specs.declared.resting.Rest.{Rest}
use Rattle.history_watch.specs.declared.resting.Paused.{Paused}
use Rattle.history_watch.specs.declared.resting.State.{State}
use Rattle.history_watch.specs.declared.resting.State.TheVariants.{Going, Refused}
use Rattle.history_watch.specs.declared.watch.Watch.{Watch}
use Rattle.history_watch.specs.Watching.{IsAnswer, IsCutOff, IsGoing, IsRefused, IsWatching, entries_of}
use Rattle.history_watch.specs.Pausing.{IsAt, answer_in, paused_of}

-- what two states keep is the same if they are
kept_now : State → Paused → Paused
kept_now (Going p) q = p
kept_now (Refused e) q = q

pub same_kept : (p q : Paused) → Going p ≡ Going q → p ≡ q
unfolding kept_now
same_kept p q e = ap (λ (s : State). kept_now s p) e

-- a watch that keeps what another does, and no entries, has read and followed what that one did
module _ (ring : RingValue) (plan : List Planned) (bytes : List ℕ) (a b : Watch) (kept : paused_of b ≡ paused_of a) (count : b.count ≡ a.count) (none : b.reader.entries.items ≡ []) (of_ring : ring_of b.world ≡ ring_of a.world) (of_plan : plan_of b.world ≡ plan_of a.world) (reads : b.reader.ring.now ≡ ring) (iw : IsWatching ring plan bytes a) where
  stage : b.reader.stage ≡ a.reader.stage
  stage = ap (λ (p : Paused). p.stage) kept

  left : b.left ≡ a.left
  left = ap (λ (p : Paused). p.left) kept

  going : IsGoing ring bytes iw.said a → IsGoing ring bytes iw.said b
  going g = record {
    done = g.done;
    whole = g.whole ∙ ap (λ (v : Vec ℕ). g.done ++ v.items) (sym left);
    run = subst (λ (v : Vec ℕ). HasNoEnd v.items) (sym left) g.run;
    reading = emptied_reading ring (entries_of iw.said) iw.said a.reader b.reader emptied g.reading;
    none = none;
    read = λ u. g.read u ∙ (λ i. read_from ring (record { stage = sym stage i; said = iw.said; line = sym line i }) u);
  }
    where
      line : b.reader.line ≡ a.reader.line
      line = ap (λ (p : Paused). p.line) kept

      emptied : IsEmptied a.reader b.reader
      emptied = record {
        ring = reads ∙ sym g.reading.ring_is;
        writers = ap (λ (p : Paused). p.writers) kept;
        line = line;
        stage = stage;
        started = ap (λ (p : Paused). p.started) kept;
        none = none;
      }

  pub watches_again : IsWatching ring plan bytes b
  watches_again = record {
    ring_is = of_ring ∙ iw.ring_is;
    plan_is = of_plan ∙ iw.plan_is;
    said = iw.said;
    going = λ still. going (iw.going (λ o. still (stage ∙ o)));
    over = λ o. iw.over (sym stage ∙ o);
    counted = count ∙ iw.counted;
    world = iw.world;
    meets = (same_store a.world b.world of_ring of_plan (ap (λ (p : Paused). p.rest) kept)).meets iw.world iw.meets;
    run = iw.run;
  }

-- what a watch is that was made of one at rest
pub resumed : (ring : RingValue) (plan : List Planned) (bytes : List ℕ) (approved : Approval) (count : ℕ) (p : Paused) (so : IsAt ring plan bytes approved count (Going p)) (b : Watch) → paused_of b ≡ p → b.count ≡ count → b.reader.entries.items ≡ []
    → ring_of b.world ≡ approved.ring → plan_of b.world ≡ approved.plan → b.reader.ring.now ≡ approved.ring → (iw : IsWatching ring plan bytes b) × (iw.said ≡ so.is.said)
unfolding watches_again
resumed ring plan bytes approved count p so b kept counts none of_ring of_plan reads =
    let same = same_kept p (paused_of so.watch) so.rests in
    (watches_again ring plan bytes so.watch b (kept ∙ same) (counts ∙ sym so.counts) none (of_ring ∙ so.ring_is ∙ sym so.is.ring_is) (of_plan ∙ so.plan_is ∙ sym so.is.plan_is) (reads ∙ so.ring_is) so.is, refl)

-- an answer of a watch that was made again is one of the watch that rested
pub answers_again : (ring : RingValue) (plan : List Planned) (bytes text : List ℕ) (approved : Approval) (count : ℕ) (p : Paused) (so : IsAt ring plan bytes approved count (Going p)) (b : Watch) → paused_of b ≡ p → (iw : IsWatching ring plan bytes b) → iw.said ≡ so.is.said
    → IsAnswer ring plan bytes b iw.said text → IsAnswer ring plan bytes so.watch so.is.said text
answers_again ring plan bytes text approved count p so b kept iw same answer =
    let stage : b.reader.stage ≡ so.watch.reader.stage = ap (λ (k : Paused). k.stage) (kept ∙ same_kept p (paused_of so.watch) so.rests) in
    let here = subst (λ said. IsAnswer ring plan bytes b said text) same answer in
    record { replayed = here.replayed; ends = λ still. here.ends (λ o. still (sym stage ∙ o)) }

-- what rests, with another store
abbrev pub with_rest : Paused → Rest → Paused
with_rest p k = record p { rest = k }

-- ---- what is answered at the end

module _ (approved : Approval) (count : ℕ) (p : Paused) (w : Watch) where
  abbrev Watching : Type 0
  Watching = (ring : RingValue) (plan : List Planned) (bytes : List ℕ) (so : IsAt ring plan bytes approved count (Going p)) → (iw : IsWatching ring plan bytes w) × (iw.said ≡ so.is.said)

  pub ends_well : paused_of w ≡ p → Watching → (r : Result (Vec ℕ) Refusal) → IfOk r (λ text. (ring : RingValue) (plan : List Planned) (bytes : List ℕ) (iw : IsWatching ring plan bytes w) → IsAnswer ring plan bytes w iw.said text.items)
      → IfOk r (λ text. (ring : RingValue) (plan : List Planned) (bytes : List ℕ) (so : IsAt ring plan bytes approved count (Going p)) → IsAnswer ring plan bytes so.watch so.is.said text.items)
  ends_well kept watching (Ok text) shown = λ ring plan bytes so.
      let iw = watching ring plan bytes so in
      answers_again ring plan bytes text.items approved count p so w kept iw.0 iw.1 (shown ring plan bytes iw.0)
  ends_well kept watching (Err e) shown = tt

  pub ends_cut : Watching → (r : Result (Vec ℕ) Refusal) → IfErr r (λ e. e ≢ OutOfMemory → (ring : RingValue) (plan : List Planned) (bytes : List ℕ) → IsWatching ring plan bytes w → IsCutOff ring plan bytes e)
      → IfErr r (λ e. e ≢ OutOfMemory → (ring : RingValue) (plan : List Planned) (bytes : List ℕ) → IsAt ring plan bytes approved count (Going p) → IsCutOff ring plan bytes e)
  ends_cut watching (Ok text) shown = tt
  ends_cut watching (Err e) shown = λ ne ring plan bytes so. shown ne ring plan bytes (watching ring plan bytes so).0

-- ---- as the judge has them

-- what is kept in a state is kept in the same state
abbrev pub at_state : (ring : RingValue) (plan : List Planned) (bytes : List ℕ) (approved : Approval) (count : ℕ) (s t : State) → s ≡ t → IsAt ring plan bytes approved count s → IsAt ring plan bytes approved count t
at_state ring plan bytes approved count s t e so = record { ring_is = so.ring_is; plan_is = so.plan_is; watch = so.watch; rests = sym e ∙ so.rests; counts = so.counts; is = so.is }

module _ (approved : Approval) (count : ℕ) (p : Paused) (state : State) (e : state ≡ Going p) where
  pub answers_here : (r : Result (Vec ℕ) Refusal) → IfOk r (λ text. (ring : RingValue) (plan : List Planned) (bytes : List ℕ) (so : IsAt ring plan bytes approved count (Going p)) → IsAnswer ring plan bytes so.watch so.is.said text.items)
      → IfOk r (λ text. (ring : RingValue) (plan : List Planned) (bytes : List ℕ) (so : IsAt ring plan bytes approved count state) → IsAnswer ring plan bytes so.watch so.is.said text.items)
  answers_here (Ok text) shown = λ ring plan bytes so. shown ring plan bytes (at_state ring plan bytes approved count state (Going p) e so)
  answers_here (Err f) shown = tt

  pub cut_here : (r : Result (Vec ℕ) Refusal) → IfErr r (λ f. f ≢ OutOfMemory → (ring : RingValue) (plan : List Planned) (bytes : List ℕ) → IsAt ring plan bytes approved count (Going p) → IsCutOff ring plan bytes f)
      → IfErr r (λ f. f ≢ OutOfMemory → (ring : RingValue) (plan : List Planned) (bytes : List ℕ) → IsAt ring plan bytes approved count state → IsCutOff ring plan bytes f)
  cut_here (Ok text) shown = tt
  cut_here (Err f) shown = λ ne ring plan bytes so. shown ne ring plan bytes (at_state ring plan bytes approved count state (Going p) e so)

  module _ (bytes : List ℕ) (new : State) (after : ℕ) where
    abbrev Goes : State → Type 0
    Goes old = (ring : RingValue) (plan : List Planned) (before : List ℕ) → IsAt ring plan before approved count old → IsAt ring plan (before ++ bytes) approved after new

    abbrev Turns : State → Refusal → Type 0
    Turns old f = f ≢ OutOfMemory → (ring : RingValue) (plan : List Planned) (before : List ℕ) → IsAt ring plan before approved count old → IsRefused ring plan (before ++ bytes) f

    goes_here : (r : Result (Unit {0}) Refusal) → OnOk r (Goes (Going p)) → OnOk r (Goes state)
    goes_here (Ok u) goes = λ ring plan before so. goes ring plan before (at_state ring plan before approved count state (Going p) e so)
    goes_here (Err f) goes = tt

    turns_here : (r : Result (Unit {0}) Refusal) → IfErr r (Turns (Going p)) → IfErr r (Turns state)
    turns_here (Ok u) turns = tt
    turns_here (Err f) turns = λ ne ring plan before so. turns ne ring plan before (at_state ring plan before approved count state (Going p) e so)

    pub takes_here : (r : Result (Unit {0}) Refusal) → r ≡ answer_in new → OnOk (answer_in new) (Goes (Going p)) → OnOk r (Goes state)
    takes_here r is goes = goes_here r (subst (λ (q : Result (Unit {0}) Refusal). OnOk q (Goes (Going p))) (sym is) goes)

    pub refuses_here : (r : Result (Unit {0}) Refusal) → r ≡ answer_in new → IfErr (answer_in new) (Turns (Going p)) → IfErr r (Turns state)
    refuses_here r is turns = turns_here r (subst (λ (q : Result (Unit {0}) Refusal). IfErr q (Turns (Going p))) (sym is) turns)
