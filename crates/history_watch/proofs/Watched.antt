-- A watch takes bytes.
use Rattle.std.proofs.Common.{◌≡◌, ◌≢◌, ℕ, suc, ◌+◌, true, List, [], ◌∷◌, ◌++◌, length, take, length-append, Ok, Err, Result, refl, sym, ap, subst, ◌∙◌, append_assoc, append-nil, arith, inl, inr}
use Rattle.std.specs.Global.{Vec}
use Rattle.std.proofs.Math.Seq.{take-length}
use Rattle.std.specs.Prelude.{IfErr, OnOk}
use Rattle.ring_names.specs.declared.refusal.Refusal.{Refusal}
use Rattle.ring_names.specs.declared.refusal.Refusal.TheVariants.{OutOfMemory}
use Rattle.ring_table.specs.Value.{RingValue}
use Rattle.ring_table.specs.Valid.{IsRing}
use Rattle.plan_text.specs.declared.step.Planned.{Planned}
use Rattle.plan_runs.specs.declared.event.Entry.{Entry}
use Rattle.plan_runs.specs.Runs.{IsRun, Leads}
use Rattle.plan_runs.specs.World.{World as TheWorld, opening_world}
use Rattle.plan_runs.proofs.Split.{joined}
use Rattle.script_text.specs.Said.{names_after}
use Rattle.history_text.specs.Said.{SaidEntry}
use Rattle.history_text.specs.declared.reader.Reader.{Reader}
use Rattle.history_text.specs.declared.reader.Stage.TheVariants.{First, Over}
use Rattle.history_text.specs.StreamReading.{Point, IsReadTo, entries_behind, read_from}
use Rattle.history_text.specs.State.{IsFirst, IsReading, IsRun as HasNoEnd, Refuses, Stops, TakesSome, point_of}
use Rattle.history_text.proofs.Pieces.{end_over, read_on}
use Rattle.history_text.proofs.Readings.{emptied_reading, first_reading}
use Rattle.ring_core.specs.declared.world.World.{World}
use Rattle.ring_core.specs.World.{ring_of, plan_of, Meets}
use Rattle.ring_core.specs.Faults.{IsFirstFault}
use Rattle.history_watch.specs.declared.watch.Watch.{Watch}
use Rattle.history_watch.specs.Following.{FailsIn, FollowsAll, Reaches}
use Rattle.history_watch.specs.Watching.{Begins, FollowsKept, HasEnded, IsGoing, IsJudged, IsRefused, IsWatching, entries_of, history_at, start}
use Rattle.history_watch.proofs.Following.{fault_joined, fault_more}

entries_length : (names : List (List ℕ)) (said : List SaidEntry) → length (entries_behind names said) ≡ length said
entries_length names [] = refl
entries_length names (x ∷ xs) = (let h = entries_length (names_after names x.0) xs in omega arith)

-- ---- how far the lines are read

-- some lines of all bytes are read, and the entries of those that are new are kept
pub record Reached (ring : RingValue) (bytes : List ℕ) (said : List SaidEntry) (mid : Reader) : Type 0 where
  pub to : Point
  pub begins : Begins ring bytes to
  pub stage_is : to.stage ≡ mid.stage
  pub entries_are : entries_of to.said ≡ entries_of said ++ mid.entries.items

module _ (ring : RingValue) (bytes more : List ℕ) (said : List SaidEntry) (w : Watch) (mid : Reader) (g : IsGoing ring bytes said w) where
  split : (done rest : List ℕ) → w.left.items ++ more ≡ done ++ rest → bytes ++ more ≡ (g.done ++ done) ++ rest
  split done rest is = ap (λ (z : List ℕ). z ++ more) g.whole ∙ append_assoc g.done w.left.items more ∙ ap (λ (z : List ℕ). g.done ++ z) is ∙ sym (append_assoc g.done done rest)

  module _ (left : List ℕ) (some : TakesSome w.reader mid (w.left.items ++ more) left) where
    abbrev next : List SaidEntry
    next = (some.takes ring (entries_of said) said g.reading).0

    pub reading_next : IsReading ring (entries_of said) next mid
    reading_next = (some.takes ring (entries_of said) said g.reading).1

    pub read_next : IsReadTo ring start (g.done ++ some.done) (point_of mid next)
    read_next = read_on ring start (point_of w.reader said) g.done g.read some.done (point_of mid next) (some.takes ring (entries_of said) said g.reading).2

    pub reached_some : Reached ring (bytes ++ more) said mid
    reached_some = record {
      to = point_of mid next;
      begins = record { done = g.done ++ some.done; rest = left; whole = split some.done left some.whole; read = read_next };
      stage_is = refl;
      entries_are = reading_next.entries_are;
    }

  pub reached_stop : (e : Refusal) → Refuses w.reader mid (w.left.items ++ more) e → (r : Reached ring (bytes ++ more) said mid) × ((u : List ℕ) → Stops ring r.to (r.begins.rest ++ u) e)
  reached_stop e bad =
      let s = bad ring (entries_of said) said g.reading in (
        record {
          to = s.to;
          begins = record { done = g.done ++ s.done; rest = s.rest; whole = split s.done s.rest s.whole; read = read_on ring start (point_of w.reader said) g.done g.read s.done s.to s.read };
          stage_is = s.stage_is;
          entries_are = s.entries_are;
        },
        s.stops,
      )

-- ---- what comes of the entries

module _ (ring : RingValue) (plan : List Planned) (bytes : List ℕ) (w : Watch) (mid : Reader) (old : World) (count : ℕ) (iw : IsWatching ring plan bytes w) (old_is : old ≡ w.world) (count_is : count ≡ w.count) (whole : List ℕ) (r : Reached ring whole iw.said mid) where
  size : length (entries_of iw.said) ≡ count
  size = entries_length [] iw.said ∙ sym iw.counted ∙ sym count_is

  meets : Meets old iw.world
  meets = subst (λ (a : World). Meets a iw.world) (sym old_is) iw.meets

  leads_by : (xs : List Entry) (u : TheWorld) → Leads (ring_of old) (plan_of old) iw.world xs u → Leads ring plan iw.world xs u
  leads_by xs u l = (
      let a = subst (λ (o : World). Leads (ring_of o) (plan_of o) iw.world xs u) old_is l in
      subst (λ (p : List Planned). Leads ring p iw.world xs u) iw.plan_is (subst (λ (q : RingValue). Leads q (plan_of w.world) iw.world xs u) iw.ring_is a))

  -- all entries were followed
  pub run_on : (new : World) (after : ℕ) → FollowsAll old new count after mid.entries.items
      → (u : TheWorld) × Meets new u × IsRun ring plan (entries_of r.to.said) u × (after ≡ length r.to.said) × (ring_of new ≡ ring) × (plan_of new ≡ plan)
  run_on new after all =
      let f = all.follows.world iw.world meets in
      let both = joined ring plan (opening_world ring) iw.world f.0 (entries_of iw.said) mid.entries.items iw.run (leads_by mid.entries.items f.0 f.1) in (
        f.0,
        f.2,
        subst (λ (es : List Entry). IsRun ring plan es f.0) (sym r.entries_are) both,
        (let a = ap (λ (es : List Entry). length es) r.entries_are in let b = length-append (entries_of iw.said) mid.entries.items in let c = entries_length [] r.to.said in let d = size in let e = all.counted in omega arith),
        all.follows.ring ∙ ap ring_of old_is ∙ iw.ring_is,
        all.follows.plan ∙ ap plan_of old_is ∙ iw.plan_is,
      )

  -- an entry was refused
  pub refused : (line : ℕ) (e : Refusal) → FailsIn old count line mid.entries.items e → IsRefused ring plan whole e
  refused line e (inl fault) =
      let here = fault iw.world meets in
      let here = subst (λ (o : World). IsFirstFault (ring_of o) (plan_of o) iw.world count mid.entries.items e) old_is here in
      let here = subst (λ (q : RingValue). IsFirstFault q (plan_of w.world) iw.world count mid.entries.items e) iw.ring_is here in
      let here = subst (λ (p : List Planned). IsFirstFault ring p iw.world count mid.entries.items e) iw.plan_is here in
      let n : 0 + length (entries_of iw.said) ≡ count = (let s = size in omega arith) in
      let here = subst (λ (n : ℕ). IsFirstFault ring plan iw.world n mid.entries.items e) (sym n) here in
      let all = fault_joined ring plan (opening_world ring) iw.world 0 (entries_of iw.said) mid.entries.items e iw.run here in
      let all = subst (λ (es : List Entry). IsFirstFault ring plan (opening_world ring) 0 es e) (sym r.entries_are) all in
      inl (record { to = r.to; begins = r.begins; fault = λ more. fault_more ring plan (opening_world ring) 0 (entries_of r.to.said) more e all })
  refused line e (inr (is, many)) = inr (inr (record {
    to = r.to;
    begins = r.begins;
    line = line;
    is = is;
    many = (let a = ap (λ (es : List Entry). length es) r.entries_are in let b = length-append (entries_of iw.said) mid.entries.items in let c = entries_length [] r.to.said in let d = size in omega arith);
  }))

  -- as many as are counted are a run
  pub judged : (after : ℕ) → Reaches old count after mid.entries.items → IsJudged ring plan whole after
  judged after reaches =
      let k = reaches.followed in
      let f = reaches.leads iw.world meets in
      let both = joined ring plan (opening_world ring) iw.world f.0 (entries_of iw.said) (take k mid.entries.items) iw.run (leads_by (take k mid.entries.items) f.0 f.1) in
      let taken : take after (entries_of r.to.said) ≡ entries_of iw.said ++ take k mid.entries.items =
      ap (take after) r.entries_are ∙ ap (λ (n : ℕ). take n (entries_of iw.said ++ mid.entries.items)) (reaches.counted ∙ ap (λ (n : ℕ). n + k) (sym size)) ∙ take_after (entries_of iw.said) mid.entries.items k in
      record {
        to = r.to;
        begins = r.begins;
        few = (let a = ap (λ (es : List Entry). length es) r.entries_are in let b = length-append (entries_of iw.said) mid.entries.items in let c = entries_length [] r.to.said in let d = size in let e = reaches.counted in let f = reaches.few in omega arith);
        history = ∣ (f.0, subst (λ (es : List Entry). IsRun ring plan es f.0) (sym taken) both) ∣₁;
      }
    where
      take_after : (xs ys : List Entry) (k : ℕ) → take (length xs + k) (xs ++ ys) ≡ xs ++ take k ys
      take_after [] ys k = (let n : length {A = Entry} [] + k ≡ k = omega arith in ap (λ (m : ℕ). take m ys) n)
      take_after (x ∷ xs) ys k = (let n : length (x ∷ xs) + k ≡ suc (length xs + k) = omega arith in ap (λ (m : ℕ). take m (x ∷ (xs ++ ys))) n ∙ ap (λ (es : List Entry). x ∷ es) (take_after xs ys k))

-- ---- the watch after bytes

-- a history that is over says what its lines say
pub over_says : (ring : RingValue) (bytes : List ℕ) (said : List SaidEntry) (line : ℕ) → IsReadTo ring start bytes (record { stage = Over; said = said; line = line }) → history_at ring bytes ≡ Ok said
over_says ring bytes said line read = ap (read_from ring start) (sym (append-nil bytes)) ∙ read [] ∙ end_over ring said line [] true refl

pub has_ended : (ring : RingValue) (bytes : List ℕ) (to : Point) → Begins ring bytes to → to.stage ≡ Over → HasEnded ring bytes to.said
has_ended ring bytes to begins is =
    let same : to ≡ record { stage = Over; said = to.said; line = to.line } = λ i. record { stage = is i; said = to.said; line = to.line } in
    let over = subst (λ (p : Point). Begins ring bytes p) same begins in
    record { line = to.line; begins = over; is = over_says ring over.done to.said to.line over.read }

-- ---- the watch after bytes

module _ (ring : RingValue) (plan : List Planned) (before more : List ℕ) where
  longer : (said : List SaidEntry) → HasEnded ring before said → HasEnded ring (before ++ more) said
  longer said h = record {
    line = h.line;
    begins = record { done = h.begins.done; rest = h.begins.rest ++ more; whole = ap (λ (z : List ℕ). z ++ more) h.begins.whole ∙ append_assoc h.begins.done h.begins.rest more; read = h.begins.read };
    is = h.is;
  }

  -- a watch whose history is over leaves bytes out
  pub over_on : (w : Watch) → w.reader.stage ≡ Over → IsWatching ring plan before w → IsWatching ring plan (before ++ more) w
  over_on w over iw = record {
    ring_is = iw.ring_is;
    plan_is = iw.plan_is;
    said = iw.said;
    going = λ still. absurd (still over);
    over = λ o. longer iw.said (iw.over o);
    counted = iw.counted;
    world = iw.world;
    meets = iw.meets;
    run = iw.run;
  }

  -- all that a watch has counted is a run, whatever bytes follow
  module _ (w : Watch) (iw : IsWatching ring plan before w) where
    all_judged : (to : Point) → Begins ring (before ++ more) to → to.said ≡ iw.said → IsJudged ring plan (before ++ more) w.count
    all_judged to begins same = record {
      to = to;
      begins = begins;
      few = (let a = ap (λ (s : List SaidEntry). length s) same in let b = iw.counted in omega arith);
      history = ∣ (iw.world, subst (λ (es : List Entry). IsRun ring plan es iw.world) (sym whole) iw.run) ∣₁;
    }
      where
        whole : take w.count (entries_of to.said) ≡ entries_of iw.said
        whole =
            (λ i. take ((iw.counted ∙ sym (entries_length [] iw.said)) i) (entries_of (same i))) ∙ take-length (entries_of iw.said)

    pub over_judged : w.reader.stage ≡ Over → IsJudged ring plan (before ++ more) w.count
    over_judged over = (let h = longer iw.said (iw.over over) in all_judged (record { stage = Over; said = iw.said; line = h.line }) h.begins refl)

    pub going_judged : (w.reader.stage ≢ Over) → IsJudged ring plan (before ++ more) w.count
    going_judged still =
        let g = iw.going still in
        all_judged (point_of w.reader iw.said) (record { done = g.done; rest = w.left.items ++ more; whole = ap (λ (z : List ℕ). z ++ more) g.whole ∙ append_assoc g.done w.left.items more; read = g.read }) refl

  -- the entries of lines that were read were followed
  module _ (old m new : Watch) (world : m.world ≡ old.world) (count : m.count ≡ old.count) (iw : IsWatching ring plan before old) (r : Reached ring (before ++ more) iw.said m.reader) where
    followed : FollowsKept m new → (new.reader.stage ≢ Over → IsGoing ring (before ++ more) r.to.said new) → IsWatching ring plan (before ++ more) new
    followed kept going =
        let u = run_on ring plan before old m.reader m.world m.count iw world count (before ++ more) r new.world new.count kept.all in
        record {
          ring_is = u.4;
          plan_is = u.5;
          said = r.to.said;
          going = going;
          over = λ o. has_ended ring (before ++ more) r.to r.begins (r.stage_is ∙ sym kept.emptied.stage ∙ o);
          counted = u.3;
          world = u.0;
          meets = u.1;
          run = u.2;
        }

    faulty : (line : ℕ) (e : Refusal) → FailsIn m.world m.count line m.reader.entries.items e → IsRefused ring plan (before ++ more) e
    faulty line e f = refused ring plan before old m.reader m.world m.count iw world count (before ++ more) r line e f

    counted_now : (after : ℕ) → Reaches m.world m.count after m.reader.entries.items → IsJudged ring plan (before ++ more) after
    counted_now after reaches = judged ring plan before old m.reader m.world m.count iw world count (before ++ more) r after reaches

  -- lines were read
  module _ (old m : Watch) (world : m.world ≡ old.world) (count : m.count ≡ old.count) (still : old.reader.stage ≢ Over) (some : TakesSome old.reader m.reader (old.left.items ++ more) m.left.items) (iw : IsWatching ring plan before old) where
    abbrev g : IsGoing ring before iw.said old
    g = iw.going still

    r : Reached ring (before ++ more) iw.said m.reader
    r = reached_some ring before more iw.said old m.reader g m.left.items some

    pub some_on : (new : Watch) → FollowsKept m new → IsWatching ring plan (before ++ more) new
    unfolding r reached_some
    some_on new kept = followed old m new world count iw r kept (λ not_over. (
        let reading = reading_next ring before more iw.said old m.reader g m.left.items some in
        let read = read_next ring before more iw.said old m.reader g m.left.items some in
        record {
          done = g.done ++ some.done;
          whole = split ring before more iw.said old m.reader g some.done m.left.items some.whole ∙ ap (λ (v : Vec ℕ). (g.done ++ some.done) ++ v.items) (sym kept.left);
          run = subst (λ (v : Vec ℕ). HasNoEnd v.items) (sym kept.left) some.run;
          reading = emptied_reading ring (entries_of iw.said) r.to.said m.reader new.reader kept.emptied reading;
          none = kept.emptied.none;
          read = λ u. read u ∙ (λ i. read_from ring (record { stage = sym kept.emptied.stage i; said = r.to.said; line = sym kept.emptied.line i }) u);
        }))

    pub some_fails : (new : Watch) (line : ℕ) (e : Refusal) → FailsIn m.world m.count line m.reader.entries.items e → IsRefused ring plan (before ++ more) e
    some_fails new line e f = faulty old m new world count iw r line e f

    pub some_judged : (new : Watch) (after : ℕ) → Reaches m.world m.count after m.reader.entries.items → IsJudged ring plan (before ++ more) after
    some_judged new after reaches = counted_now old m new world count iw r after reaches

  -- a line was refused
  module _ (old m : Watch) (world : m.world ≡ old.world) (count : m.count ≡ old.count) (still : old.reader.stage ≢ Over) (e : Refusal) (bad : Refuses old.reader m.reader (old.left.items ++ more) e) (iw : IsWatching ring plan before old) where
    s : (r : Reached ring (before ++ more) iw.said m.reader) × ((u : List ℕ) → Stops ring r.to (r.begins.rest ++ u) e)
    s = reached_stop ring before more iw.said old m.reader (iw.going still) e bad

    pub stop_over : (new : Watch) → FollowsKept m new → new.reader.stage ≡ Over → IsWatching ring plan (before ++ more) new
    stop_over new kept over = followed old m new world count iw s.0 kept (λ not_over. absurd (not_over over))

    pub stop_refused : (new : Watch) → FollowsKept m new → IsRefused ring plan (before ++ more) e
    stop_refused new kept =
        let u = run_on ring plan before old m.reader m.world m.count iw world count (before ++ more) s.0 new.world new.count kept.all in
        inr (inl (record { to = s.0.to; begins = s.0.begins; history = ∣ (u.0, u.2) ∣₁; stops = s.1 }))

    pub stop_fails : (new : Watch) (line : ℕ) (f : Refusal) → FailsIn m.world m.count line m.reader.entries.items f → IsRefused ring plan (before ++ more) f
    stop_fails new line f fails = faulty old m new world count iw s.0 line f fails

    pub stop_judged : (new : Watch) (after : ℕ) → Reaches m.world m.count after m.reader.entries.items → IsJudged ring plan (before ++ more) after
    stop_judged new after reaches = counted_now old m new world count iw s.0 after reaches

-- ---- the watch before bytes

pub at_start : (ring : RingValue) (plan : List Planned) (w : Watch) → IsRing ring → ring_of w.world ≡ ring → plan_of w.world ≡ plan → IsFirst ring 1 w.reader → w.left.items ≡ [] → w.count ≡ 0 → Meets w.world (opening_world ring) → IsWatching ring plan [] w
at_start ring plan w valid ring_is plan_is first left count meets = record {
  ring_is = ring_is;
  plan_is = plan_is;
  said = [];
  going = λ still. record {
    done = [];
    whole = sym left;
    run = subst HasNoEnd (sym left) tt;
    reading = first_reading ring 1 w.reader valid first;
    none = first.no_entries;
    read = λ u. (λ i. read_from ring (record { stage = sym first.stage_is i; said = []; line = sym first.line_is i }) u);
  };
  over = λ o. (let same : First ≡ Over = sym first.stage_is ∙ o in absurd cc);
  counted = count;
  world = opening_world ring;
  meets = meets;
  run = refl;
}

-- ---- what a result hands on

pub on_ok : (r : Result (Unit {0}) Refusal) (P Q : Type 0) → OnOk r P → (P → Q) → OnOk r Q
on_ok (Ok u) P Q p f = f p
on_ok (Err e) P Q p f = tt

pub on_err : (r : Result (Unit {0}) Refusal) (P Q : Refusal → Type 0) → IfErr r (λ e. e ≢ OutOfMemory → P e) → ((e : Refusal) → P e → Q e) → IfErr r (λ e. e ≢ OutOfMemory → Q e)
on_err (Ok u) P Q p f = tt
on_err (Err e) P Q p f = λ ne. f e (p ne)
