-- A watch of an input goes on, and ends.
use Rattle.std.proofs.Common.{◌≡◌, ◌≢◌, Bool, true, cond, ℕ, zero, suc, ◌+◌, ◌-◌, ◌≤◌, List, [], ◌++◌, append_assoc, append-nil, length, Option, None, Ok, Err, Result, IsErrAnd, refl, sym, ap, subst, ◌∙◌, inl, inr, arith}
use Rattle.std.specs.Prelude.{IfOk, IfErr, OnErr, codes}
use Rattle.std.specs.Global.{Vec}
use Rattle.std.specs.Io.KnownBytes.{Appends, Consumes}
use Rattle.std.proofs.KnownBytes.{Appends-nil, Appends-trans, Consumes-nil, Consumes-trans}
use Rattle.ring_names.specs.declared.refusal.Refusal.{Refusal}
use Rattle.ring_names.specs.declared.refusal.Refusal.TheVariants.{OutOfMemory}
use Rattle.ringplan_answers.specs.Io.{AppendsPart}
use Rattle.ring_table.specs.Value.{RingValue}
use Rattle.plan_text.specs.declared.step.Planned.{Planned}
use Rattle.plan_runs.specs.World.{opening_world}
use Rattle.history_text.specs.declared.reader.Stage.TheVariants.{Over}
use Rattle.history_text.specs.Input.{IsNext}
use Rattle.history_text.specs.Input as input
use Rattle.history_text.specs.State.{point_of}
use Rattle.history_text.proofs.Inputs.{same_end}
use Rattle.history_watch.specs.declared.watch.Watch.{Watch}
use Rattle.history_watch.specs.Watching.{IsAnswer, IsCutOff, IsJudged, IsRefused, IsWatching, history_at, start}
use Rattle.history_watch.proofs.Watched.{going_judged, over_judged}
use Rattle.texts.specs.Left.{whole_text}
use Rattle.plan_check.specs.First.{first_refusal}
use Rattle.ring_script.specs.Bundles.{bundle_at}
use Rattle.ring_script.specs.declared.bundle.Bundle.{Bundle}
use Rattle.ring_script.specs.declared.bundle.Kind.TheVariants.{Check}
use Rattle.history_watch.specs.Bundles.{WatchesBundle}
use Rattle.history_watch.specs.Loops.{IsOutside, IsPrompt, IsUndecided, PrintsPart, Shows, ShowsPart, Watches, is_shown, shown_at, so_far, so_far_line}

pub on_inside : (r : Result (Unit {0}) Refusal) (P : Refusal → Type 0) → IfErr r (λ e. e ≢ OutOfMemory → P e) → IfErr r (λ e. (IsOutside e → ⊥) → P e)
on_inside (Ok u) P h = tt
on_inside (Err e) P h = λ inside. h (λ o. inside (inl o))

-- what was appended is a first part of it
whole_part : (a b : Option (List ℕ)) (bs : List ℕ) → Appends a b bs → AppendsPart a b bs
whole_part a b bs h = (bs, [], sym (append-nil bs), h)

-- what a first part is of is a first part of more
part_more : (a b : Option (List ℕ)) (bs cs : List ℕ) → AppendsPart a b bs → AppendsPart a b (bs ++ cs)
part_more a b bs cs (front, rest, is, h) = (front, rest ++ cs, ap (λ (z : List ℕ). z ++ cs) is ∙ append_assoc front rest cs, h)

later_lines : (every count more : ℕ) → (rest : List ℕ) × (so_far every (count + more) ≡ so_far every count ++ rest)
later_lines every count zero = (let n : count + zero ≡ count = omega arith in ([], ap (so_far every) n ∙ sym (append-nil (so_far every count))))
later_lines every count (suc more) =
    let r = later_lines every count more in
    let n : count + suc more ≡ suc (count + more) = omega arith in
    (r.0 ++ shown_at every (suc (count + more)), ap (so_far every) n ∙ ap (λ (z : List ℕ). z ++ shown_at every (suc (count + more))) r.1 ∙ append_assoc (so_far every count) r.0 (shown_at every (suc (count + more))))

-- a line failed after others
pub shows_part : (every before count now after : ℕ) (a b c : Option (List ℕ)) → now ≡ count + 1 → now ≤ after → Shows every before count a b → AppendsPart b c (shown_at every now) → ShowsPart every before after a c
shows_part every before count now after a b c is few shows (front, rest, same, h) = λ start f. (
    let next : now ≡ suc count = omega arith in
    let line : shown_at every (suc count) ≡ front ++ rest = ap (shown_at every) (sym next) ∙ same in
    let here = Appends-trans start b c (so_far every count) front (shows start f) h in
    let left = later_lines every (suc count) (after - suc count) in
    let size : suc count + (after - suc count) ≡ after = omega arith in
    let text : so_far every after ≡ (so_far every count ++ front) ++ (rest ++ left.0) =
    ap (so_far every) (sym size) ∙ left.1 ∙ ap (λ (z : List ℕ). (so_far every count ++ z) ++ left.0) line
    ∙ ap (λ (z : List ℕ). z ++ left.0) (sym (append_assoc (so_far every count) front rest)) ∙ append_assoc (so_far every count ++ front) rest left.0 in
    (so_far every count ++ front, rest ++ left.0, text, here))

pub on_any : (r : Result (Unit {0}) Refusal) (P : Type 0) → P → OnErr r P
on_any (Ok u) P p = tt
on_any (Err e) P p = p

-- the line of a number that is shown
pub shown_line : (every count : ℕ) → is_shown every count ≡ true → shown_at every count ≡ so_far_line count
shown_line every count is = ap (λ (b : Bool). cond {A = List ℕ} b (so_far_line count) []) is

-- what was handed on of a line
pub line_part : (a b : Option (List ℕ)) (every count : ℕ) (line : List ℕ) (r w : Result (Unit {0}) Refusal) (e : Refusal) → IsErrAnd r (λ x. x ≡ e) → w ≡ Err e → is_shown every count ≡ true → line ≡ so_far_line count → OnErr w (AppendsPart a b line) → OnErr r (AppendsPart a b (shown_at every count))
line_part a b every count line (Ok u) w e is was shown same part = absurd is
line_part a b every count line (Err x) w e is was shown same part = subst (λ (z : List ℕ). AppendsPart a b z) (same ∙ sym (shown_line every count shown)) (on_err_is w e was (AppendsPart a b line) part)
  where
    on_err_is : (w : Result (Unit {0}) Refusal) (e : Refusal) → w ≡ Err e → (P : Type 0) → OnErr w P → P
    on_err_is (Ok u) e was P p = absurd cc
    on_err_is (Err y) e was P p = p

-- nothing was read or printed
pub nothing_part : (ring : RingValue) (plan : List Planned) (every : ℕ) (a b : Option (List ℕ)) → PrintsPart ring plan every a b b
nothing_part ring plan every a b = record {
  bytes = [];
  left = a;
  taken = Consumes-nil a;
  count = 0;
  judged = record { to = start; begins = record { done = []; rest = []; whole = refl; read = λ u. refl }; few = omega arith; history = ∣ (opening_world ring, refl) ∣₁ };
  part = whole_part b b [] (Appends-nil b);
}

-- memory, reading or writing failed
pub outside : (ring : RingValue) (plan : List Planned) (every : ℕ) (a b c d : Option (List ℕ)) (r : Result (Vec ℕ) Refusal) (e : Refusal) → IsErrAnd r (λ x. x ≡ e) → IsOutside e → PrintsPart ring plan every a c d → Watches ring plan every a b c d r
outside ring plan every a b c d (Ok v) e is out part = absurd is
outside ring plan every a b c d (Err x) e is out part = (part, λ inside. absurd (inside (subst IsOutside (sym is) out)))

module _ (ring : RingValue) (plan : List Planned) (every : ℕ) (a b : Option (List ℕ)) (old new : Option (List ℕ)) (bytes : List ℕ) (w : Watch) (iw : IsWatching ring plan bytes w) (still : w.reader.stage ≢ Over) where
  -- a watch that goes on has not decided
  undecided : IsUndecided ring plan bytes
  undecided =
      let g = iw.going still in
      record { to = point_of w.reader iw.said; begins = record { done = g.done; rest = w.left.items; whole = g.whole; read = g.read }; run = g.run; goes_on = still; history = ∣ (iw.world, iw.run) ∣₁ }

  prompt : (more : List ℕ) → length more ≤ 65536 → IsPrompt ring plan (bytes ++ more)
  prompt more few = record { before = bytes; last = more; whole = refl; few = few; undecided = undecided }

  -- what was printed before is all lines so far
  pub so_far_part : Consumes a b bytes → Appends old new (so_far every w.count) → PrintsPart ring plan every a old new
  so_far_part taken shown = record { bytes = bytes; left = b; taken = taken; count = w.count; judged = subst (λ (z : List ℕ). IsJudged ring plan z w.count) (append-nil bytes) (going_judged ring plan bytes [] w iw still); part = whole_part old new (so_far every w.count) shown }

  -- the input is at its end
  pub at_end : (c : Option (List ℕ)) (most : ℕ) (more : List ℕ) (r : Result (Vec ℕ) Refusal) → Consumes a b bytes → IsNext b c most more → length more ≡ 0 → Appends old new (so_far every w.count)
      → IfOk r (λ text. (q : RingValue) (p : List Planned) (bs : List ℕ) (so : IsWatching q p bs w) → IsAnswer q p bs w so.said text.items)
      → IfErr r (λ e. e ≢ OutOfMemory → (q : RingValue) (p : List Planned) (bs : List ℕ) → IsWatching q p bs w → IsCutOff q p bs e) → Watches ring plan every a c old new r
  at_end c most more (Ok text) taken next none shown ok err =
      let same = same_end bytes more none in
      let answer = ok ring plan bytes iw in (
        bytes ++ more,
        Consumes-trans a b c bytes more taken next.bytes,
        prompt more (let n = none in omega arith),
        (
          iw.said,
          inr (next.end none, ap (λ (z : List ℕ). history_at ring (z ++ codes "end\n")) same ∙ answer.ends still),
          answer.replayed,
          subst (λ (n : ℕ). Appends old new (so_far every n)) iw.counted shown,
        ),
      )
  at_end c most more (Err e) taken next none shown ok err = (
    so_far_part taken shown,
    λ inside. (
        let same = same_end bytes more none in
        let cut = subst (λ (z : List ℕ). IsCutOff ring plan z e) (sym same) (err (λ o. inside (inl o)) ring plan bytes iw) in (
          bytes ++ more,
          Consumes-trans a b c bytes more taken next.bytes,
          prompt more (let n = none in omega arith),
          inr (next.end none, cut),
          (w.count, going_judged ring plan bytes more w iw still, shown),
        )),
  )

  -- a last line has come, or bytes are refused
  module _ (c : Option (List ℕ)) (more : List ℕ) (taken : Consumes a b bytes) (next : IsNext b c 65536 more) (last : Option (List ℕ)) where
    pub is_refused : (r : Result (Vec ℕ) Refusal) (e : Refusal) (n : ℕ) → IsErrAnd r (λ x. x ≡ e) → AppendsPart old last (so_far every n) → ((IsOutside e → ⊥) → IsRefused ring plan (bytes ++ more) e) → IsJudged ring plan (bytes ++ more) n → ((IsOutside e → ⊥) → Appends old last (so_far every n)) → Watches ring plan every a c old last r
    is_refused (Ok v) e n is part bad judged shown = absurd is
    is_refused (Err x) e n is part bad judged shown = (
      record { bytes = bytes ++ more; left = c; taken = Consumes-trans a b c bytes more taken next.bytes; count = n; judged = judged; part = part },
      λ inside. (
          let same : (IsOutside e → ⊥) = λ o. inside (subst IsOutside (sym is) o) in (
            bytes ++ more,
            Consumes-trans a b c bytes more taken next.bytes,
            prompt more next.few,
            inl (subst (λ (z : Refusal). IsRefused ring plan (bytes ++ more) z) (sym is) (bad same)),
            (n, judged, shown same),
          )),
    )

    pub is_over : (v : Watch) (so : IsWatching ring plan (bytes ++ more) v) → v.reader.stage ≡ Over → (r : Result (Vec ℕ) Refusal) → Appends old last (so_far every v.count)
        → IfOk r (λ text. (q : RingValue) (p : List Planned) (bs : List ℕ) (so : IsWatching q p bs v) → IsAnswer q p bs v so.said text.items)
        → IfErr r (λ e. IsOutside e) → Watches ring plan every a c old last r
    is_over v so over (Ok text) shown ok err = (
      bytes ++ more,
      Consumes-trans a b c bytes more taken next.bytes,
      prompt more next.few,
      (so.said, inl (so.over over), (ok ring plan (bytes ++ more) so).replayed, subst (λ (n : ℕ). Appends old last (so_far every n)) so.counted shown),
    )
    is_over v so over (Err e) shown ok err = (
      record { bytes = bytes ++ more; left = c; taken = Consumes-trans a b c bytes more taken next.bytes; count = v.count; judged = subst (λ (z : List ℕ). IsJudged ring plan z v.count) (append-nil (bytes ++ more)) (over_judged ring plan (bytes ++ more) [] v so over); part = whole_part old last (so_far every v.count) shown },
      λ inside. absurd (inside err),
    )

-- at the last line only memory may fail
pub over_outside : (r : Result (Vec ℕ) Refusal) (w : Watch) → w.reader.stage ≡ Over → IfErr r (λ e. w.reader.stage ≡ Over → e ≡ OutOfMemory) → IfErr r (λ e. IsOutside e)
over_outside (Ok v) w over h = tt
over_outside (Err e) w over h = inl (h over)

-- memory or reading failed
pub unread : (e : Refusal) → input.IsOutside e → IsOutside e
unread e (inl o) = inl o
unread e (inr r) = inr (inl r)

-- before the first byte
pub shown_first : (every n : ℕ) (a : Option (List ℕ)) → n ≡ 0 → Appends a a (so_far every n)
shown_first every n a none = subst (λ (k : ℕ). Appends a a (so_far every k)) (sym none) (Appends-nil a)

rewritten : (every : ℕ) (a b c d : Option (List ℕ)) (r : Result (Vec ℕ) Refusal) (x : Bundle) (ring : RingValue) (plan : List Planned) → ring ≡ x.ring → plan ≡ x.plan → Watches ring plan every a b c d r → Watches x.ring x.plan every a b c d r
rewritten every a b c d r x ring plan e f watches = subst (λ (q : RingValue). Watches q x.plan every a b c d r) e (subst (λ (p : List Planned). Watches ring p every a b c d r) f watches)

-- a watch by a bundle that is accepted
pub watched_by : (bytes : List ℕ) (every : ℕ) (a b c d : Option (List ℕ)) (r : Result (Vec ℕ) Refusal) (x : Bundle) → whole_text (bundle_at Check) bytes ≡ Ok x → first_refusal x.ring x.plan x.cert ≡ None
    → (ring : RingValue) (plan : List Planned) → ring ≡ x.ring → plan ≡ x.plan → Watches ring plan every a b c d r → WatchesBundle bytes every a b c d r
watched_by bytes every a b c d (Ok v) x read accepted ring plan e f watches = record { bundle = x; read = read; accepted = accepted; watches = rewritten every a b c d (Ok v) x ring plan e f watches }
watched_by bytes every a b c d (Err u) x read accepted ring plan e f watches = inr (record { bundle = x; read = read; accepted = accepted; watches = rewritten every a b c d (Err u) x ring plan e f watches })
