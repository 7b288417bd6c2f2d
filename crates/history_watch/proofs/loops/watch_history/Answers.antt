use Rattle.std.proofs.Common.{◌≡◌, ◌∙◌, ℕ, List, [], ◌++◌, length, eqb-true, inl, inr, refl, true, false, sym, subst, arith}
use Rattle.std.proofs.KnownBytes.{Consumes-nil, Consumes-trans}
use Rattle.history_text.specs.declared.reader.Stage.TheVariants.{First, Over}
use Rattle.history_watch.specs.Watching.{IsJudged, IsRefused, IsWatching}
use Rattle.history_watch.proofs.Looped.{at_end, is_over, is_refused, nothing_part, outside, over_outside, shown_first, so_far_part, unread}
use Rattle.history_watch.proofs.loops.watch_history.Goals as goal

pub reads-init : goal.reads-init
reads-init g c = record {
  room = c.in_ok-watch.ensures.room;
  goes_on = λ o. (let same : First ≡ Over = sym c.in_ok-watch.ensures.first.0 ∙ o in absurd cc);
  some = ([], Consumes-nil _, c.in_ok-watch.ensures.ok);
  shown = shown_first c.args.every _ _ c.in_ok-watch.ensures.first.1;
}

pub returns-in_err-watch : goal.returns-in_err-watch
returns-in_err-watch g c = outside c.args.approved.now.ring c.args.approved.now.plan c.args.every _ _ _ _ c.from_residual.result c.in_err-watch.field-0.0 c.from_residual.ensures.1 (inl c.in_err-watch.ensures.memory)
    (nothing_part c.args.approved.now.ring c.args.approved.now.plan c.args.every _ _)

pub returns-in_err-more : goal.returns-in_err-more
returns-in_err-more g c =
    let some = c.reads.invariant.some in
    outside c.args.approved.now.ring c.args.approved.now.plan c.args.every _ _ _ _ c.from_residual-in_err-more.result c.in_err-more.field-0.0 c.from_residual-in_err-more.ensures.1 (unread _ c.in_err-more.ensures.err)
    (so_far_part c.args.approved.now.ring c.args.approved.now.plan c.args.every (g.R.Read.remaining c.args.input.now) (g.R.Read.remaining c.reads.input) (g.W.Write.contents c.args.output.now) (g.W.Write.contents c.reads.output) some.0 c.reads.watch
    some.2 c.reads.invariant.goes_on some.1 c.reads.invariant.shown)

pub returns : goal.returns
returns g c =
    let some = c.reads.invariant.some in (
      so_far_part c.args.approved.now.ring c.args.approved.now.plan c.args.every (g.R.Read.remaining c.args.input.now) (g.R.Read.remaining c.reads.input) (g.W.Write.contents c.args.output.now) (g.W.Write.contents c.reads.output) some.0 c.reads.watch some.2
          c.reads.invariant.goes_on some.1 c.reads.invariant.shown,
      λ inside. absurd (inside (inr (inl refl))),
    )

pub returns-then-is_empty : goal.returns-then-is_empty
returns-then-is_empty g c =
    let some = c.reads.invariant.some in
    let empty : c.in_ok-more.more.len ≡ 0 = eqb-true c.in_ok-more.more.len 0 (sym c.is_empty.ensures ∙ c.if-is_empty.true) in
    let size = c.in_ok-more.more.ok.0 in
    let none : length c.in_ok-more.more.items ≡ 0 = omega arith in
    at_end c.args.approved.now.ring c.args.approved.now.plan c.args.every (g.R.Read.remaining c.args.input.now) (g.R.Read.remaining c.reads.input) _ _ some.0 c.reads.watch some.2 c.reads.invariant.goes_on (g.R.Read.remaining c.read_some.new.input) 65536
    c.in_ok-more.more.items c.end.result some.1 c.in_ok-more.ensures.ok none c.reads.invariant.shown c.end.ensures.ok c.end.ensures.err

pub returns-in_err-watch_some : goal.returns-in_err-watch_some
returns-in_err-watch_some g c =
    let some = c.reads.invariant.some in
    let ring = c.args.approved.now.ring in
    let plan = c.args.approved.now.plan in
    let e = c.in_err-watch_some.field-0.0 in
    let same : c.as_slice.result.now ≡ c.in_ok-more.more.items = c.as_slice.ensures.value in
    is_refused ring plan c.args.every (g.R.Read.remaining c.args.input.now) (g.R.Read.remaining c.reads.input) (g.W.Write.contents c.args.output.now) (g.W.Write.contents c.reads.output) some.0 c.reads.watch some.2 c.reads.invariant.goes_on
    (g.R.Read.remaining c.read_some.new.input) c.in_ok-more.more.items some.1 c.in_ok-more.ensures.ok (g.W.Write.contents c.watch_some.new.output) c.from_residual-in_err-watch_some.result e c.watch_some.new.watch.count c.from_residual-in_err-watch_some.ensures.1
    (c.in_err-watch_some.ensures.part (g.W.Write.contents c.args.output.now) c.reads.invariant.shown)
    (λ inside. subst (λ (z : List ℕ). IsRefused ring plan (some.0 ++ z) e) same (c.in_err-watch_some.ensures.err inside ring plan some.0 some.2))
    (subst (λ (z : List ℕ). IsJudged ring plan (some.0 ++ z) c.watch_some.new.watch.count) same (c.watch_some.ensures.judged ring plan some.0 some.2))
    (λ inside. c.in_err-watch_some.ensures.told inside (g.W.Write.contents c.args.output.now) c.reads.invariant.shown)

pub returns-then-is_over : goal.returns-then-is_over
returns-then-is_over g c =
    let some = c.reads.invariant.some in
    let ring = c.args.approved.now.ring in
    let plan = c.args.approved.now.plan in
    let new = c.watch_some.new.watch in
    let over = c.is_over.ensures.0 c.if-is_over.true in
    let so = subst (λ (z : List ℕ). IsWatching ring plan (some.0 ++ z) new) c.as_slice.ensures.value (c.in_ok-watch_some.ensures.ok ring plan some.0 some.2) in
    is_over ring plan c.args.every (g.R.Read.remaining c.args.input.now) (g.R.Read.remaining c.reads.input) (g.W.Write.contents c.args.output.now) (g.W.Write.contents c.reads.output) some.0 c.reads.watch some.2 c.reads.invariant.goes_on
    (g.R.Read.remaining c.read_some.new.input) c.in_ok-more.more.items some.1 c.in_ok-more.ensures.ok (g.W.Write.contents c.watch_some.new.output) new so over c.end-then-is_over.result
    (c.in_ok-watch_some.ensures.shown (g.W.Write.contents c.args.output.now) c.reads.invariant.shown) c.end-then-is_over.ensures.ok (over_outside c.end-then-is_over.result new over c.end-then-is_over.ensures.over)

pub reads-preserved : goal.reads-preserved
reads-preserved g c =
    let some = c.reads.invariant.some in
    let ring = c.args.approved.now.ring in
    let plan = c.args.approved.now.plan in
    record {
      room = c.in_ok-watch_some.ensures.room;
      goes_on = λ o. (let bad : true ≡ false = sym (c.is_over.ensures.1 o) ∙ c.if-is_over.false in absurd cc);
      some = (
        some.0 ++ c.in_ok-more.more.items,
        Consumes-trans (g.R.Read.remaining c.args.input.now) (g.R.Read.remaining c.reads.input) (g.R.Read.remaining c.read_some.new.input) some.0 c.in_ok-more.more.items some.1 c.in_ok-more.ensures.ok.bytes,
        subst (λ (z : List ℕ). IsWatching ring plan (some.0 ++ z) c.watch_some.new.watch) c.as_slice.ensures.value (c.in_ok-watch_some.ensures.ok ring plan some.0 some.2),
      );
      shown = c.in_ok-watch_some.ensures.shown (g.W.Write.contents c.args.output.now) c.reads.invariant.shown;
    }
