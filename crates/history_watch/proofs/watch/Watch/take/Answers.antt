use Rattle.std.proofs.Common.{◌≡◌, ◌∙◌, true, false, refl, sym}
use Rattle.history_watch.proofs.Watched.{going_judged, on_err, on_ok, over_judged, over_on, some_fails, some_judged, some_on, stop_fails, stop_judged, stop_over, stop_refused}
use Rattle.history_watch.proofs.watch.Watch.take.Goals as goal

pub returns-then-is_over-clause-ok : goal.returns-then-is_over-clause-ok
returns-then-is_over-clause-ok c = λ ring plan before iw. over_on ring plan before c.args.bytes.now c.args.self.now (c.is_over.ensures.0 c.if-is_over.true) iw

pub returns-then-is_over-clause-judged : goal.returns-then-is_over-clause-judged
returns-then-is_over-clause-judged c = λ ring plan before iw. over_judged ring plan before c.args.bytes.now c.args.self.now iw (c.is_over.ensures.0 c.if-is_over.true)

pub returns-in-Ok-clause-ok : goal.returns-in-Ok-clause-ok
returns-in-Ok-clause-ok c =
    on_ok c.follow_kept.result _ _ c.follow_kept.ensures.ok (λ kept ring plan before iw.
    some_on ring plan before c.args.bytes.now c.args.self.now (record c.args.self.now { reader = c.take_some.new.self; left = c.take_some.new.left }) refl refl (λ o. (let bad : true ≡ false = sym (c.is_over.ensures.1 o) ∙ c.if-is_over.false in absurd cc)) c.in-Ok.ensures.ok iw c.follow_kept.new.self kept)

pub returns-in-Ok-clause-err : goal.returns-in-Ok-clause-err
returns-in-Ok-clause-err c =
    on_err c.follow_kept.result _ _ c.follow_kept.ensures.err (λ e fails ring plan before iw.
    some_fails ring plan before c.args.bytes.now c.args.self.now (record c.args.self.now { reader = c.take_some.new.self; left = c.take_some.new.left }) refl refl (λ o. (let bad : true ≡ false = sym (c.is_over.ensures.1 o) ∙ c.if-is_over.false in absurd cc)) c.in-Ok.ensures.ok iw c.follow_kept.new.self _ e fails)

pub returns-in-Ok-clause-judged : goal.returns-in-Ok-clause-judged
returns-in-Ok-clause-judged c = λ ring plan before iw.
    some_judged ring plan before c.args.bytes.now c.args.self.now (record c.args.self.now { reader = c.take_some.new.self; left = c.take_some.new.left }) refl refl (λ o. (let bad : true ≡ false = sym (c.is_over.ensures.1 o) ∙ c.if-is_over.false in absurd cc)) c.in-Ok.ensures.ok iw c.follow_kept.new.self _ c.follow_kept.ensures.reaches

pub returns-in-Ok-clause-plan : goal.returns-in-Ok-clause-plan
returns-in-Ok-clause-plan c = on_ok c.follow_kept.result _ _ c.follow_kept.ensures.ok (λ kept. (kept.all.follows.ring, kept.all.follows.plan))

pub returns-then-is_memory-clause-judged : goal.returns-then-is_memory-clause-judged
returns-then-is_memory-clause-judged c = λ ring plan before iw.
    going_judged ring plan before c.args.bytes.now c.args.self.now iw (λ o. (let bad : true ≡ false = sym (c.is_over.ensures.1 o) ∙ c.if-is_over.false in absurd cc))

pub returns-then-is_over-2 : goal.returns-then-is_over-2
returns-then-is_over-2 c =
    let new = c.follow_kept-in-Err.new.self in
    let kept = c.in-Ok-follow_kept.ensures.ok in
    let over = c.is_over-in-Ok-follow_kept.ensures.0 c.if-is_over-2.true in
    record {
      room = record { ring = kept.all.follows.ring ∙ c.requires.ring ∙ sym kept.ring; puts = kept.puts; gets = kept.gets; left = λ not_over. absurd (not_over over); none = kept.emptied.none };
      ok = λ ring plan before iw. stop_over ring plan before c.args.bytes.now c.args.self.now (record c.args.self.now { reader = c.take_some.new.self; left = c.take_some.new.left }) refl refl (λ o. (let bad : true ≡ false = sym (c.is_over.ensures.1 o) ∙ c.if-is_over.false in absurd cc)) c.in-Err.refusal (c.in-Err.ensures.err (λ o. (let bad : true ≡ false = sym (c.is_memory.ensures.1 o) ∙ c.if-is_memory.false in absurd cc))) iw new kept over;
      err = tt;
      judged = λ ring plan before iw. stop_judged ring plan before c.args.bytes.now c.args.self.now (record c.args.self.now { reader = c.take_some.new.self; left = c.take_some.new.left }) refl refl (λ o. (let bad : true ≡ false = sym (c.is_over.ensures.1 o) ∙ c.if-is_over.false in absurd cc)) c.in-Err.refusal (c.in-Err.ensures.err (λ o. (let bad : true ≡ false = sym (c.is_memory.ensures.1 o) ∙ c.if-is_memory.false in absurd cc))) iw new new.count c.follow_kept-in-Err.ensures.reaches;
      counts = c.follow_kept-in-Err.ensures.counts;
      plan = (kept.all.follows.ring, kept.all.follows.plan);
    }

pub returns-else-is_over-2 : goal.returns-else-is_over-2
returns-else-is_over-2 c =
    let new = c.follow_kept-in-Err.new.self in
    let kept = c.in-Ok-follow_kept.ensures.ok in
    record {
      room = tt;
      ok = tt;
      err = λ ne ring plan before iw. stop_refused ring plan before c.args.bytes.now c.args.self.now (record c.args.self.now { reader = c.take_some.new.self; left = c.take_some.new.left }) refl refl (λ o. (let bad : true ≡ false = sym (c.is_over.ensures.1 o) ∙ c.if-is_over.false in absurd cc)) c.in-Err.refusal (c.in-Err.ensures.err (λ o. (let bad : true ≡ false = sym (c.is_memory.ensures.1 o) ∙ c.if-is_memory.false in absurd cc))) iw new kept;
      judged = λ ring plan before iw. stop_judged ring plan before c.args.bytes.now c.args.self.now (record c.args.self.now { reader = c.take_some.new.self; left = c.take_some.new.left }) refl refl (λ o. (let bad : true ≡ false = sym (c.is_over.ensures.1 o) ∙ c.if-is_over.false in absurd cc)) c.in-Err.refusal (c.in-Err.ensures.err (λ o. (let bad : true ≡ false = sym (c.is_memory.ensures.1 o) ∙ c.if-is_memory.false in absurd cc))) iw new new.count c.follow_kept-in-Err.ensures.reaches;
      counts = c.follow_kept-in-Err.ensures.counts;
      plan = tt;
    }

pub returns-in-Err-follow_kept : goal.returns-in-Err-follow_kept
returns-in-Err-follow_kept c =
    let new = c.follow_kept-in-Err.new.self in
    record {
      room = tt;
      ok = tt;
      err = λ ne ring plan before iw. stop_fails ring plan before c.args.bytes.now c.args.self.now (record c.args.self.now { reader = c.take_some.new.self; left = c.take_some.new.left }) refl refl (λ o. (let bad : true ≡ false = sym (c.is_over.ensures.1 o) ∙ c.if-is_over.false in absurd cc)) c.in-Err.refusal (c.in-Err.ensures.err (λ o. (let bad : true ≡ false = sym (c.is_memory.ensures.1 o) ∙ c.if-is_memory.false in absurd cc))) iw new _ c.in-Err-follow_kept.fault (c.in-Err-follow_kept.ensures.err ne);
      judged = λ ring plan before iw. stop_judged ring plan before c.args.bytes.now c.args.self.now (record c.args.self.now { reader = c.take_some.new.self; left = c.take_some.new.left }) refl refl (λ o. (let bad : true ≡ false = sym (c.is_over.ensures.1 o) ∙ c.if-is_over.false in absurd cc)) c.in-Err.refusal (c.in-Err.ensures.err (λ o. (let bad : true ≡ false = sym (c.is_memory.ensures.1 o) ∙ c.if-is_memory.false in absurd cc))) iw new new.count c.follow_kept-in-Err.ensures.reaches;
      counts = c.follow_kept-in-Err.ensures.counts;
      plan = tt;
    }
