-- A client more.
use Rattle.std.proofs.Common.{◌≡◌, ◌+◌, ◌-◌, ◌<◌, ℕ, [], length, slice_index_or, sym, subst, inl, inr, arith}
use Rattle.std.specs.Prelude.{Any}
use Rattle.std.proofs.lemmas.Bool.{cases_lt}
use Rattle.std.specs.declared.thread.PromisedHandle.{PromisedHandle}
use Rattle.ring_work.specs.declared.done.Done.{Done}
use Rattle.ring_work.specs.declared.threads.ByGate.{ByGate}
use Rattle.ring_work.proofs.threads.start_clients.Goals as goal

pub loop-started-preserved : goal.loop-started-preserved
loop-started-preserved g c =
    let started = c.loop-started.started in
    let scripts = c.args.site.now.job.now.scripts.now in
    let came = c.start_client-refused.ensures in (
      (let had = c.loop-started.invariant.0 in let less = c.split.ensures.parts in omega arith),
      came.all,
      (λ none s line from below short. (
          let serves = λ (k : ℕ) (h : PromisedHandle (Done g.row.L.Denot) (ByGate g.row.G.Denot)). (h.promise.1 ≡ 64 + k) × (line < h.promise.2) in
          elim (cases_lt (s + started) (length scripts)) [
            | inl new ↦
                let e : s ≡ length scripts - 1 - started = omega (arith, new, from, below) in
                subst (λ (k : ℕ). Any (serves k) c.start_client-refused.new.handles.items) (sym e) (came.served none line (subst (λ (k : ℕ). line < length (slice_index_or scripts k [])) e short))
            | inr old ↦ came.kept (64 + s) line (c.loop-started.invariant.2 (came.before none) s line old below short)
          ])),
    )
