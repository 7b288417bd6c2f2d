use Rattle.std.proofs.Common.{◌≡◌, ◌∙◌, ◌<◌, ◌≤◌, ◌+◌, ℕ, Some, length, subst, sym, inl, inr}
use Rattle.std.proofs.lemmas.List.Elements.{All-pop}
use Rattle.std.specs.declared.thread.PromisedHandle.{PromisedHandle}
use Rattle.ring_work.specs.declared.done.Done.{Done}
use Rattle.ring_work.specs.declared.threads.ByGate.{ByGate}
use Rattle.ring_work.proofs.Handles.{any_taken}
use Rattle.ring_work.proofs.threads.join_clients.Goals as goal

pub loop-handle-preserved : goal.loop-handle-preserved
loop-handle-preserved g c =
    let is_ours = λ (h : PromisedHandle (Done g.row.L.Denot) (ByGate g.row.G.Denot)). (h.promise.0.value ≡ c.args.site.now.job.now.gate.now) × (64 ≤ h.promise.1) × (h.promise.1 < 64 + length c.args.site.now.job.now.scripts.now) in
    let popped = All-pop is_ours c.loop-handle.handles.items c.pop.new.self.items (Some c.in-Some.handle) c.in-Some.ensures.items c.loop-handle.invariant.handles in
    record {
      handles = popped.0;
      seats = c.take.ensures.seats ∙ c.loop-handle.invariant.seats;
      spent = λ s. elim (c.take.ensures.spent s) [
        | inl old ↦ c.loop-handle.invariant.spent old
        | inr new ↦
            let got = c.join.ensures.0 new in
            inr (c.in-Some.handle.promise.1, got.0, popped.1.1, popped.1.2, subst (λ (gate : g.row.G.Denot). g.G.Gate.may_refuse gate c.in-Some.handle.promise.1 got.0) popped.1.0 got.1)
      ];
      complete = λ s. c.loop-handle.invariant.complete (c.take.ensures.complete s).0;
      passed = λ s client line any must. (
          let both = c.take.ensures.complete s in
          let is_it = λ (h : PromisedHandle (Done g.row.L.Denot) (ByGate g.row.G.Denot)). (h.promise.1 ≡ client) × (line < h.promise.2) in
          let before = c.loop-handle.invariant.passed both.0 client line any must in
          elim (any_taken is_it c.loop-handle.handles.items c.pop.new.self.items c.in-Some.handle c.in-Some.ensures.items before) [
            | inl rest ↦ rest
            | inr here ↦
                let h = c.in-Some.handle.promise in
                let by_client = subst (λ (n : ℕ). g.G.Gate.must_refuse c.args.site.now.job.now.gate.now n line) (sym here.0) must in
                let by_gate = subst (λ (gate : g.row.G.Denot). g.G.Gate.must_refuse gate h.1 line) (sym popped.1.0) by_client in
                absurd (c.join.ensures.1 both.1 line here.1 by_gate)
          ]);
    }
