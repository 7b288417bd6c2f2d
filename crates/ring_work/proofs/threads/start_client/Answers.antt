-- The handle stands last.
use Rattle.std.proofs.Common.{◌≡◌, ◌∙◌, ◌+◌, ◌<◌, ℕ, List, [], length, slice_index_or, refl, sym, ap, subst}
use Rattle.std.specs.Prelude.{Any}
use Rattle.std.proofs.lemmas.List.{get_or_read_under}
use Rattle.std.proofs.lemmas.List.Quantifiers.{Any-push}
use Rattle.std.specs.declared.thread.PromisedHandle.{PromisedHandle}
use Rattle.ring_work.specs.declared.done.Done.{Done}
use Rattle.ring_work.specs.declared.threads.ByGate.{ByGate}
use Rattle.ring_work.proofs.Handles.{any_more}
use Rattle.ring_work.proofs.threads.start_client.Goals as goal

pub returns-in-Ok-push-clause-kept : goal.returns-in-Ok-push-clause-kept
returns-in-Ok-push-clause-kept g c = λ client line some. (
    let is_it = λ (h : PromisedHandle (Done g.row.L.Denot) (ByGate g.row.G.Denot)). (h.promise.1 ≡ client) × (line < h.promise.2) in
    subst (λ (hs : List (PromisedHandle (Done g.row.L.Denot) (ByGate g.row.G.Denot))). Any is_it hs) (sym c.in-Ok-push.ensures.items) (any_more is_it c.args.handles.now.items c.in-Ok.handle some))

pub returns-in-Ok-push-clause-served : goal.returns-in-Ok-push-clause-served
returns-in-Ok-push-clause-served g c = λ none line short. (
    let is_it = λ (h : PromisedHandle (Done g.row.L.Denot) (ByGate g.row.G.Denot)). (h.promise.1 ≡ 64 + c.args.number) × (line < h.promise.2) in
    let is = c.in-Ok.ensures.ok in
    let script = c.index-site-number.is in
    let scripts = c.args.site.now.job.now.scripts.now in
    let at : c.index-site-number.result ≡ slice_index_or scripts c.args.number [] =
    get_or_read_under scripts c.args.number (length scripts) c.index-site-number.result [] script c.requires.scripts.0 refl in
    let counted : c.len-lines.result ≡ length (slice_index_or scripts c.args.number []) = c.len-lines.ensures ∙ ap (λ xs. length xs) (sym script ∙ at) in
    let number : c.in-Ok.handle.promise.1 ≡ 64 + c.args.number = ap (λ p. p.1) is in
    let lines : c.in-Ok.handle.promise.2 ≡ c.len-lines.result = ap (λ p. p.2) is in
    let least : line < c.in-Ok.handle.promise.2 = subst (λ (n : ℕ). line < n) (sym (lines ∙ counted)) short in
    subst (λ (hs : List (PromisedHandle (Done g.row.L.Denot) (ByGate g.row.G.Denot))). Any is_it hs) (sym c.in-Ok-push.ensures.items) (Any-push is_it c.args.handles.now.items c.in-Ok.handle (number, least)))

pub returns-in-Err-push-clause-kept : goal.returns-in-Err-push-clause-kept
returns-in-Err-push-clause-kept g c = λ client line some. (
    let is_it = λ (h : PromisedHandle (Done g.row.L.Denot) (ByGate g.row.G.Denot)). (h.promise.1 ≡ client) × (line < h.promise.2) in
    subst (λ (hs : List (PromisedHandle (Done g.row.L.Denot) (ByGate g.row.G.Denot))). Any is_it hs) (sym c.in-Err-push.ensures.items) some)
