-- Receipts of a row of events.
use Rattle.std.proofs.Common.{◌≡◌, ◌∙◌, ℕ, ◌+◌, ◌<◌, true, List, [], ◌∷◌, ◌++◌, length, take, get_or, sym, ap, subst, arith, append_assoc, length-append}
use Rattle.std.proofs.lemmas.List.{take_more, map-append}
use Rattle.std.proofs.lemmas.List.Elements.{All-nil, All-cons, All-append}
use Rattle.plan_runs.specs.declared.event.Event.{Event}
use Rattle.ring_board.specs.declared.receipt.Receipt.{Receipt}
use Rattle.ring_exec.specs.Replies.{fits_reply}
use Rattle.ring_exec.specs.Rows.{AddsRow, IsOfHistory}

-- one event more was answered
pub row_on : (events : List Event) (old mid new : List Receipt) (k : ℕ) (e : Event) (r : Receipt) → AddsRow events old mid → length mid ≡ length old + k → k < length events → e ≡ get_or events k e
    → new ≡ mid ++ r ∷ [] → r.event ≡ e → fits_reply e r.reply ≡ true → r.index < 1000000 → AddsRow events old new
row_on events old mid new k e r a long within is joined same fits place =
    let count : length a.more ≡ k = (let n = ap length a.joined in let m = length-append old a.more in omega arith) in
    let counted : length (a.more ++ r ∷ []) ≡ k + 1 = (let m = length-append a.more (r ∷ []) in omega arith) in
    record {
      more = a.more ++ r ∷ [];
      joined = joined ∙ ap (λ (xs : List Receipt). xs ++ r ∷ []) a.joined ∙ append_assoc old a.more (r ∷ []);
      first = map-append (λ (x : Receipt). x.event) a.more (r ∷ [])
          ∙ (ap (λ (es : List Event). es ++ r.event ∷ []) a.first
          ∙ (ap (λ (n : ℕ). take n events ++ r.event ∷ []) count
          ∙ (ap (λ (x : Event). take k events ++ x ∷ []) (same ∙ is)
          ∙ (sym (take_more events k e within)
          ∙ ap (λ (n : ℕ). take n events) (sym counted)))));
      each = All-append IsOfHistory a.more (r ∷ []) a.each
          (All-cons IsOfHistory r [] (subst (λ (x : Event). fits_reply x r.reply ≡ true) (sym same) fits, place) (All-nil IsOfHistory));
    }
