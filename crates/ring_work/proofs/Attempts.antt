-- A start, and what follows it, is an attempt.
use Rattle.std.proofs.Common.{◌≡◌, ◌∙◌, ◌≤◌, ℕ, Bool, true, false, cond, List, [], ◌∷◌, ◌++◌, length, refl, sym, ap, subst, append_assoc, inr, arith}
use Rattle.std.specs.Prelude.{not, Option, is_some}
use Rattle.ring_names.specs.declared.refusal.Refusal.{Refusal}
use Rattle.plan_runs.specs.declared.event.Event.{Event}
use Rattle.plan_runs.specs.declared.event.Event.TheVariants.{StartGet}
use Rattle.plan_runs.specs.declared.event.Reply.TheVariants.{Put, Get}
use Rattle.ring_board.specs.declared.receipt.Receipt.{Receipt}
use Rattle.ring_board.specs.Kinds.{sends, acknowledges, reads, ends}
use Rattle.ring_work.specs.Noted.{Completes}
use Rattle.ring_work.specs.Attempts.{AddsPut, AddsGet, IsPutAttempt}

at_most : (b : Bool) (n : ℕ) → n ≡ cond b 0 1 → n ≤ 1
at_most true n e = omega arith
at_most false n e = omega arith

one_unless : (b : Bool) (n : ℕ) → n ≡ cond b 0 1 → n ≡ cond (not b) 1 0
one_unless true n e = e
one_unless false n e = e

-- it was answered
pub put_made : (begin : Event) (old mid new : List Receipt) (refusal : Option Refusal) (r : Receipt) (n : ℕ) → r.event ≡ begin → r.reply ≡ Put n → mid ≡ old ++ r ∷ []
    → Completes (λ r. sends n r.event) (λ r. acknowledges n r.event) mid new (is_some refusal) → AddsPut begin old new refusal
put_made begin old mid new refusal r n event reply mid_is c = (
  r ∷ (c.body ++ c.close),
  c.joined ∙ ap (λ xs. xs ++ (c.body ++ c.close)) mid_is ∙ append_assoc old (r ∷ []) (c.body ++ c.close),
  inr (
    record {
      start = r;
      number = n;
      sent = c.body;
      acks = c.close;
      joined = refl;
      event = event;
      reply = reply;
      are_sent = c.are_each;
      are_acks = c.are_last;
      few = at_most (is_some refusal) (length c.close) c.closed;
    },
    c.closed,
  ),
)

pub get_made : (key : List ℕ) (old mid new : List Receipt) (refusal : Option Refusal) (r : Receipt) (n : ℕ) → r.event ≡ StartGet key → r.reply ≡ Get n → mid ≡ old ++ r ∷ []
    → Completes (λ r. reads n r.event) (λ r. ends n r.event) mid new (is_some refusal) → AddsGet key old new refusal
get_made key old mid new refusal r n event reply mid_is c = (
  r ∷ (c.body ++ c.close),
  c.joined ∙ ap (λ xs. xs ++ (c.body ++ c.close)) mid_is ∙ append_assoc old (r ∷ []) (c.body ++ c.close),
  inr (
    record { number = n; key = key; ended = not (is_some refusal) },
    record {
      start = r;
      reads = c.body;
      ends = c.close;
      joined = refl;
      event = event;
      reply = reply;
      of_key = refl;
      are_reads = c.are_each;
      are_ends = c.are_last;
      ended = one_unless (is_some refusal) (length c.close) c.closed;
    },
    refl,
  ),
)

-- behind none
pub put_alone : (begin : Event) (old new : List Receipt) (refusal : Option Refusal) → old ≡ [] → AddsPut begin old new refusal → IsPutAttempt begin new refusal
put_alone begin old new refusal none a = subst (λ xs. IsPutAttempt begin xs refusal) (sym (a.1 ∙ ap (λ xs. xs ++ a.0) none)) a.2
