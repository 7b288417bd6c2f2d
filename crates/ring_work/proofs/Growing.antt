-- Receipts that stand behind others.
use Rattle.std.proofs.Common.{◌≡◌, ◌∙◌, Bool, true, false, List, [], ◌∷◌, ◌++◌, refl, sym, ap, append_assoc, append-nil}
use Rattle.std.specs.List.{list_all}
use Rattle.std.proofs.lemmas.List.Folds.{list_all-append}
use Rattle.plan_runs.specs.declared.event.Event.{Event}
use Rattle.ring_board.specs.declared.receipt.Receipt.{Receipt}
use Rattle.ring_work.specs.Noted.{Adds, Grows, Completes}

all_both : (test : Receipt → Bool) (a b : List Receipt) → list_all test a ≡ true → list_all test b ≡ true → list_all test (a ++ b) ≡ true
all_both test a b p q = list_all-append test a b ∙ rw (p, q) refl

-- some, and behind them some
pub grows_on : (test : Receipt → Bool) (old mid new : List Receipt) → Grows test old mid → Grows test mid new → Grows test old new
grows_on test old mid new a b = record {
  more = a.more ++ b.more;
  joined = b.joined ∙ ap (λ xs. xs ++ b.more) a.joined ∙ append_assoc old a.more b.more;
  pass = all_both test a.more b.more a.pass b.pass;
}

-- some, and behind them the last one
pub completes_by : (each last : Event → Bool) (e : Event) (old mid new : List Receipt) → Grows (λ r. each r.event) old mid → last e ≡ true → Adds e mid new
    → Completes (λ r. each r.event) (λ r. last r.event) old new false
completes_by each last e old mid new a passes b = record {
  body = a.more;
  close = b.receipt ∷ [];
  joined = b.joined ∙ ap (λ xs. xs ++ b.receipt ∷ []) a.joined ∙ append_assoc old a.more (b.receipt ∷ []);
  are_each = a.pass;
  are_last = rw (b.event, passes) refl;
  closed = refl;
}

-- only some
pub completes_not : (each last : Receipt → Bool) (old new : List Receipt) → Grows each old new → Completes each last old new true
completes_not each last old new a = record {
  body = a.more;
  close = [];
  joined = a.joined ∙ ap (λ xs. old ++ xs) (sym (append-nil a.more));
  are_each = a.pass;
  are_last = refl;
  closed = refl;
}

-- some, and behind them some and the last one
pub completes_on : (each last : Receipt → Bool) (old mid new : List Receipt) (b : Bool) → Grows each old mid → Completes each last mid new b → Completes each last old new b
completes_on each last old mid new b a c = record {
  body = a.more ++ c.body;
  close = c.close;
  joined =
      c.joined
      ∙ ap (λ xs. xs ++ (c.body ++ c.close)) a.joined
      ∙ append_assoc old a.more (c.body ++ c.close)
      ∙ ap (λ xs. old ++ xs) (sym (append_assoc a.more c.body c.close));
  are_each = all_both each a.more c.body a.pass c.are_each;
  are_last = c.are_last;
  closed = c.closed;
}
