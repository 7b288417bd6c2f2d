use Rattle.std.proofs.Common.{◌∙◌, ◌++◌, ℕ, List, sym, ap}
use Rattle.std.proofs.lemmas.Fmt.{decimal_digit}
use Rattle.ring_names.proofs.decimal.push_decimal.Goals as goal

pub returns-then-number-lt10 : goal.returns-then-number-lt10
returns-then-number-lt10 c = record { ok = (c.in_ok-push.ensures).items ∙ ap (λ (ds : List ℕ). c.args.out.now.items ++ ds) (sym (decimal_digit c.args.number c.if-number-lt10.true)) }
