use Rattle.plan_cert.proofs.PlainLaws.{small-each}
use Rattle.history_text.proofs.ReplyLaws.{counts-of}
use Rattle.history_text.proofs.plain.plain_counts.Goals as goal

pub returns-clause-counts : goal.returns-clause-counts
returns-clause-counts c =
    let numbers = c.plain_numbers.new.out.items in
    counts-of numbers (small-each numbers (λ k within. c.type_inv.out k 0 within))
