use Rattle.std.proofs.Common.{◌≡◌, ◌++◌, ◌∷◌, [], codes, length, map, refl, arith}
use Rattle.std.specs.Fmt.{decimal}
use Rattle.std.proofs.lemmas.Bool.{le-leb}
use Rattle.plan_cert.proofs.PlainLaws.{line-front, small-each}
use Rattle.plan_cert.proofs.plain.add_plain_fact.Goals as goal

pub returns-in-Ok-clause-taken : goal.returns-in-Ok-clause-taken
returns-in-Ok-clause-taken c =
    let steps = c.plain_numbers.new.out.items in
    let least = le-leb 2 (length steps) (omega arith) in
    let most = le-leb (length steps) 1024 (omega arith) in
    let pushed : c.push.new.self ≡ c.args.facts.now ++ steps ∷ [] = rw c.as_slice.ensures.value at c.in-Ok.ensures.ok in (
      steps,
      record { room = omega arith; fact = rw (least, most) refl; small = small-each steps (λ k within. c.type_inv.steps k 0 within) },
      pushed,
      line-front (codes "fact") (map decimal steps) c.args.text.now c.in_ok-rest.rest.now c.in_ok-rest-2.rest.now c.in_ok-rest-3.rest.now
          c.in_ok-rest.ensures c.in_ok-rest-2.ensures c.in_ok-rest-3.ensures,
    )
