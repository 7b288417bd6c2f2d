use Rattle.std.proofs.Common.{◌≡◌, ◌++◌, ◌∷◌, [], true, false, codes, length, map, is_some, refl, sym, ◌∙◌, arith}
use Rattle.std.specs.Fmt.{decimal}
use Rattle.std.proofs.lemmas.Bool.{eqb-false, le-leb}
use Rattle.ring_table.specs.Value.{names_of, allowance_of}
use Rattle.ring_table.proofs.Terms.{name_at}
use Rattle.plan_cert.proofs.Terms.{Chain, Both}
use Rattle.plan_cert.proofs.PlainLaws.{line-front, name-front, small-each}
use Rattle.plan_cert.proofs.plain.add_plain_chain.Goals as goal

pub returns-in-Ok-clause-taken : goal.returns-in-Ok-clause-taken
returns-in-Ok-clause-taken c =
    let ring = c.args.ring.now in
    let node = c.in_ok-node.node in
    let steps = c.plain_numbers.new.out.items in
    let x : Chain = record { node = node; side = Both; steps = steps } in
    let some = eqb-false _ _ (sym c.is_empty.ensures ∙ c.if-is_empty.false) in
    let least = le-leb 1 (length steps) (omega (arith, some)) in
    let has : is_some (allowance_of ring node.0 Both) ≡ true = rw (← c.in_ok-allowance.ensures) refl in
    let pushed : c.push.new.self ≡ c.args.chains.now ++ x ∷ [] = rw c.as_slice.ensures.value at c.in-Ok.ensures.ok in
    let name = name-front (names_of ring) node c.in_ok-rest.rest.now c.plain_word.result.1.now c.in_ok-rest-2.rest.now c.plain_word.result.0.now steps
    c.plain_word.ensures c.in_ok-rest-2.ensures c.in_ok-node.ensures.value in (
      x,
      record { room = omega arith; chain = rw (has, least) refl; small = small-each steps (λ k within. c.type_inv.steps k 0 within) },
      pushed,
      line-front (codes "chain") (name_at (names_of ring) node ∷ map decimal steps) c.args.text.now (32 ∷ c.in_ok-rest.rest.now) c.in_ok-rest-2.rest.now c.in_ok-rest-3.rest.now
          c.in_ok-rest.ensures name c.in_ok-rest-3.ensures,
    )
