use Rattle.std.proofs.Common.{◌≡◌, ◌++◌, ◌∷◌, [], arith}
use Rattle.ring_table.specs.Value.{names_of}
use Rattle.plan_text.specs.declared.step.Planned.{Planned}
use Rattle.plan_text.proofs.Below.{below_all}
use Rattle.plan_text.proofs.PlainLaws.{line-front}
use Rattle.plan_text.proofs.plain.add_plain.Goals as goal

pub returns-in-Ok-clause-taken : goal.returns-in-Ok-clause-taken
returns-in-Ok-clause-taken c =
    let after = c.plain_after.new.after.items in
    let x : Planned = record { step = c.in_ok-step.step; after = after } in
    let p = c.in_ok-rest.ensures in
    let is = c.len.ensures.valid in
    let many = is.steps in
    let pushed : c.push.new.self ≡ c.args.plan.now ++ x ∷ [] = rw c.as_slice.ensures.value at c.in-Ok.ensures.ok in (
      x,
      record {
        after = below_all 4294967296 _ after (omega arith) p.earlier;
        planned = record { ascending = p.ascending; earlier = p.earlier; few = p.few; sources = c.in_ok-step.ensures.moves.sources };
        room = omega arith;
        few = omega arith;
      },
      c.in_ok-step.ensures.moves,
      pushed,
      line-front (names_of c.args.ring.now) x c.args.text.now c.in_ok-step.rest.now c.in_ok-rest.rest.now c.in_ok-step.ensures.text p.text,
    )
