use Rattle.std.proofs.Common.{rules, ◌<◌, [], sym, subst, arith}
use Rattle.std.proofs.lemmas.Cmp.{ranked}
use Rattle.std.proofs.lemmas.List.Sorted.{answers_always}
use Rattle.ring_clock.specs.Groups.{group_in}
use Rattle.ring_clock.proofs.Finding.{no_group, none_beyond}
use Rattle.ring_clock.proofs.blocks.place_of.Goals as goal

-- the last block is of a lesser group
pub returns-then-found-group-2-clause-none : goal.returns-then-found-group-2-clause-none
returns-then-found-group-2-clause-none c =
    none_beyond c.args.blocks.now c.args.group c.min-guess.result c.index-blocks-guess.result c.requires (omega arith) c.index-blocks-guess.is (subst (λ n. n < c.args.group) c.group-found.ensures c.if-found-group-2.true)

-- the closure gives a block's group
pub returns-in-Ok-clause-of : goal.returns-in-Ok-clause-of
returns-in-Ok-clause-of c =
    let at = (c.in-Ok.ensures).position group_in (answers_always _ _ _ (λ f a r g called. search rules)) in
    ranked _ c.args.group _ (sym (at []))

pub returns-in-Err-clause-none : goal.returns-in-Err-clause-none
returns-in-Err-clause-none c =
    let at = (c.in-Err.ensures).position group_in (answers_always _ _ _ (λ f a r g called. search rules)) in
    no_group c.args.blocks.now c.args.group c.in-Err.field-0 c.requires at
