use Rattle.std.proofs.Common.{refl, ◌∙◌, ◌++◌, ◌∷◌, [], ap, List}
use Rattle.std.specs.BTreeMap.{get}
use Rattle.ring_hints.specs.Views.{by_keeper, in_order}
use Rattle.ring_hints.specs.declared.kept_for.KeptFor.{KeptFor}
use Rattle.ring_hints.proofs.KeeperSets.{pair_tie}
use Rattle.ring_hints.proofs.Numbering.{put_last}
use Rattle.ring_hints.proofs.numbered.Numbered.push.Goals as goal

pub invariant_of-self-2 : goal.invariant_of-self-2
invariant_of-self-2 c =
    let a = c.self.inside in
    let pair = c.args.pair in
    let absent = ap (in_order pair.keeper.0 pair.slot) c.self.view_is ∙ c.requires in
    let items = c.push_reserved.ensures.items ∙ ap (λ (l : List KeptFor). l ++ pair ∷ []) c.reserve.ensures.items in
    let number = c.len.ensures ∙ c.reserve.ensures.len ∙ a.pairs.ok.0 in
    put_last (get by_keeper a.numbers) (get by_keeper c.insert.new.self) a.pairs.items c.push_reserved.new.self.items pair c.self.invariant absent items
    (λ p. c.in_ok-insert.ensures.updates.0 p ∙ rw (pair_tie pair p, number) refl)
