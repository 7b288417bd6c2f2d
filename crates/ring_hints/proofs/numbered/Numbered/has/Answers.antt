use Rattle.std.proofs.Common.{◌∙◌, sym, ap}
use Rattle.std.specs.BTreeMap.{get}
use Rattle.ring_hints.specs.Views.{by_keeper, in_order}
use Rattle.ring_hints.proofs.Numbering.{listed}
use Rattle.ring_hints.proofs.numbered.Numbered.has.Goals as goal

pub returns : goal.returns
returns c =
    let a = c.self.inside in
    let pair = c.args.pair in
    c.contains_key.ensures ∙ sym (listed (get by_keeper a.numbers) a.pairs.items c.self.invariant pair) ∙ ap (in_order pair.keeper.0 pair.slot) c.self.view_is
