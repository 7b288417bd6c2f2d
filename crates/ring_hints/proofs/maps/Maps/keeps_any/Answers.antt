use Rattle.std.proofs.lemmas.Bool.{false_from_ne_true}
use Rattle.ring_hints.specs.Pairs.{is_pair}
use Rattle.ring_hints.proofs.PairChanged.{keeps_is}
use Rattle.ring_hints.proofs.maps.Maps.keeps_any.Goals as goal

pub returns : goal.returns
returns c =
    let a = c.args.self.now in
    let x = c.args.keeper.0 in (
      λ h s. (keeps_is a x s).0 (false_from_ne_true (is_pair a.pairs x s) (λ y. let t = c.has_keeper.ensures.1 (s, y) in cc)),
      λ none. false_from_ne_true c.has_keeper.result (λ y. let t = c.has_keeper.ensures.0 y in let n = (keeps_is a x t.0).1 (none t.0) in let h = t.1 in cc),
    )
