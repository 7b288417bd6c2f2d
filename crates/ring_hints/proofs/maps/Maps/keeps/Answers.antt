use Rattle.std.proofs.Common.{◌∙◌, sym}
use Rattle.ring_hints.proofs.PairChanged.{keeps_is}
use Rattle.ring_hints.proofs.maps.Maps.keeps.Goals as goal

pub returns : goal.returns
returns c =
    let a = c.args.self.now in
    let is = keeps_is a c.args.keeper.0 c.args.slot in
    (λ h. is.0 (sym c.has.ensures ∙ h), λ none. c.has.ensures ∙ is.1 none)
