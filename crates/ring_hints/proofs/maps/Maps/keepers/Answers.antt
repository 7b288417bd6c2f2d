use Rattle.std.proofs.Common.{◌≡◌, ◌∙◌, ap, sym}
use Rattle.store_maps.proofs.OneAnswer.{on_some, on_none}
use Rattle.ring_hints.specs.Pairs.{is_pair}
use Rattle.ring_hints.specs.Views.{in_keepers}
use Rattle.ring_hints.proofs.PairChanged.{keeps_is}
use Rattle.ring_hints.proofs.maps.Maps.keepers.Goals as goal

pub returns-clause-some : goal.returns-clause-some
returns-clause-some c =
    let a = c.args.self.now in
    on_some c.keepers.result _ _
    (λ nodes e x.
    let is = keeps_is a x c.args.slot in
    let same : in_keepers x nodes.now.keys ≡ is_pair a.pairs x c.args.slot = ap (in_keepers x) e ∙ (a.pairs.viewed x c.args.slot).1 in
    (λ h. is.0 (sym same ∙ h), λ none. same ∙ is.1 none))
    c.keepers.ensures.some

pub returns-clause-none : goal.returns-clause-none
returns-clause-none c =
    let a = c.args.self.now in
    on_none c.keepers.result _ _ (λ e x. (keeps_is a x c.args.slot).0 (sym (a.pairs.viewed x c.args.slot).1 ∙ ap (in_keepers x) e)) c.keepers.ensures.none
