use Rattle.std.proofs.Common.{◌∙◌, refl, ap, subst}
use Rattle.std.specs.Prelude.{IsSome, not, ◌&&◌, ◌==◌}
use Rattle.std.specs.HashMap as map
use Rattle.ring_names.specs.contracts.ids.SlotPartialEq.TheImpl as slot_eq
use Rattle.store_maps.specs.Ids.{same_key}
use Rattle.ring_hints.specs.SlotHolders.{has_key}
use Rattle.ring_hints.proofs.SlotHoldersChanged.{slot_changed}
use Rattle.ring_hints.proofs.slot_holders.SlotHolders.remove.Goals as goal

pub returns-in-Some : goal.returns-in-Some
returns-in-Some c =
    let at = map.get ((slot_eq.ghosts).eq) in
    let w = c.remove.new.self in
    let value = (c.in-Some.ensures).value in
    let all = ((c.get_mut.follows.holds w).3 (subst IsSome value refl)).0 in
    slot_changed c.args.pair (at c.args.self.now.slots) (at (c.get_mut.follows.lender w)) w c.args.key (λ b d. not b && d) (λ b. refl) all
    (λ k x. c.remove.ensures k x ∙ ap (λ o. not (same_key c.args.key k && (c.args.pair.keeper.0 == x)) && has_key o k x) value)
