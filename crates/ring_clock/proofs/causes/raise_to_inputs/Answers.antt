use Rattle.std.proofs.Common.{rules, ◌≡◌, ◌<◌, ℕ, List, [], length, get_or, true, IfSome, subst, ◌∙◌}
use Rattle.std.proofs.lemmas.List.{get_or_default}
use Rattle.ring_names.specs.Lists.{has}
use Rattle.ring_clock.specs.Built.{IsJoinOf}
use Rattle.ring_clock.proofs.Causing.{with_last, raise_at}
use Rattle.ring_clock.proofs.causes.raise_to_inputs.Goals as goal

-- src/causes.rt:47:1
pub returns-in_ok-raise-clause-ok : goal.returns-in_ok-raise-clause-ok
returns-in_ok-raise-clause-ok c =
    let few = subst (λ o. IfSome o (λ v. v < length c.args.clocks.now)) c.in-Some.is c.requires.last in
    let at = c.index-clocks-put.is ∙ get_or_default c.args.clocks.now c.in-Some.put c.index-clocks-put.result [] few in
    let seen = subst (λ (xs : List ℕ). IsJoinOf (λ v. get_or c.args.clocks.now v []) (λ v. has v xs ≡ true) c.raise_to_seen.new.clock) c.as_slice.ensures.value (c.in_ok-raise_to_seen.ensures).ok in
    with_last (λ v. get_or c.args.clocks.now v []) c.args.cause.now c.args.last c.in-Some.put c.raise_to_seen.new.clock c.raise.new.self c.in-Some.is (raise_at c.raise_to_seen.new.clock c.raise.new.self at (c.in_ok-raise.ensures).ok) seen

pub returns-in_default-clause-ok : goal.returns-in_default-clause-ok
returns-in_default-clause-ok c = search rules
