use Rattle.std.proofs.Common.{◌≡◌, List, ℕ, true, subst, sym, [], get_or, ◌∙◌}
use Rattle.ring_names.specs.Lists.{has}
use Rattle.ring_clock.proofs.Causing.{raised_none, raised_one, raised_all, raise_at, has_first}
use Rattle.std.proofs.lemmas.List.{get_or_default}
use Rattle.ring_clock.proofs.causes.raise_to_seen.Goals as goal

-- src/causes.rt:39:5
pub seen-init : goal.seen-init
seen-init c = raised_none (λ v. get_or c.args.clocks.now v []) c.args.seen.now c.args.clock.now c.requires.none

-- src/causes.rt:40:22
pub bounds-clocks-put : goal.bounds-clocks-put
bounds-clocks-put c = c.requires.earlier c.in-Some.put.now (c.seen.invariant.left c.in-Some.put.now (subst (λ (xs : List ℕ). has c.in-Some.put.now xs ≡ true) (sym (c.in-Some.ensures).cases.0) (has_first c.in-Some.put.now c.in-Some.later.now)))

-- src/causes.rt:39:5
pub seen-preserved : goal.seen-preserved
seen-preserved c =
    let seen = c.seen.invariant.left c.in-Some.put.now (subst (λ (xs : List ℕ). has c.in-Some.put.now xs ≡ true) (sym (c.in-Some.ensures).cases.0) (has_first c.in-Some.put.now c.in-Some.later.now)) in
    let at = c.index-clocks-put.is ∙ get_or_default c.args.clocks.now c.in-Some.put.now c.index-clocks-put.result [] (c.requires.earlier c.in-Some.put.now seen) in
    raised_one (λ v. get_or c.args.clocks.now v []) c.args.seen.now c.seen.rest.now c.in-Some.later.now c.in-Some.put.now c.seen.clock c.raise.new.self (c.in-Some.ensures).cases.0 (raise_at c.seen.clock c.raise.new.self at (c.in_ok-raise.ensures).ok) c.seen.invariant

-- src/causes.rt:32:1
pub returns-clause-ok : goal.returns-clause-ok
returns-clause-ok c = raised_all (λ v. get_or c.args.clocks.now v []) c.args.seen.now c.seen.rest.now c.seen.clock (c.in_default.ensures).cases c.seen.invariant
