use Rattle.std.proofs.Common.{◌≡◌, ◌+◌, ◌∙◌, Bool, cond, refl, ap, sym, subst, None}
use Rattle.std.specs.Prelude.{is_some}
use Rattle.ring_hints.specs.Pairs.{is_pair, pair_count}
use Rattle.ring_hints.specs.Views.{is_of, pair_of}
use Rattle.ring_hints.proofs.PairChanged.{puts_map, kept_by, paired_by, without_pair, gone_by}
use Rattle.ring_hints.proofs.maps.Maps.take.Goals as goal

pub invariant_of-self : goal.invariant_of-self
invariant_of-self c =
    let a = c.args.self.now in
    let pair = pair_of c.args.keeper.0 c.args.slot in
    let new = c.remove-2.new.self in
    let out = puts_map a.maps new pair None c.remove-2.ensures.updates in
    record {
      paired = paired_by a.maps new pair None out a.pairs c.remove.new.self (λ x s. without_pair (is_of pair x s) (is_pair a.pairs x s) (is_pair c.remove.new.self x s) (c.remove.ensures.pairs x s)) a.paired;
      kept = kept_by a.maps new pair None out (λ m e. absurd cc) a.kept;
    }

pub returns-clause-after : goal.returns-clause-after
returns-clause-after c =
    let a = c.args.self.now in
    let pair = pair_of c.args.keeper.0 c.args.slot in
    gone_by a.maps c.remove-2.new.self pair None (puts_map a.maps c.remove-2.new.self pair None c.remove-2.ensures.updates) refl

pub returns-clause-count : goal.returns-clause-count
returns-clause-count c =
    let a = c.args.self.now in
    let found = a.paired c.args.keeper.0 c.args.slot ∙ sym (ap is_some c.remove-2.ensures.value) in
    subst (λ (b : Bool). pair_count c.remove.new.self + cond b 1 0 ≡ pair_count a.pairs) found c.remove.ensures.count
