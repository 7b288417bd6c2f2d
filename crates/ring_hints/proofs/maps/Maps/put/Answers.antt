use Rattle.std.proofs.Common.{ap, Some, None}
use Rattle.store_maps.specs.Slots.{held_by}
use Rattle.ring_hints.specs.Pairs.{is_pair}
use Rattle.ring_hints.specs.Views.{is_of, pair_of}
use Rattle.ring_hints.proofs.PairChanged.{puts_map, put_back, kept_same, paired_same, kept_by, kept_at, paired_by, with_pair}
use Rattle.ring_hints.proofs.maps.Maps.put.Goals as goal

pub invariant_of-self-in-Err : goal.invariant_of-self-in-Err
invariant_of-self-in-Err c =
    let a = c.args.self.now in
    let pair = c.args.pair in
    let mid = c.insert.new.self in
    let new = c.remove.new.self in
    let same = put_back a.maps mid new pair (Some c.args.map) c.requires.absent (puts_map a.maps mid pair (Some c.args.map) (c.in_ok-insert.ensures).updates) (puts_map mid new pair None c.remove.ensures.updates) in
    record { paired = paired_same a.pairs c.add.new.self a.maps new (c.in-Err.ensures).err same a.paired; kept = kept_same a.maps new same a.kept }

pub invariant_of-self-in_default : goal.invariant_of-self-in_default
invariant_of-self-in_default c =
    let a = c.args.self.now in
    let pair = c.args.pair in
    let new = c.insert.new.self in
    let put = puts_map a.maps new pair (Some c.args.map) (c.in_ok-insert.ensures).updates in
    record {
      paired = paired_by a.maps new pair (Some c.args.map) put a.pairs c.add.new.self (λ x s. with_pair (is_of pair x s) (is_pair a.pairs x s) (is_pair c.add.new.self x s) ((c.in_default.ensures).ok x s)) a.paired;
      kept = kept_by a.maps new pair (Some c.args.map) put (kept_at pair c.args.map c.requires.kept) a.kept;
    }

pub returns-in-Err-clause-err : goal.returns-in-Err-clause-err
returns-in-Err-clause-err c x s k =
    let a = c.args.self.now in
    let pair = c.args.pair in
    let mid = c.insert.new.self in
    let new = c.remove.new.self in
    ap (λ o. held_by o k) (put_back a.maps mid new pair (Some c.args.map) c.requires.absent (puts_map a.maps mid pair (Some c.args.map) (c.in_ok-insert.ensures).updates) (puts_map mid new pair None c.remove.ensures.updates) (pair_of x s))

pub returns-clause-ok : goal.returns-clause-ok
returns-clause-ok c = puts_map c.args.self.now.maps c.insert.new.self c.args.pair (Some c.args.map) (c.in_ok-insert.ensures).updates
