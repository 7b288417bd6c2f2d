use Rattle.std.proofs.Common.{◌≢◌, ◌∙◌, inl, [], refl, sym, ap, subst, Some}
use Rattle.std.specs.Prelude.{IsSome, is_some}
use Rattle.store_maps.specs.declared.key_id.KeyId.{KeyId}
use Rattle.store_maps.specs.Merges.{at_key}
use Rattle.store_maps.specs.Slots.{held_by, held_for}
use Rattle.store_maps.proofs.OneAnswer.{on_ok, on_err, on_either, always_err}
use Rattle.ring_hints.specs.Kept.{map_of, AreKept, ArePaired, PutsMap}
use Rattle.ring_hints.specs.Views.{pair_of}
use Rattle.ring_hints.proofs.PairChanged.{puts_map, same_by, merged_by, kept_by, kept_at, kept_merged, kept_first, not_emptied, paired_stays, merged_at}
use Rattle.ring_hints.proofs.maps.Maps.add_set.Goals.{After-merge}
use Rattle.ring_hints.proofs.maps.Maps.add_set.Goals as goal

puts : (c : After-merge) → PutsMap c.args.self.now.maps (c.get_mut.follows.lender c.merge.new.self) c.args.pair (Some c.merge.new.self)
puts c =
    let w = c.merge.new.self in
    puts_map c.args.self.now.maps (c.get_mut.follows.lender w) c.args.pair (Some w) ((c.get_mut.follows.holds w).3 (subst IsSome (c.in-Some.ensures).value refl))

pub invariant_of-self : goal.invariant_of-self
invariant_of-self c =
    let a = c.args.self.now in
    let pair = c.args.pair in
    let m = c.in-Some.map.now in
    let w = c.merge.new.self in
    let value = (c.in-Some.ensures).value in
    let new = c.get_mut.follows.lender w in
    let keeps = on_either c.merge.result _ _ ((k : KeyId) → held_for m k ≢ [] → held_for w k ≢ []) c.merge.ensures.ok c.merge.ensures.err
    (λ merged k some. not_emptied (held_for m k) (at_key c.args.key c.args.more.now k) (held_for w k) (merged k) (inl some)) (λ same k some none. some (sym (same k) ∙ none)) in
    record {
      paired = paired_stays a.maps new pair (Some w) (puts (goal.at.invariant_of-self c).After-merge) a.pairs (ap is_some value) a.paired;
      kept = kept_by a.maps new pair (Some w) (puts (goal.at.invariant_of-self c).After-merge) (kept_at pair w (kept_merged pair m w (a.kept pair m (sym value)) c.merge.ensures.stays c.merge.ensures.filled keeps)) a.kept;
    }

pub invariant_of-self-in_default : goal.invariant_of-self-in_default
invariant_of-self-in_default c =
    let a = c.args.self.now in
    let same = sym c.get_mut.follows.holds-at-none in
    record { paired = subst (λ maps. ArePaired a.pairs maps) same a.paired; kept = subst (λ maps. AreKept maps) same a.kept }

pub returns-in-Some-clause-ok : goal.returns-in-Some-clause-ok
returns-in-Some-clause-ok c =
    let maps = c.args.self.now.maps in
    let w = c.merge.new.self in
    let more = at_key c.args.key c.args.more.now in
    on_ok c.merge.result _ _
    (λ h. merged_by maps (c.get_mut.follows.lender w) c.args.pair (Some w) (puts (goal.at.returns-in-Some-clause-ok c).After-merge) more (merged_at c.in-Some.map.now w (map_of maps c.args.pair) more (λ k. ap (λ o. held_by o k) (c.in-Some.ensures).value) h)) c.merge.ensures.ok

pub returns-in-Some-clause-err : goal.returns-in-Some-clause-err
returns-in-Some-clause-err c =
    let w = c.merge.new.self in
    on_err c.merge.result _ _ (λ h. same_by c.args.self.now.maps (c.get_mut.follows.lender w) c.args.pair (Some w) (puts (goal.at.returns-in-Some-clause-err c).After-merge) (λ k. h k ∙ ap (λ o. held_by o k) (c.in-Some.ensures).value)) c.merge.ensures.err

pub returns-in_err-merge-clause-err : goal.returns-in_err-merge-clause-err
returns-in_err-merge-clause-err c = always_err c.from_residual.result _ (λ x s k. ap (λ maps. held_by (map_of maps (pair_of x s)) k) c.get_mut.follows.holds-at-none)

pub put-requires-clause-absent : goal.put-requires-clause-absent
put-requires-clause-absent c = ap (λ maps. map_of maps c.args.pair) c.get_mut.follows.holds-at-none ∙ sym (c.in_default.ensures).value

pub put-requires-clause-kept : goal.put-requires-clause-kept
put-requires-clause-kept c =
    kept_first c.args.pair c.new-map.result c.merge-2.new.self c.args.key c.args.more.now c.requires.few c.new-map.ensures.places c.merge-2.ensures.filled c.requires.some (c.in_ok-merge.ensures).ok

pub returns-clause-ok : goal.returns-clause-ok
returns-clause-ok c =
    let maps = c.args.self.now.maps in
    let pair = c.args.pair in
    let w = c.merge-2.new.self in
    let new = c.put.new.self.maps in
    let more = at_key c.args.key c.args.more.now in
    let reads = λ (k : KeyId). c.new-map.ensures.versions k ∙ ap (λ o. held_by o k) (c.in_default.ensures).value in
    on_ok c.put.result _ _
    (λ h. merged_by maps new pair (Some w) (subst (λ n. PutsMap n new pair (Some w)) c.get_mut.follows.holds-at-none h) more (merged_at c.new-map.result w (map_of maps pair) more reads (c.in_ok-merge.ensures).ok)) c.put.ensures.ok

pub returns-clause-err : goal.returns-clause-err
returns-clause-err c =
    on_err c.put.result _ _ (λ h x s k. h x s k ∙ ap (λ maps. held_by (map_of maps (pair_of x s)) k) c.get_mut.follows.holds-at-none) c.put.ensures.err
