use Rattle.std.proofs.Common.{◌≡◌, ℕ, List, [], sym, subst, rules}
use Rattle.ring_names.specs.declared.ids.NodeId.{NodeId}
use Rattle.ring_versions.specs.declared.version.Version.{Version}
use Rattle.ring_versions.specs.Versions.{IsMerge}
use Rattle.store_parts.proofs.ShownSets.{with_none}
use Rattle.ring_hints.specs.Hints.{hinted_at}
use Rattle.store_clients.proofs.SlotKeepers.{Merging, merging_none, merging_more, merging_all}
use Rattle.store_clients.specs.Keepers.{JoinIsAtMost}
use Rattle.store_clients.proofs.SlotJoins.{merge_told}
use Rattle.store_clients.proofs.keepers.merge_hints.Goals.{in_default-via-in-None-1, in_default-via-in-Some-key_versions_in+else-not-is_told}
use Rattle.store_clients.proofs.keepers.merge_hints.Goals as goal

pub keepers-init : goal.keepers-init
keepers-init c =
    let others = λ (x : ℕ). hinted_at c.args.hints.now x c.args.place.now.slot c.args.place.now.key in
    let keys = c.args.keepers.now.keys in
    subst (λ (rest : List NodeId). Merging c.args.all.now keys rest others c.args.all.now) (sym c.into_iter-keeper-iterator.ensures.into_iter_gives.0) (merging_none c.args.all.now keys others c.requires.apart)

pub keepers-preserved-in-keepers : goal.keepers-preserved-in-keepers
keepers-preserved-in-keepers c =
    let others = λ (x : ℕ). hinted_at c.args.hints.now x c.args.place.now.slot c.args.place.now.key in
    let more = c.merge.new.self in
    let held = (c.in-Some-key_versions_in.ensures).some.0 in
    merging_more c.args.all.now c.args.keepers.now.keys c.keepers.keeper-iterator c.next.new.self others c.keepers.all more c.in-Some.keeper.now (c.in-Some.ensures).steps
    (subst (λ (xs : List Version). IsMerge c.keepers.all xs more) held (c.in_ok-merge.ensures).ok) c.keepers.invariant

pub keepers-preserved : goal.keepers-preserved
keepers-preserved c =
    let others = λ (x : ℕ). hinted_at c.args.hints.now x c.args.place.now.slot c.args.place.now.key in
    let all = c.keepers.all in
    let apart = c.keepers.invariant.apart in
    let y = c.in-Some.keeper.now.0 in
    merging_more c.args.all.now c.args.keepers.now.keys c.keepers.keeper-iterator c.next.new.self others all all c.in-Some.keeper.now (c.in-Some.ensures).steps
    (elim c.in_default.branch [
      | in_default-via-in-None-1 w ↦ (let none : others y ≡ [] = search rules in subst (λ (xs : List Version). IsMerge all xs all) (sym none) (with_none all apart))
      | in_default-via-in-Some-key_versions_in+else-not-is_told w ↦ merge_told c.args.all.now others all y c.requires.told c.keepers.invariant.drawn (subst (λ (xs : List Version). JoinIsAtMost xs all) (w.in-Some-key_versions_in.ensures).some.0 (w.is_told.ensures w.if-not-is_told.false)) apart
    ]) c.keepers.invariant

pub returns-clause-ok : goal.returns-clause-ok
returns-clause-ok c =
    merging_all c.args.all.now c.args.keepers.now.keys c.keepers.keeper-iterator (λ (x : ℕ). hinted_at c.args.hints.now x c.args.place.now.slot c.args.place.now.key) c.keepers.all (c.in-None.ensures).steps.0 c.keepers.invariant
