use Rattle.std.proofs.Common.{ℕ, List, true, sym, subst}
use Rattle.ring_store.specs.Stores.{held_at}
use Rattle.ring_hints.specs.Hints.{hinted_at}
use Rattle.ring_hints.specs.Views.{in_keepers}
use Rattle.ring_versions.specs.declared.version.Version.{Version}
use Rattle.store_clients.specs.Keepers.{MergesOthers}
use Rattle.store_clients.specs.Looks.{owned_at}
use Rattle.store_clients.proofs.SlotKeepers.{among_all, none_among, under_copy}
use Rattle.store_clients.proofs.SlotJoins.{tells_copy}
use Rattle.store_clients.proofs.looks.slot_versions.Goals.{in-Some+in_ok-merge_hints, in_default}
use Rattle.store_clients.proofs.looks.slot_versions.Goals as goal

pub merge_hints-requires-clause-told : goal.merge_hints-requires-clause-told
merge_hints-requires-clause-told c = tells_copy _ c.in_ok-all.all _ (c.in_ok-all.ensures).ok c.requires

pub returns-clause-ok : goal.returns-clause-ok
returns-clause-ok c =
    let a = c.args.parts.now in
    let at = c.args.at.now in
    let owned = owned_at a.slots (held_at a.stores) at.slot at.key in
    let others = λ (x : ℕ). hinted_at a.hints x at.slot at.key in
    let mid = c.in_ok-all.all in
    let copied = (c.in_ok-all.ensures).ok in
    elim c.match-key_keepers.branch [
      | in-Some+in_ok-merge_hints w ↦
          subst (λ (xs : List Version). MergesOthers owned (λ x. true) others xs) (sym w.all-is)
          (under_copy owned mid others w.merge_hints.new.all copied
          (among_all mid (λ x. in_keepers x w.in-Some.keepers.now.keys) others w.merge_hints.new.all (λ x e. ((w.in-Some.ensures).some x).0 e) (w.in_ok-merge_hints.ensures).ok))
      | in_default w ↦
          subst (λ (xs : List Version). MergesOthers owned (λ x. true) others xs) (sym w.all-is)
          (under_copy owned mid others mid copied (none_among mid others copied.apart (λ x. (w.in_default.ensures).none x)))
    ]
