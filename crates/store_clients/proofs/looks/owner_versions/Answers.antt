use Rattle.std.proofs.Common.{List, [], sym, ◌∙◌, subst}
use Rattle.ring_store.specs.Stores.{held_at}
use Rattle.ring_versions.specs.declared.version.Version.{Version}
use Rattle.ring_versions.specs.Versions.{IsMerge}
use Rattle.store_clients.specs.Looks.{owned_at}
use Rattle.store_clients.proofs.SlotHasOfKey.{owner_merged, owner_has_none, no_owner}
use Rattle.store_clients.proofs.looks.owner_versions.Goals.{in-Some+in-Some-key_versions_in+in_ok-merge, in-Some+in_default-key_versions_in, in_default}
use Rattle.store_clients.proofs.looks.owner_versions.Goals as goal

pub returns-clause-ok : goal.returns-clause-ok
returns-clause-ok c =
    let a = c.args.parts.now in
    let stored = held_at a.stores in
    elim c.match-owner.branch [
      | in-Some+in-Some-key_versions_in+in_ok-merge w ↦
          subst (λ (xs : List Version). IsMerge [] (owned_at a.slots stored c.args.at.now.slot c.args.at.now.key) xs) (sym w.all-is)
          (owner_merged a.slots stored c.args.at.now.slot c.args.at.now.key w.in-Some.owner c.new-all.result w.in-Some-key_versions_in.held.now w.merge.new.self w.in-Some.ensures c.new-all.ensures
          (w.in-Some-key_versions_in.ensures).some.0 (w.in_ok-merge.ensures).ok)
      | in-Some+in_default-key_versions_in w ↦
          owner_has_none a.slots stored c.args.at.now.slot c.args.at.now.key w.in-Some.owner c.match-owner.all w.in-Some.ensures (w.all-is ∙ c.new-all.ensures) (w.in_default-key_versions_in.ensures).none
      | in_default w ↦ no_owner a.slots stored c.args.at.now.slot c.args.at.now.key c.match-owner.all w.in_default.ensures (w.all-is ∙ c.new-all.ensures)
    ]
