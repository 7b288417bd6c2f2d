use Rattle.std.proofs.Common.{◌≡◌, ◌∙◌, ℕ, sym, ap}
use Rattle.std.specs.Prelude.{is_some}
use Rattle.store_maps.specs.Entries.{entries_of}
use Rattle.store_maps.specs.Held.{map_entry, below, has_place}
use Rattle.store_maps.specs.Trees.{tree_entry, has_entry}
use Rattle.store_maps.proofs.EntriesLeft.{no_places}
use Rattle.store_maps.proofs.Over.{no_room}
use Rattle.store_maps.proofs.Over.{read_alone, read_under}
use Rattle.store_maps.proofs.key_map.KeyMap.is_empty.Goals as goal

pub returns-then-is_empty : goal.returns-then-is_empty
unfolding map_entry
returns-then-is_empty c =
    let a = c.args.self.now in
    let own = (no_places (entries_of a.own.entries) c.is_empty.result c.is_empty.ensures.0 c.is_empty.ensures.1).0 c.if-is_empty.true in
    let lower = no_places (entries_of c.deref.result.now.entries) c.is_empty-then-is_empty.result c.is_empty-then-is_empty.ensures.0 c.is_empty-then-is_empty.ensures.1 in
    let same : (k : ℕ) → has_place a k ≡ has_entry c.deref.result.now k = λ k. ap is_some (read_under (tree_entry a.own k) (below a.shared k) (own k) ∙ ap (λ o. below o k) c.in-Some.is ∙ ap (λ t. tree_entry t k) (sym c.deref.ensures)) in
    (λ h k. same k ∙ lower.0 h k, λ h. lower.1 (λ k. sym (same k) ∙ h k))

pub returns-else-is_empty : goal.returns-else-is_empty
returns-else-is_empty c = (λ h. absurd cc, λ h. (no_places (entries_of c.args.self.now.own.entries) c.is_empty.result c.is_empty.ensures.0 c.is_empty.ensures.1).1 (λ k. no_room c.args.self.now k (h k)))

pub returns-in-None : goal.returns-in-None
unfolding map_entry
returns-in-None c =
    let a = c.args.self.now in
    let own = no_places (entries_of a.own.entries) c.is_empty-in-None.result c.is_empty-in-None.ensures.0 c.is_empty-in-None.ensures.1 in
    let same : (k : ℕ) → has_place a k ≡ has_entry a.own k = λ k. ap is_some (read_alone a.shared (tree_entry a.own k) k c.in-None.is) in
    (λ h k. same k ∙ own.0 h k, λ h. own.1 (λ k. sym (same k) ∙ h k))
