use Rattle.std.proofs.Common.{◌≡◌, ℕ, [], refl}
use Rattle.store_maps.specs.declared.key_id.KeyId.{KeyId}
use Rattle.ring_hints.specs.Maps.{hinted_at}
use Rattle.ring_hints.proofs.Others.{next_other, all_others}
use Rattle.ring_hints.proofs.maps.Maps.keeps_other.Goals.{else-index-slot-via-then-index-slot+else-keeps, else-index-slot-via-else-index-slot}
use Rattle.ring_hints.proofs.maps.Maps.keeps_other.Goals as goal

pub indexes-preserved : goal.indexes-preserved
indexes-preserved c =
    next_other (λ (i : ℕ). (k : KeyId) → hinted_at c.args.self.now c.args.keeper.0 (record { partition = c.args.slot.partition; index = i }) k ≡ []) c.args.slot.index c.indexes.index c.indexes.invariant
    (λ ne. elim c.else-index-slot.branch [
      | else-index-slot-via-then-index-slot+else-keeps w ↦ w.keeps.ensures.0 w.if-keeps.false
      | else-index-slot-via-else-index-slot w ↦ absurd (ne w.if-index-slot.false)
    ])

pub returns : goal.returns
returns c =
    let a = c.args.self.now in (
      λ e s same ne. all_others a c.args.keeper.0 c.indexes.index c.args.slot s c.indexes-test.false c.indexes.invariant same ne,
      λ all. refl,
    )
