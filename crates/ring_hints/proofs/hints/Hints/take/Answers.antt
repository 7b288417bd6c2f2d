use Rattle.std.proofs.Common.{◌≡◌, ◌∙◌, [], ap, refl, subst, Option}
use Rattle.std.specs.Prelude.{IfSome, IfNone}
use Rattle.store_maps.specs.declared.slot_map.SlotMap.{SlotMap}
use Rattle.store_maps.specs.Slots.{held_for}
use Rattle.store_maps.specs.declared.key_id.KeyId.{KeyId}
use Rattle.ring_hints.specs.Held.{has_any}
use Rattle.ring_hints.specs.Maps.{hinted_at}
use Rattle.ring_hints.specs.Views.{pair_of}
use Rattle.ring_hints.proofs.HeldChanged.{held_gone, held_taken}
use Rattle.ring_hints.proofs.hints.Hints.take.Goals as goal

pub invariant_of-self : goal.invariant_of-self
invariant_of-self c =
    let a = c.args.self.now in
    let mine = subst (λ (o : Option SlotMap). IfSome o (λ m. (k : KeyId) → held_for m k ≡ hinted_at a.kept c.args.keeper.0 c.args.slot k)) c.in-Some.is c.take-taken.ensures.some in
    record {
      held = held_taken a.kept c.take-taken.new.self a.holders c.forget.new.self (pair_of c.args.keeper.0 c.args.slot) a.held c.in-Some.map c.take-taken.ensures.after mine
          c.forget.ensures.others c.forget.ensures.gone c.forget.ensures.stays;
    }

pub invariant_of-self-in_default : goal.invariant_of-self-in_default
invariant_of-self-in_default c =
    let a = c.args.self.now in
    let none = subst (λ (o : Option SlotMap). IfNone o ((k : KeyId) → hinted_at a.kept c.args.keeper.0 c.args.slot k ≡ [])) c.in_default.is c.take-taken.ensures.none in
    let held = a.held c.args.keeper.0 c.args.slot in
    record { held = held_gone a.kept c.take-taken.new.self a.holders a.holders (pair_of c.args.keeper.0 c.args.slot) a.held c.take-taken.ensures.after (λ s k x e. refl) (λ k. held k ∙ ap has_any (none k)) }
