use Rattle.std.proofs.Common.{◌∙◌, refl, sym, subst}
use Rattle.std.specs.Prelude.{◌==◌, ◌&&◌}
use Rattle.plan_text.specs.Steps.{is_slot}
use Rattle.plan_text.specs.declared.step.Step.{Step}
use Rattle.ring_store.specs.Stores.{held_at}
use Rattle.store_parts.specs.Numbers.{by_keys}
use Rattle.store_parts.specs.Parts.{kept_of}
use Rattle.store_events.specs.Acts.{Acts}
use Rattle.store_events.proofs.ShownLeft.{drops, forgets_named, placed_left}
use Rattle.store_events.proofs.RequiresMet.{may_be_mirrored}
use Rattle.store_events.proofs.steps.act.Goals as goal

pub raise-requires : goal.raise-requires
raise-requires c = may_be_mirrored c.args.parts.now c.requires.sound c.set_mirror.new.self c.in-Mirror.slot c.in-Mirror.node c.set_mirror.ensures

pub returns-in-Drop-clause-acts : goal.returns-in-Drop-clause-acts
returns-in-Drop-clause-acts c =
    let a = c.args.parts.now in
    let s = c.in-Drop.slot in
    let x = c.in-Drop.node in
    subst (λ (t : Step). Acts (kept_of a) (record (kept_of a) { stored = by_keys a.keys (held_at c.drop_slot.new.self) }) t) (sym c.in-Drop.is)
    (refl, forgets_named a.keys (λ y t. (y == x.0) && is_slot s t) (held_at a.stores) (held_at c.drop_slot.new.self) (drops x s (held_at a.stores) (held_at c.drop_slot.new.self) c.drop_slot.ensures.gone c.drop_slot.ensures.others))

pub returns-in-Drop-clause-follows : goal.returns-in-Drop-clause-follows
returns-in-Drop-clause-follows c =
    let a = c.args.parts.now in
    let z = c.requires.sound.sized in
    let s = c.in-Drop.slot in
    let x = c.in-Drop.node in
    record {
      approved = refl;
      sized = record {
        space = c.drop_slot.ensures.space ∙ z.space;
        keys = z.keys;
        numbered = z.numbered;
        stored = placed_left a.keys (λ y t. (y == x.0) && is_slot s t) (held_at a.stores) (held_at c.drop_slot.new.self) (drops x s (held_at a.stores) (held_at c.drop_slot.new.self) c.drop_slot.ensures.gone c.drop_slot.ensures.others) z.stored;
        hinted = z.hinted;
      };
    }
