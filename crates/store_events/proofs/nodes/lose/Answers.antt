use Rattle.std.specs.Prelude.{◌==◌}
use Rattle.std.proofs.Common.{◌∙◌, ◌<◌, sym, refl, subst, arith}
use Rattle.ring_table.specs.Value.{RingValue}
use Rattle.plan_text.specs.Valid.{is_ring_slot}
use Rattle.ring_store.specs.Stores.{held_at}
use Rattle.ring_hints.specs.Hints.{hinted_at}
use Rattle.store_parts.specs.Parts.{ring_of, plan_of, kept_of}
use Rattle.store_events.specs.Groups.{RaisesGroups}
use Rattle.store_events.proofs.RequiresMet.{may_be_raised, few_lost}
use Rattle.store_events.proofs.ShownLeft.{clears, forgets_named, placed_left}
use Rattle.store_events.proofs.GroupsRaised.{groups_named}
use Rattle.store_events.proofs.NodesOn.{lose_on}
use Rattle.store_events.proofs.nodes.lose.Goals as goal

pub raise_groups-requires : goal.raise_groups-requires
raise_groups-requires c = may_be_raised c.args.parts.now c.requires.sound

pub overflow_add-parts : goal.overflow_add-parts
overflow_add-parts c = (let l : c.args.parts.now.losses < 6 = few_lost c.args.parts.now c.requires.sound c.args.node c.requires.passes in omega arith)

pub returns-clause-next : goal.returns-clause-next
returns-clause-next c w m =
    let a = c.args.parts.now in
    let s = c.requires.sound.sized in
    let x = c.args.node in
    let raises = subst (λ (r : RingValue). RaisesGroups (hinted_at a.hints) x.0 (λ t. is_ring_slot r t) a.slots c.raise_groups.new.slots) c.ring-ring.ensures.value c.raise_groups.ensures in
    lose_on (ring_of a) (plan_of a) (kept_of a) w x m _ _ _ (sym (c.requires.passes w m)) (groups_named a.keys (hinted_at a.hints) x.0 (λ t. is_ring_slot (ring_of a) t) a.slots c.raise_groups.new.slots s.numbered s.hinted raises)
    (forgets_named a.keys (λ y t. y == x.0) (held_at a.stores) (held_at c.clear.new.self) (clears x (held_at a.stores) (held_at c.clear.new.self) c.clear.ensures.gone c.clear.ensures.others))
    (forgets_named a.keys (λ y t. y == x.0) (hinted_at a.hints) (hinted_at c.drop_keeper.new.self) (clears x (hinted_at a.hints) (hinted_at c.drop_keeper.new.self) c.drop_keeper.ensures.gone c.drop_keeper.ensures.others))

pub returns-clause-follows : goal.returns-clause-follows
returns-clause-follows c =
    let a = c.args.parts.now in
    let s = c.requires.sound.sized in
    let x = c.args.node in
    record {
      approved = refl;
      sized = record {
        space = c.clear.ensures.space ∙ s.space;
        keys = s.keys;
        numbered = s.numbered;
        stored = placed_left a.keys (λ y t. y == x.0) (held_at a.stores) (held_at c.clear.new.self) (clears x (held_at a.stores) (held_at c.clear.new.self) c.clear.ensures.gone c.clear.ensures.others) s.stored;
        hinted = placed_left a.keys (λ y t. y == x.0) (hinted_at a.hints) (hinted_at c.drop_keeper.new.self) (clears x (hinted_at a.hints) (hinted_at c.drop_keeper.new.self) c.drop_keeper.ensures.gone c.drop_keeper.ensures.others) s.hinted;
      };
    }
